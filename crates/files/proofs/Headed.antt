-- The counts of a first line are read alike whatever range the tiers are in, and a table has as many rows as they say.
use Rattle.std.proofs.Common.{◌≡◌, ℕ, zero, suc, Bool, true, false, cond, List, [], ◌∷◌, length, ℤ, pos, codes, Ok, Err, Result, sym, refl, ap, ◌∙◌, subst}
use Rattle.networks.specs.Limits.{most_nodes, most_arcs}
use Rattle.makes.specs.declared.table.Row.{Row}
use Rattle.tokens.specs.declared.spots.LineFault.{LineFault}
use Rattle.lines.specs.declared.Numeral.{Numeral}
use Rattle.lines.specs.Readings.{Reading, Outcome, start_of, ended, then}
use Rattle.lines.specs.Lines.{expects, starts, number_in, ranged, within_in, value_in, count_in}
use Rattle.files.specs.declared.faults.FileFault.{FileFault}
use Rattle.files.specs.declared.faults.FileFault.TheVariants.{Long}
use Rattle.files.specs.declared.faults.ReadStop.{ReadStop}
use Rattle.files.specs.Kinds.{Tiers}
use Rattle.files.specs.Arcs.{arc_in}
use Rattle.files.specs.Tables.{Counts, header_in, in_file, counts_of, rows_in, kept, body_in, in_read, with_counts, roomed, table_in}

-- two readings that begin alike
then_same : {A B : Type 0} (o : Outcome A) (f g : A → Reading → Outcome B) → ((x : A) (r : Reading) (a b : B × Reading) → f x r ≡ Ok a → g x r ≡ Ok b → a ≡ b) → (a b : B × Reading) → then o f ≡ Ok a → then o g ≡ Ok b → a ≡ b
then_same (Ok m) f g h a b p q = h m.0 m.1 a b p q
then_same (Err e) f g h a b p q = absurd cc

-- two readings that go on alike
then_both : {A B : Type 0} (o u : Outcome A) (f : A → Reading → Outcome B) → ((m n : A × Reading) → o ≡ Ok m → u ≡ Ok n → m ≡ n) → (a b : B × Reading) → then o f ≡ Ok a → then u f ≡ Ok b → a ≡ b
then_both {A} {B} (Ok m) (Ok n) f h a b p q =
    let e : m ≡ n = h m n refl refl in
    let k : f m.0 m.1 ≡ f n.0 n.1 = ap (λ (z : A × Reading). f z.0 z.1) e in
    let l = sym p ∙ k ∙ q in
    cc
then_both (Ok m) (Err e) f h a b p q = absurd cc
then_both (Err e) u f h a b p q = absurd cc

ranged_is : (least most : ℤ) (n : Numeral) (s : Reading) (a : Numeral × Reading) → ended (ranged least most n) s ≡ Ok a → a ≡ (n, s)
ranged_is least most n s a p = go (ranged least most n) refl p
  where
    number_is : (b : Bool) (e : LineFault) (v : Numeral) → cond b (Ok n) (Err e) ≡ Ok v → v ≡ n
    number_is true e v q = cc
    number_is false e v q = absurd cc

    go : (o : Result Numeral LineFault) → ranged least most n ≡ o → ended o s ≡ Ok a → a ≡ (n, s)
    go (Ok v) q p =
        let i : v ≡ n = number_is _ _ v q in
        let j : (v, s) ≡ a = cc in
        sym j ∙ ap (λ z. (z, s)) i
    go (Err e) q p = absurd cc

within_same : (l m k n : ℤ) (r : Reading) (a b : Numeral × Reading) → within_in l m r ≡ Ok a → within_in k n r ≡ Ok b → a ≡ b
within_same l m k n r a b = then_same (number_in r) _ _ (λ x s a b p q. ranged_is l m x s a p ∙ sym (ranged_is k n x s b q)) a b

value_same : (l m k n : ℤ) (r : Reading) (a b : ℤ × Reading) → value_in l m r ≡ Ok a → value_in k n r ≡ Ok b → a ≡ b
value_same l m k n r a b = then_both (within_in l m r) (within_in k n r) _ (within_same l m k n r) a b

count_same : (name : List ℕ) (l m k n : ℕ) (r : Reading) (a b : ℕ × Reading) → count_in name l m r ≡ Ok a → count_in name k n r ≡ Ok b → a ≡ b
count_same name l m k n r a b = then_same (starts name r) _ _ (λ _ s a b. then_both (value_in (pos l) (pos m) s) (value_in (pos k) (pos n) s) _ (value_same (pos l) (pos m) (pos k) (pos n) s) a b) a b

header_same : (l m k n : ℕ) (r : Reading) (a b : Counts × Reading) → header_in l m r ≡ Ok a → header_in k n r ≡ Ok b → a ≡ b
header_same l m k n r a b =
    then_same (starts (codes "net") r) _ _ (λ _ s a b. then_same (count_in (codes "nodes") 1 most_nodes s) _ _ (λ nodes u a b.
    then_same (expects (codes " ") u) _ _ (λ _ v a b. then_same (count_in (codes "arcs") 0 most_arcs v) _ _ (λ arcs w a b.
    then_same (expects (codes " ") w) _ _ (λ _ x a b. then_both (count_in (codes "tiers") l m x) (count_in (codes "tiers") k n x) _ (count_same (codes "tiers") l m k n x) a b) a b) a b) a b) a b) a b

-- a table that is read has the counts of the first line
pub counts_read : {C : Type 0} (t : Tiers C) (room : ℕ) (file : List ℕ) (h : Counts) (x : Counts × List (Row C)) → counts_of file ≡ Ok h → table_in t room file ≡ Ok x → x.0 ≡ h
counts_read {C} t room file h x p q = go _ (header_in 1 2 (start_of file)) (header_in t.count t.count (start_of file)) (header_same 1 2 t.count t.count (start_of file)) p q
  where
    whole : (b : Bool) (k : Counts) (w : Result (List (Row C)) ReadStop) (s : ReadStop) → cond b (with_counts k w) (Err s) ≡ Ok x → x.0 ≡ k
    whole true k (Ok rows) s e = let i : (k, rows) ≡ x = cc in sym (ap (λ z. z.0) i)
    whole true k (Err f) s e = absurd cc
    whole false k w s e = absurd cc

    go : (b : Bool) (o u : Outcome Counts) → ((a c : Counts × Reading) → o ≡ Ok a → u ≡ Ok c → a ≡ c) → cond b (in_file o) (Err Long) ≡ Ok h → roomed t room u ≡ Ok x → x.0 ≡ h
    go true (Ok m) (Ok n) same p q =
        let i : m ≡ n = same m n refl refl in
        let j : m.0 ≡ h = cc in
        whole _ n.0 _ _ q ∙ sym (ap (λ z. z.0) i) ∙ j
    go true (Ok m) (Err e) same p q = absurd cc
    go true (Err e) u same p q = absurd cc
    go false o u same p q = absurd cc

rows_long : {C : Type 0} (t : Tiers C) (nodes k : ℕ) (r : Reading) (m : List (Row C) × Reading) → rows_in t nodes k r ≡ Ok m → length m.0 ≡ k
rows_long t nodes zero r m e = let i : ([], r) ≡ m = cc in sym (ap (λ z. length z.0) i)
rows_long {C} t nodes (suc k) r m e = first (λ s n. rows_long t nodes k s n) (arc_in t nodes r) e
  where
    rest : (x : Row C) (o : Outcome (List (Row C))) → ((n : List (Row C) × Reading) → o ≡ Ok n → length n.0 ≡ k) → then o (λ xs u. Ok (x ∷ xs, u)) ≡ Ok m → length m.0 ≡ suc k
    rest x (Ok n) h e = let i : (x ∷ n.0, n.1) ≡ m = cc in sym (ap (λ z. length z.0) i) ∙ ap suc (h n refl)
    rest x (Err f) h e = absurd cc

    first : ((s : Reading) (n : List (Row C) × Reading) → rows_in t nodes k s ≡ Ok n → length n.0 ≡ k) → (o : Outcome (Row C)) → then o (λ x s. then (rows_in t nodes k s) (λ xs u. Ok (x ∷ xs, u))) ≡ Ok m → length m.0 ≡ suc k
    first before (Ok y) e = rest y.0 (rows_in t nodes k y.1) (before y.1) e
    first before (Err f) e = absurd cc

-- and as many rows
pub rows_read : {C : Type 0} (t : Tiers C) (room : ℕ) (file : List ℕ) (x : Counts × List (Row C)) → table_in t room file ≡ Ok x → length x.1 ≡ x.0.arcs
rows_read {C} t room file x q = go (header_in t.count t.count (start_of file)) q
  where
    kept_long : (k : ℕ) (o : Outcome (List (Row C))) → ((n : List (Row C) × Reading) → o ≡ Ok n → length n.0 ≡ k) → (rows : List (Row C)) → kept o ≡ Ok rows → length rows ≡ k
    kept_long k (Ok n) h rows e = last _ _ e
      where
        last : (b : Bool) (f : FileFault) → cond b (Ok n.0) (Err f) ≡ Ok rows → length rows ≡ k
        last true f e = let i : n.0 ≡ rows = cc in sym (ap length i) ∙ h n refl
        last false f e = absurd cc
    kept_long k (Err f) h rows e = absurd cc

    whole : (b : Bool) (k : Counts) (w : Result (List (Row C)) FileFault) (s : ReadStop) → ((rows : List (Row C)) → w ≡ Ok rows → length rows ≡ k.arcs) → cond b (with_counts k (in_read w)) (Err s) ≡ Ok x → length x.1 ≡ x.0.arcs
    whole true k (Ok rows) s h e = let i : (k, rows) ≡ x = cc in subst (λ z. length z.1 ≡ z.0.arcs) i (h rows refl)
    whole true k (Err f) s h e = absurd cc
    whole false k w s h e = absurd cc

    go : (o : Outcome Counts) → roomed t room o ≡ Ok x → length x.1 ≡ x.0.arcs
    go (Ok m) e = whole _ m.0 (body_in t m.0 m.1) _ (kept_long m.0.arcs (rows_in t m.0.nodes m.0.arcs m.1) (rows_long t m.0.nodes m.0.arcs m.1)) e
    go (Err f) e = absurd cc
