-- What is spelled so is read: each reading of a text that begins with the spelling of a value gives the value, and
-- leaves the text after it.
use Rattle.std.proofs.Common.{◌≡◌, ℕ, zero, suc, ◌+◌, ◌<◌, ◌≤◌, Bool, true, false, cond, ◌&&◌, leb, List, [], ◌∷◌, ◌++◌, length, take, drop, ℤ, pos, negsuc, nat_abs, Ok, Err, Result, Decides, sym, refl, ap, ap₂, ◌∙◌, subst, drop_at, arith, rules}
use Rattle.std.specs.Prelude.{codes, int_le, unsigned_abs}
use Rattle.std.specs.Fmt.{decimal, signed_decimal}
use Rattle.std.specs.Char.{is_ascii_digit}
use Rattle.std.specs.List.{prefix_len}
use Rattle.std.specs.Str.{bytes_eq}
use Rattle.std.proofs.lemmas.Slice.Eq.{bytes_eq-Decides}
use Rattle.std.proofs.lemmas.Bool.{le-leb}
use Rattle.std.proofs.lemmas.Bool.Decides.{nat_tests}
use Rattle.networks.specs.declared.stops.Stop.TheVariants as stop
use Rattle.networks.specs.Limits.{bounds_fit}
use Rattle.tokens.specs.declared.spots.Spot.{Spot}
use Rattle.tokens.specs.declared.spots.LineFault.{LineFault}
use Rattle.tokens.specs.declared.spots.Cause.TheVariants as cause
use Rattle.tokens.specs.Tokens.{Shape, opens, closes, space, line_feed, word, number, bytes_of, front_of, value_of}
use Rattle.tokens.proofs.Fronts.{front_some, number_front}
use Rattle.tokens.proofs.Numerals.{written}
use Rattle.lines.specs.declared.Numeral.{Numeral}
use Rattle.lines.specs.Readings.{Reading, Outcome, then, past, spot_after, fault_at, ended}
use Rattle.lines.specs.Lines.{token_or, expected, expects, starts, numeral, number_in, ranged, within_in, value_in, count_in, finishes, pair_of, in_line, low_in, high_in, bounds_in}

-- a reading at a spot
abbrev pub at : Spot → List ℕ → Reading
at p xs = record { spot = p; rest = xs }

-- the value is read, and this text is left
abbrev pub Reads : {A : Type 0} → Outcome A → A → List ℕ → Type 0
Reads o x more = (p : Spot) × (o ≡ Ok (x, at p more))

-- one reading, and then another
pub then_reads : {A B : Type 0} (o : Outcome A) (f : A → Reading → Outcome B) (x : A) (y : B) (more rest : List ℕ) → Reads o x more
    → ((p : Spot) → Reads (f x (at p more)) y rest) → Reads (then o f) y rest
then_reads o f x y more rest (p, e) h = let k = h p in (k.0, ap (λ z. then z f) e ∙ k.1)

bytes_same : (xs : List ℕ) → bytes_eq xs xs ≡ true
bytes_same xs = go (bytes_eq xs xs) (bytes_eq-Decides xs xs)
  where
    go : (b : Bool) → Decides b (xs ≡ xs) → b ≡ true
    go true d = refl
    go false d = d.1 refl

pub expects_reads : (due : List ℕ) (s : Shape) (p : Spot) (more : List ℕ) → bytes_of s ≡ due → front_of (due ++ more) ≡ Ok s → Reads (expects due (at p (due ++ more))) tt more
expects_reads due s p more i e =
    let r = at p (due ++ more) in
    let same : bytes_eq (bytes_of s) due ≡ true = ap (λ z. bytes_eq z due) i ∙ bytes_same due in
    let left : drop (length (bytes_of s)) (due ++ more) ≡ more = ap (λ z. drop (length z) (due ++ more)) i ∙ drop_at due more (length due) refl in
    (spot_after s p, ap (λ z. expected due r (token_or r z)) e ∙ ap (λ b. cond b (Ok (tt, past s r)) (Err (fault_at r cause.NotDue, r))) same ∙ ap (λ z. Ok (tt, at (spot_after s p) z)) left)

pub open_reads : (p : Spot) (more : List ℕ) → Reads (expects (codes "(") (at p (codes "(" ++ more))) tt more
open_reads p more = expects_reads (codes "(") opens p more refl (front_some 40 more)

pub close_reads : (p : Spot) (more : List ℕ) → Reads (expects (codes ")") (at p (codes ")" ++ more))) tt more
close_reads p more = expects_reads (codes ")") closes p more refl (front_some 41 more)

pub space_reads : (p : Spot) (more : List ℕ) → Reads (expects (codes " ") (at p (codes " " ++ more))) tt more
space_reads p more = expects_reads (codes " ") space p more refl (front_some 32 more)

feed_reads : (p : Spot) (more : List ℕ) → Reads (expects (10 ∷ []) (at p (10 ∷ more))) tt more
feed_reads p more = expects_reads (10 ∷ []) line_feed p more refl (front_some 10 more)

pub finishes_reads : (p : Spot) (more : List ℕ) → Reads (finishes (at p (codes ")\n" ++ more))) tt more
finishes_reads p more = then_reads (expects (codes ")") (at p (codes ")\n" ++ more))) (λ _ s. expects (10 ∷ []) s) tt tt (codes "\n" ++ more) more (close_reads p (codes "\n" ++ more)) (λ q. feed_reads q more)

-- a name is a word before a blank
abbrev pub IsName : List ℕ → Type 0
IsName name = (more : List ℕ) → front_of (name ++ (codes " " ++ more)) ≡ Ok (word name)

pub starts_reads : (name : List ℕ) → IsName name → (p : Spot) (more : List ℕ) → Reads (starts name (at p (codes "(" ++ (name ++ (codes " " ++ more))))) tt more
starts_reads name w p more =
    then_reads (expects (codes "(") (at p (codes "(" ++ (name ++ (codes " " ++ more))))) (λ _ s. then (expects name s) (λ _ t. expects (codes " ") t)) tt tt (name ++ (codes " " ++ more)) more (open_reads p (name ++ (codes " " ++ more)))
    (λ q. then_reads (expects name (at q (name ++ (codes " " ++ more)))) (λ _ t. expects (codes " ") t) tt tt (codes " " ++ more) more (expects_reads name (word name) q (codes " " ++ more) refl (w more))
    (λ u. space_reads u more))

-- before what is no digit
pub number_reads : (z : ℤ) (p : Spot) (more : List ℕ) → nat_abs z ≤ 9999999 → prefix_len is_ascii_digit more ≡ 0 → Reads (number_in (at p (signed_decimal z ++ more))) (record { value = z; spot = p }) more
number_reads z p more h e =
    let r = at p (signed_decimal z ++ more) in
    let w = signed_decimal z in (
      spot_after (number w) p,
      ap (λ t. numeral r (token_or r t)) (number_front z more h e)
          ∙ ap₂ (λ v t. Ok (record { value = v; spot = p }, at (spot_after (number w) p) t)) (written z more h e).1 (drop_at w more (length w) refl),
    )

pub within_reads : (least most z : ℤ) (p : Spot) (more : List ℕ) → nat_abs z ≤ 9999999 → prefix_len is_ascii_digit more ≡ 0 → (int_le least z && int_le z most) ≡ true
    → Reads (within_in least most (at p (signed_decimal z ++ more))) (record { value = z; spot = p }) more
within_reads least most z p more h e i =
    let n : Numeral = record { value = z; spot = p } in
    then_reads (number_in (at p (signed_decimal z ++ more))) (λ m s. ended (ranged least most m) s) n n more more (number_reads z p more h e)
    (λ q. (q, ap (λ b. ended (cond b (Ok n) (Err (record { spot = p; cause = cause.Range }))) (at q more)) i))

pub value_reads : (least most z : ℤ) (p : Spot) (more : List ℕ) → nat_abs z ≤ 9999999 → prefix_len is_ascii_digit more ≡ 0 → (int_le least z && int_le z most) ≡ true
    → Reads (value_in least most (at p (signed_decimal z ++ more))) z more
value_reads least most z p more h e i =
    then_reads (within_in least most (at p (signed_decimal z ++ more))) (λ m s. Ok (m.value, s)) (record { value = z; spot = p }) z more more (within_reads least most z p more h e i) (λ q. (q, refl))

pub count_reads : (name : List ℕ) → IsName name → (least most k : ℕ) (p : Spot) (more : List ℕ) → least ≤ k → k ≤ most → most ≤ 9999999
    → Reads (count_in name least most (at p (codes "(" ++ (name ++ (codes " " ++ (decimal k ++ (codes ")" ++ more))))))) k more
count_reads name w least most k p more l m h =
    then_reads (starts name (at p (codes "(" ++ (name ++ (codes " " ++ (decimal k ++ (codes ")" ++ more))))))) (λ _ s. then (value_in (pos least) (pos most) s) (λ v t. then (expects (codes ")") t) (λ _ u. Ok (unsigned_abs v, u)))) tt k (decimal k ++ (codes ")" ++ more)) more
    (starts_reads name w p (decimal k ++ (codes ")" ++ more)))
    (λ q. then_reads (value_in (pos least) (pos most) (at q (decimal k ++ (codes ")" ++ more)))) (λ v t. then (expects (codes ")") t) (λ _ u. Ok (unsigned_abs v, u))) (pos k) k (codes ")" ++ more) more
    (value_reads (pos least) (pos most) (pos k) q (codes ")" ++ more) (omega arith) refl (ap₂ ◌&&◌ (le-leb least k l) (le-leb k most m)))
    (λ u. then_reads (expects (codes ")") (at u (codes ")" ++ more))) (λ _ s. Ok (k, s)) tt k more more (close_reads u more) (λ v. (v, refl))))

small_lo : (lo hi : ℤ) → bounds_fit lo hi ≡ true → nat_abs lo ≤ 9999999
small_lo lo hi e = grind (arith, nat_tests)

small_hi : (lo hi : ℤ) → bounds_fit lo hi ≡ true → nat_abs hi ≤ 9999999
small_hi lo hi e = grind (arith, nat_tests)

-- the lower bound, with the spot of its number
low_reads : (lo : ℤ) (p : Spot) (more : List ℕ) → nat_abs lo ≤ 9999999 → (q : Spot) × Reads (low_in (at p (codes "(lo " ++ (signed_decimal lo ++ (codes ")" ++ more))))) (record { value = lo; spot = q }) more
low_reads lo p more h =
    let rest = signed_decimal lo ++ (codes ")" ++ more) in
    let start = starts_reads (codes "lo") (λ t. front_some 108 (111 ∷ 32 ∷ t)) p rest in
    let m : Numeral = record { value = lo; spot = start.0 } in
    let f : Numeral → Reading → Outcome Numeral = λ lo t. then (expects (codes ")") t) (λ _ u. Ok (lo, u)) in
    let o = number_in (at start.0 rest) in
    let i : Reads (then o f) m more =
    then_reads o f m m (codes ")" ++ more) more (number_reads lo start.0 (codes ")" ++ more) h refl)
    (λ q. then_reads (expects (codes ")") (at q (codes ")" ++ more))) (λ _ u. Ok (m, u)) tt m more more (close_reads q more) (λ v. (v, refl))) in
    (start.0, (i.0, ap (λ z. then z (λ _ s. then (number_in s) f)) start.1 ∙ i.1))

high_reads : (lo : Numeral) (hi : ℤ) (p : Spot) (more : List ℕ) → nat_abs hi ≤ 9999999 → bounds_fit lo.value hi ≡ true
    → Reads (high_in lo (at p (codes "(hi " ++ (signed_decimal hi ++ (codes ")" ++ more))))) (lo.value, hi) more
high_reads lo hi p more h e =
    let rest = signed_decimal hi ++ (codes ")" ++ more) in
    let start = starts_reads (codes "hi") (λ t. front_some 104 (105 ∷ 32 ∷ t)) p rest in
    let m : Numeral = record { value = hi; spot = start.0 } in
    let g : ℤ × ℤ → Reading → Outcome (ℤ × ℤ) = λ b u. then (expects (codes ")") u) (λ _ v. Ok (b, v)) in
    let f : Numeral → Reading → Outcome (ℤ × ℤ) = λ hi t. then (ended (in_line (pair_of lo hi)) t) g in
    let o = number_in (at start.0 rest) in
    let i : Reads (then o f) (lo.value, hi) more =
    then_reads o f m (lo.value, hi) (codes ")" ++ more) more (number_reads hi start.0 (codes ")" ++ more) h refl)
    (λ q. then_reads (ended (in_line (pair_of lo m)) (at q (codes ")" ++ more))) g (lo.value, hi) (lo.value, hi) (codes ")" ++ more) more
    (q, ap (λ b. ended (in_line (cond b (Ok (lo.value, hi)) (Err (record { spot = start.0; stop = stop.Bounds 0 })))) (at q (codes ")" ++ more))) e)
    (λ u. then_reads (expects (codes ")") (at u (codes ")" ++ more))) (λ _ v. Ok ((lo.value, hi), v)) tt (lo.value, hi) more more (close_reads u more) (λ v. (v, refl)))) in
    (i.0, ap (λ z. then z (λ _ s. then (number_in s) f)) start.1 ∙ i.1)

pub bounds_reads : (lo hi : ℤ) (p : Spot) (more : List ℕ) → bounds_fit lo hi ≡ true
    → Reads (bounds_in (at p (codes "(lo " ++ (signed_decimal lo ++ (codes ") (hi " ++ (signed_decimal hi ++ (codes ")" ++ more))))))) (lo, hi) more
bounds_reads lo hi p more e =
    let high = codes "(hi " ++ (signed_decimal hi ++ (codes ")" ++ more)) in
    let low = low_reads lo p (codes " " ++ high) (small_lo lo hi e) in
    let m : Numeral = record { value = lo; spot = low.0 } in
    then_reads (low_in (at p (codes "(lo " ++ (signed_decimal lo ++ (codes ") " ++ high))))) (λ lo s. then (expects (codes " ") s) (λ _ t. high_in lo t)) m (lo, hi) (codes " " ++ high) more low.1
    (λ q. then_reads (expects (codes " ") (at q (codes " " ++ high))) (λ _ t. high_in m t) tt (lo, hi) high more (space_reads q high)
    (λ u. high_reads m hi u more (small_hi lo hi e) e))
