-- What is read was spelled so: lines, and a whole file.
use Rattle.std.proofs.Common.{◌≡◌, ℕ, zero, suc, ◌≤◌, Bool, true, false, cond, ◌&&◌, leb, List, [], ◌∷◌, ◌++◌, length, map, ℤ, pos, negsuc, Some, None, Ok, Option, sym, refl, ap, ap₂, ◌∙◌, subst, append_assoc, arith}
use Rattle.std.specs.Prelude.{codes, int_le, unsigned_abs, nat_lt}
use Rattle.std.specs.Fmt.{decimal, signed_decimal}
use Rattle.std.specs.List.{flat_map}
use Rattle.std.proofs.lemmas.Bool.{le-leb}
use Rattle.std.proofs.lemmas.Bool.Decides.{nat_tests}
use Rattle.std.proofs.lemmas.List.Concat.{flat_map-cons}
use Rattle.networks.specs.Limits.{most_nodes, most_arcs, cost_limit, bounds_fit}
use Rattle.networks.specs.Answers.{Told}
use Rattle.flows.specs.Stops.{or_else, ends_fit, arc_stop, arcs_stop}
use Rattle.makes.specs.declared.table.Row.{Row}
use Rattle.makes.specs.Tables.{row_arc}
use Rattle.lines.specs.Readings.{Reading, then}
use Rattle.lines.specs.Lines.{expects, starts, finishes, count_in, bounds_in}
use Rattle.lines.proofs.Takes.{then_ok, expects_takes, starts_takes, finishes_takes, value_takes, count_takes, bounds_takes}
use Rattle.files.specs.Kinds.{Tiers, TierLaws, Sized}
use Rattle.files.specs.Costs.{tier_in, second_in, numbers_in, cost_in}
use Rattle.files.specs.Arcs.{ends_in, arc_in}
use Rattle.files.specs.Tables.{Counts, header_in, rows_in}
use Rattle.files.specs.Texts.{header_text, cost_text, arc_text}
use Rattle.files.specs.Stopping.{no_flow}

-- a number of a cost is within the limit
abbrev pub Small : ℤ → Type 0
Small z = unsigned_abs z ≤ 1000000

tier_takes : (r : Reading) (m : ℤ × Reading) → tier_in r ≡ Ok m → (r.rest ≡ signed_decimal m.0 ++ m.1.rest) × Small m.0
tier_takes r m e = let w = value_takes (negsuc 999999) (pos 1000000) r m e in (w.0, small m.0 w.1)
  where
    small : (z : ℤ) → (int_le (negsuc 999999) z && int_le z (pos 1000000)) ≡ true → Small z
    small (pos n) h = grind (arith, nat_tests)
    small (negsuc n) h = grind (arith, nat_tests)

-- the texts of the two numbers of a cost
abbrev pub pair_text : ℤ → ℤ → Bool → List ℕ
pair_text a b two = signed_decimal a ++ cond two (codes " " ++ signed_decimal b) []

module _ {C : Type 0} (t : Tiers C) (laws : TierLaws t) where
  -- one number, or two
  pub one : nat_lt t.count 2 ≡ true → nat_lt 1 t.count ≡ false
  one h = let a = laws.some in grind (arith, nat_tests)

  pub two : nat_lt t.count 2 ≡ false → nat_lt 1 t.count ≡ true
  two h = grind (arith, nat_tests)

  numbers_takes : (r : Reading) (m : C × Reading) → numbers_in t r ≡ Ok m → (r.rest ≡ cost_text t m.0 ++ m.1.rest) × (Small (t.first m.0) × Small (t.second m.0))
  numbers_takes r m e =
      let f = λ (first : ℤ) (s : Reading). then (second_in t.count s) (λ second u. Ok (t.cost first second, u)) in
      let a = then_ok (tier_in r) f m e in
      let first = tier_takes r a.0 a.1.0 in
      go (nat_lt t.count 2) refl a.0 first a.1.1
    where
      -- the whole cost
      is : (x y : ℤ) (s : Reading) (b : Bool) → nat_lt 1 t.count ≡ b → (t.cost x y, s) ≡ m → Small x → Small (cond b y (pos 0)) → r.rest ≡ pair_text x (cond b y (pos 0)) b ++ s.rest
          → (r.rest ≡ cost_text t m.0 ++ m.1.rest) × (Small (t.first m.0) × Small (t.second m.0))
      is x y s b q i hx hy e =
          let k : t.second (t.cost x y) ≡ cond b y (pos 0) = laws.second_is x y ∙ ap (λ z. cond z y (pos 0)) q in
          let text : pair_text x (cond b y (pos 0)) b ≡ cost_text t (t.cost x y) =
          ap₂ (λ v w. pair_text v w b) (sym (laws.first_is x y)) (sym k) ∙ ap (pair_text (t.first (t.cost x y)) (t.second (t.cost x y))) (sym q) in
          subst (λ (z : C × Reading). (r.rest ≡ cost_text t z.0 ++ z.1.rest) × (Small (t.first z.0) × Small (t.second z.0))) i
          (e ∙ ap (λ v. v ++ s.rest) text, (subst Small (sym (laws.first_is x y)) hx, subst Small (sym k) hy))

      go : (b : Bool) → nat_lt t.count 2 ≡ b → (n : ℤ × Reading) → (r.rest ≡ signed_decimal n.0 ++ n.1.rest) × Small n.0
          → then (cond b (Ok (pos 0, n.1)) (then (expects (codes " ") n.1) (λ _ s. tier_in s))) (λ second u. Ok (t.cost n.0 second, u)) ≡ Ok m
          → (r.rest ≡ cost_text t m.0 ++ m.1.rest) × (Small (t.first m.0) × Small (t.second m.0))
      go true q n w e = is n.0 (pos 0) n.1 false (one q) (cc) w.1 (omega arith) (w.0 ∙ sym (append_assoc (signed_decimal n.0) [] n.1.rest))
      go false q n w e =
          let a = then_ok (then (expects (codes " ") n.1) (λ _ s. tier_in s)) (λ second u. Ok (t.cost n.0 second, u)) m e in
          let b = then_ok (expects (codes " ") n.1) (λ _ s. tier_in s) a.0 a.1.0 in
          let second = tier_takes b.0.1 a.0 b.1.1 in
          is n.0 a.0.0 a.0.1 true (two q) (cc) w.1 second.1
          (w.0 ∙ ap (λ v. signed_decimal n.0 ++ v) (expects_takes (codes " ") n.1 b.0 b.1.0 ∙ ap (λ v. codes " " ++ v) second.0) ∙ sym (append_assoc (signed_decimal n.0) (codes " " ++ signed_decimal a.0.0) a.0.1.rest))

  cost_takes : (r : Reading) (m : C × Reading) → cost_in t r ≡ Ok m → (r.rest ≡ codes "(cost " ++ (cost_text t m.0 ++ (codes ")" ++ m.1.rest))) × (Small (t.first m.0) × Small (t.second m.0))
  cost_takes r m e =
      let f = λ (c : C) (u : Reading). then (expects (codes ")") u) (λ _ v. Ok (c, v)) in
      let a = then_ok (starts (codes "cost") r) (λ _ s. then (numbers_in t s) f) m e in
      let b = then_ok (numbers_in t a.0.1) f m a.1.1 in
      let d = then_ok (expects (codes ")") b.0.1) (λ _ v. Ok (b.0.0, v)) m b.1.1 in
      let n = numbers_takes a.0.1 b.0 b.1.0 in
      let i : (b.0.0, d.0.1) ≡ m = cc in
      subst (λ (z : C × Reading). (r.rest ≡ codes "(cost " ++ (cost_text t z.0 ++ (codes ")" ++ z.1.rest))) × (Small (t.first z.0) × Small (t.second z.0))) i
      (starts_takes (codes "cost") r a.0 a.1.0 ∙ ap (λ v. codes "(cost " ++ v) (n.0 ∙ ap (λ v. cost_text t b.0.0 ++ v) (expects_takes (codes ")") b.0.1 d.0 d.1.0)), n.1)

-- an end is among the nodes
abbrev pub Among : ℕ → ℕ → Type 0
Among nodes n = (1 ≤ n) × (n ≤ nodes)

ends_takes : (nodes : ℕ) (r : Reading) (m : (ℕ × ℕ) × Reading) → ends_in nodes r ≡ Ok m
    → (r.rest ≡ codes "(arc (from " ++ (decimal m.0.0 ++ (codes ") (to " ++ (decimal m.0.1 ++ (codes ")" ++ m.1.rest))))) × (Among nodes m.0.0 × Among nodes m.0.1)
ends_takes nodes r m e =
    let h = λ (a : ℕ) (v : Reading). then (count_in (codes "to") 1 nodes v) (λ b w. Ok ((a, b), w)) in
    let g = λ (a : ℕ) (u : Reading). then (expects (codes " ") u) (λ _ v. h a v) in
    let a = then_ok (starts (codes "arc") r) (λ _ s. then (count_in (codes "from") 1 nodes s) g) m e in
    let b = then_ok (count_in (codes "from") 1 nodes a.0.1) g m a.1.1 in
    let d = then_ok (expects (codes " ") b.0.1) (λ _ v. h b.0.0 v) m b.1.1 in
    let x = then_ok (count_in (codes "to") 1 nodes d.0.1) (λ k w. Ok ((b.0.0, k), w)) m d.1.1 in
    let from = count_takes (codes "from") 1 nodes a.0.1 b.0 b.1.0 in
    let to = count_takes (codes "to") 1 nodes d.0.1 x.0 x.1.0 in
    let i : ((b.0.0, x.0.0), x.0.1) ≡ m = cc in
    subst (λ (z : (ℕ × ℕ) × Reading). (r.rest ≡ codes "(arc (from " ++ (decimal z.0.0 ++ (codes ") (to " ++ (decimal z.0.1 ++ (codes ")" ++ z.1.rest))))) × (Among nodes z.0.0 × Among nodes z.0.1)) i
    (starts_takes (codes "arc") r a.0 a.1.0 ∙ ap (λ v. codes "(arc " ++ v) (from.0 ∙ ap (λ v. codes "(from " ++ (decimal b.0.0 ++ (codes ")" ++ v))) (expects_takes (codes " ") b.0.1 d.0 d.1.0 ∙ ap (λ v. codes " " ++ v) to.0)), (from.1, to.1))

-- a row with ends among the nodes, bounds in order, and a cost within the limits
pub record Fits {C : Type 0} (t : Tiers C) (nodes : ℕ) (r : Row C) : Type 0 where
  pub from : Among nodes r.from
  pub to : Among nodes r.to
  pub bounds : bounds_fit r.lo r.hi ≡ true
  pub first : Small (t.first r.cost)
  pub second : Small (t.second r.cost)

eleven : (a b c d e f g h i j k more : List ℕ) → (a ++ b ++ c ++ d ++ e ++ f ++ g ++ h ++ i ++ j ++ k) ++ more ≡ a ++ (b ++ (c ++ (d ++ (e ++ (f ++ (g ++ (h ++ (i ++ (j ++ (k ++ more))))))))))
eleven a b c d e f g h i j k more = simp append_assoc

-- the line of an arc with a text after it
pub line_more : {C : Type 0} (t : Tiers C) (r : Row C) (more : List ℕ) → arc_text t r ++ more
    ≡ codes "(arc (from " ++ (decimal r.from ++ (codes ") (to " ++ (decimal r.to ++ (codes ") (lo " ++ (signed_decimal r.lo ++ (codes ") (hi " ++ (signed_decimal r.hi
    ++ (codes ") (cost " ++ (cost_text t r.cost ++ (codes "))\n" ++ more))))))))))
line_more t r more =
    eleven (codes "(arc (from ") (decimal r.from) (codes ") (to ") (decimal r.to) (codes ") (lo ") (signed_decimal r.lo) (codes ") (hi ") (signed_decimal r.hi) (codes ") (cost ") (cost_text t r.cost) (codes "))\n") more

module _ {C : Type 0} (t : Tiers C) (laws : TierLaws t) (nodes : ℕ) where
  arc_takes : (r : Reading) (m : Row C × Reading) → arc_in t nodes r ≡ Ok m → (r.rest ≡ arc_text t m.0 ++ m.1.rest) × Fits t nodes m.0
  arc_takes r m e =
      let row : ℕ × ℕ → ℤ × ℤ → C → Row C = λ e b c. record { from = e.0; to = e.1; lo = b.0; hi = b.1; cost = c } in
      let f1 = λ (e : ℕ × ℕ) (b : ℤ × ℤ) (c : C) (x : Reading). then (finishes x) (λ _ y. Ok (row e b c, y)) in
      let f2 = λ (e : ℕ × ℕ) (b : ℤ × ℤ) (v : Reading). then (expects (codes " ") v) (λ _ w. then (cost_in t w) (f1 e b)) in
      let f3 = λ (e : ℕ × ℕ) (s : Reading). then (expects (codes " ") s) (λ _ u. then (bounds_in u) (f2 e)) in
      let a = then_ok (ends_in nodes r) f3 m e in
      let b = then_ok (expects (codes " ") a.0.1) (λ _ u. then (bounds_in u) (f2 a.0.0)) m a.1.1 in
      let d = then_ok (bounds_in b.0.1) (f2 a.0.0) m b.1.1 in
      let g = then_ok (expects (codes " ") d.0.1) (λ _ w. then (cost_in t w) (f1 a.0.0 d.0.0)) m d.1.1 in
      let h = then_ok (cost_in t g.0.1) (f1 a.0.0 d.0.0) m g.1.1 in
      let k = then_ok (finishes h.0.1) (λ _ y. Ok (row a.0.0 d.0.0 h.0.0, y)) m h.1.1 in
      let ends = ends_takes nodes r a.0 a.1.0 in
      let bounds = bounds_takes b.0.1 d.0 d.1.0 in
      let cost = cost_takes t laws g.0.1 h.0 h.1.0 in
      let i : (row a.0.0 d.0.0 h.0.0, k.0.1) ≡ m = cc in
      let last = cost.0 ∙ ap (λ v. codes "(cost " ++ (cost_text t h.0.0 ++ (codes ")" ++ v))) (finishes_takes h.0.1 k.0 k.1.0) in
      let middle = bounds.0 ∙ ap (λ v. codes "(lo " ++ (signed_decimal d.0.0.0 ++ (codes ") (hi " ++ (signed_decimal d.0.0.1 ++ (codes ")" ++ v))))) (expects_takes (codes " ") d.0.1 g.0 g.1.0 ∙ ap (λ v. codes " " ++ v) last) in
      let whole = ends.0 ∙ ap (λ v. codes "(arc (from " ++ (decimal a.0.0.0 ++ (codes ") (to " ++ (decimal a.0.0.1 ++ (codes ")" ++ v))))) (expects_takes (codes " ") a.0.1 b.0 b.1.0 ∙ ap (λ v. codes " " ++ v) middle) in
      subst (λ (z : Row C × Reading). (r.rest ≡ arc_text t z.0 ++ z.1.rest) × Fits t nodes z.0) i
      (whole ∙ sym (line_more t (row a.0.0 d.0.0 h.0.0) k.0.1.rest), record { from = ends.1.0; to = ends.1.1; bounds = bounds.1; first = cost.1.0; second = cost.1.1 })

-- nothing stops the arc of such a row at no flow
unstopped : {C : Type 0} (size : C → ℕ) (t : Tiers C) → Sized size t → (nodes a : ℕ) (r : Row C) → Fits t nodes r → arc_stop size nodes a (row_arc r) (pos 0) ≡ None
unstopped size t sized nodes a r f = go (ends_fit nodes (row_arc r)) (leb (size r.cost) cost_limit) (bounds_fit r.lo r.hi) ends cost f.bounds
  where
    ends : ends_fit nodes (row_arc r) ≡ true
    ends = let x = f.from in let y = f.to in grind (arith, nat_tests)

    cost : leb (size r.cost) cost_limit ≡ true
    cost = let x = f.first in let y = f.second in let s = sized r.cost in le-leb (size r.cost) cost_limit (omega arith)

    go : (p q b : Bool) → p ≡ true → q ≡ true → b ≡ true → cond {A = Option Told} p (cond q (cond b None (Some (7, a))) (Some (4, a))) (Some (3, a)) ≡ None
    go true true true hp hq hb = refl
    go true true false hp hq hb = absurd cc
    go true false b hp hq hb = absurd cc
    go false q b hp hq hb = absurd cc

-- the rows of the lines
module _ {C : Type 0} (size : C → ℕ) (t : Tiers C) (laws : TierLaws t) (sized : Sized size t) (nodes : ℕ) where
  abbrev pub Lined : ℕ → Reading → List (Row C) × Reading → Type 0
  Lined k r m = (r.rest ≡ flat_map (arc_text t) m.0 ++ m.1.rest) × ((length m.0 ≡ k) × ((a : ℕ) → arcs_stop size nodes a (map row_arc m.0) (no_flow k) ≡ None))

  pub rows_takes : (k : ℕ) (r : Reading) (m : List (Row C) × Reading) → rows_in t nodes k r ≡ Ok m → Lined k r m
  rows_takes zero r m e = let i : ([], r) ≡ m = cc in subst (Lined zero r) i (refl, (refl, λ a. refl))
  rows_takes (suc k) r m e =
      let f = λ (x : Row C) (s : Reading). then (rows_in t nodes k s) (λ xs u. Ok (x ∷ xs, u)) in
      let a = then_ok (arc_in t nodes r) f m e in
      let b = then_ok (rows_in t nodes k a.0.1) (λ xs u. Ok (a.0.0 ∷ xs, u)) m a.1.1 in
      let first = arc_takes t laws nodes r a.0 a.1.0 in
      let rest = rows_takes k a.0.1 b.0 b.1.0 in
      let i : (a.0.0 ∷ b.0.0, b.0.1) ≡ m = cc in
      let text = first.0 ∙ ap (λ v. arc_text t a.0.0 ++ v) rest.0 ∙ sym (append_assoc (arc_text t a.0.0) (flat_map (arc_text t) b.0.0) b.0.1.rest)
      ∙ ap (λ v. v ++ b.0.1.rest) (sym (flat_map-cons (arc_text t) a.0.0 b.0.0)) in
      subst (Lined (suc k) r) i (text, (ap suc rest.1.0, λ n. ap (λ o. or_else o (arcs_stop size nodes (suc n) (map row_arc b.0.0) (no_flow k))) (unstopped size t sized nodes n a.0.0 first.1) ∙ rest.1.1 (suc n)))

seven : (a b c d e f g more : List ℕ) → (a ++ b ++ c ++ d ++ e ++ f ++ g) ++ more ≡ a ++ (b ++ (c ++ (d ++ (e ++ (f ++ (g ++ more))))))
seven a b c d e f g more = simp append_assoc

-- the first line with a text after it
pub header_more : (h : Counts) (more : List ℕ) → header_text h ++ more
    ≡ codes "(net (nodes " ++ (decimal h.nodes ++ (codes ") (arcs " ++ (decimal h.arcs ++ (codes ") (tiers " ++ (decimal h.tiers ++ (codes "))\n" ++ more))))))
header_more h more = seven (codes "(net (nodes ") (decimal h.nodes) (codes ") (arcs ") (decimal h.arcs) (codes ") (tiers ") (decimal h.tiers) (codes "))\n") more

pub record Counted (least most : ℕ) (h : Counts) : Type 0 where
  pub nodes : Among most_nodes h.nodes
  pub arcs : h.arcs ≤ most_arcs
  pub tiers : (least ≤ h.tiers) × (h.tiers ≤ most)

pub header_takes : (least most : ℕ) (r : Reading) (m : Counts × Reading) → header_in least most r ≡ Ok m → (r.rest ≡ header_text m.0 ++ m.1.rest) × Counted least most m.0
header_takes least most r m e =
    let f1 = λ (n a : ℕ) (k : ℕ) (y : Reading). then (finishes y) (λ _ z. Ok (let h : Counts = record { nodes = n; arcs = a; tiers = k } in h, z)) in
    let f2 = λ (n a : ℕ) (w : Reading). then (expects (codes " ") w) (λ _ x. then (count_in (codes "tiers") least most x) (f1 n a)) in
    let f3 = λ (n : ℕ) (u : Reading). then (expects (codes " ") u) (λ _ v. then (count_in (codes "arcs") 0 most_arcs v) (f2 n)) in
    let a = then_ok (starts (codes "net") r) (λ _ s. then (count_in (codes "nodes") 1 most_nodes s) f3) m e in
    let b = then_ok (count_in (codes "nodes") 1 most_nodes a.0.1) f3 m a.1.1 in
    let d = then_ok (expects (codes " ") b.0.1) (λ _ v. then (count_in (codes "arcs") 0 most_arcs v) (f2 b.0.0)) m b.1.1 in
    let g = then_ok (count_in (codes "arcs") 0 most_arcs d.0.1) (f2 b.0.0) m d.1.1 in
    let h = then_ok (expects (codes " ") g.0.1) (λ _ x. then (count_in (codes "tiers") least most x) (f1 b.0.0 g.0.0)) m g.1.1 in
    let k = then_ok (count_in (codes "tiers") least most h.0.1) (f1 b.0.0 g.0.0) m h.1.1 in
    let l = then_ok (finishes k.0.1) (λ _ z. Ok (let h : Counts = record { nodes = b.0.0; arcs = g.0.0; tiers = k.0.0 } in h, z)) m k.1.1 in
    let nodes = count_takes (codes "nodes") 1 most_nodes a.0.1 b.0 b.1.0 in
    let arcs = count_takes (codes "arcs") 0 most_arcs d.0.1 g.0 g.1.0 in
    let tiers = count_takes (codes "tiers") least most h.0.1 k.0 k.1.0 in
    let i : (let h : Counts × Reading = (record { nodes = b.0.0; arcs = g.0.0; tiers = k.0.0 }, l.0.1) in h) ≡ m = cc in
    let last = tiers.0 ∙ ap (λ v. codes "(tiers " ++ (decimal k.0.0 ++ (codes ")" ++ v))) (finishes_takes k.0.1 l.0 l.1.0) in
    let middle = arcs.0 ∙ ap (λ v. codes "(arcs " ++ (decimal g.0.0 ++ (codes ")" ++ v))) (expects_takes (codes " ") g.0.1 h.0 h.1.0 ∙ ap (λ v. codes " " ++ v) last) in
    let whole = starts_takes (codes "net") r a.0 a.1.0 ∙ ap (λ v. codes "(net " ++ v) (nodes.0 ∙ ap (λ v. codes "(nodes " ++ (decimal b.0.0 ++ (codes ")" ++ v))) (expects_takes (codes " ") b.0.1 d.0 d.1.0 ∙ ap (λ v. codes " " ++ v) middle)) in
    subst (λ (z : Counts × Reading). (r.rest ≡ header_text z.0 ++ z.1.rest) × Counted least most z.0) i
    (whole ∙ sym (header_more (record { nodes = b.0.0; arcs = g.0.0; tiers = k.0.0 }) l.0.1.rest), record { nodes = nodes.1; arcs = arcs.1.1; tiers = tiers.1 })
