-- What is spelled so is read: lines, and a whole file.
use Rattle.std.proofs.Common.{◌≡◌, ℕ, suc, ◌≤◌, Bool, true, false, cond, ◌&&◌, leb, List, [], ◌∷◌, ◌++◌, length, map, ℤ, pos, negsuc, Some, None, Ok, Option, sym, refl, ap, ◌∙◌, subst, append_assoc, arith}
use Rattle.std.specs.Prelude.{codes, int_le, nat_lt}
use Rattle.std.specs.Fmt.{decimal, signed_decimal}
use Rattle.std.specs.Char.{is_ascii_digit}
use Rattle.std.specs.List.{flat_map, prefix_len}
use Rattle.std.proofs.lemmas.Bool.Decides.{nat_tests}
use Rattle.std.proofs.lemmas.List.Concat.{flat_map-cons}
use Rattle.networks.specs.Limits.{most_nodes, most_arcs, cost_limit, bounds_fit}
use Rattle.networks.specs.Answers.{Told}
use Rattle.flows.specs.Stops.{or_else, ends_fit, arc_stop, arcs_stop}
use Rattle.makes.specs.declared.table.Row.{Row}
use Rattle.makes.specs.Tables.{row_arc}
use Rattle.tokens.specs.declared.spots.Spot.{Spot}
use Rattle.tokens.proofs.Fronts.{front_some}
use Rattle.lines.specs.Readings.{Reading, Outcome, then}
use Rattle.lines.specs.Lines.{expects, starts, finishes, count_in, bounds_in}
use Rattle.lines.proofs.Again.{at, Reads, then_reads, starts_reads, close_reads, space_reads, finishes_reads, value_reads, count_reads, bounds_reads}
use Rattle.files.specs.Kinds.{Tiers, TierLaws, Sized}
use Rattle.files.specs.Costs.{tier_in, second_in, numbers_in, cost_in}
use Rattle.files.specs.Arcs.{ends_in, arc_in}
use Rattle.files.specs.Tables.{Counts, header_in, rows_in}
use Rattle.files.specs.Texts.{header_text, cost_text, arc_text}
use Rattle.files.specs.Stopping.{no_flow}
use Rattle.files.proofs.Takes.{Small, Among, Fits, Counted, line_more, header_more, one, two, pair_text}

tier_reads : (z : ℤ) (p : Spot) (more : List ℕ) → Small z → prefix_len is_ascii_digit more ≡ 0 → Reads (tier_in (at p (signed_decimal z ++ more))) z more
tier_reads z p more h e = value_reads (negsuc 999999) (pos 1000000) z p more (omega arith) e (small z h)
  where
    small : (z : ℤ) → Small z → (int_le (negsuc 999999) z && int_le z (pos 1000000)) ≡ true
    small (pos n) h = grind (arith, nat_tests)
    small (negsuc n) h = grind (arith, nat_tests)

module _ {C : Type 0} (t : Tiers C) (laws : TierLaws t) where
  -- before a bracket
  numbers_reads : (c : C) (p : Spot) (more : List ℕ) → Small (t.first c) → Small (t.second c) → Reads (numbers_in t (at p (cost_text t c ++ (codes ")" ++ more)))) c (codes ")" ++ more)
  numbers_reads c p more hx hy = go (nat_lt t.count 2) refl
    where
      f : ℤ → Reading → Outcome C
      f first s = then (second_in t.count s) (λ second u. Ok (t.cost first second, u))

      text : (b : Bool) → nat_lt 1 t.count ≡ b → pair_text (t.first c) (t.second c) b ++ (codes ")" ++ more) ≡ cost_text t c ++ (codes ")" ++ more)
      text b q = ap (λ z. pair_text (t.first c) (t.second c) z ++ (codes ")" ++ more)) (sym q)

      -- with one number the second is 0
      whole : (y : ℤ) → y ≡ t.second c → t.cost (t.first c) y ≡ c
      whole y e = ap (t.cost (t.first c)) e ∙ laws.whole c

      none : nat_lt 1 t.count ≡ false → pos 0 ≡ t.second c
      none q = sym (ap t.second (sym (laws.whole c)) ∙ laws.second_is (t.first c) (t.second c) ∙ ap (λ z. cond z (t.second c) (pos 0)) q)

      single : nat_lt t.count 2 ≡ true → Reads (numbers_in t (at p (signed_decimal (t.first c) ++ (codes ")" ++ more)))) c (codes ")" ++ more)
      single q =
          then_reads (tier_in (at p (signed_decimal (t.first c) ++ (codes ")" ++ more)))) f (t.first c) c (codes ")" ++ more) (codes ")" ++ more) (tier_reads (t.first c) p (codes ")" ++ more) hx refl)
          (λ u. (
            u,
            ap (λ b. then (cond b (Ok (pos 0, at u (codes ")" ++ more))) (then (expects (codes " ") (at u (codes ")" ++ more))) (λ _ s. tier_in s))) (λ second v. Ok (t.cost (t.first c) second, v))) q
                ∙ ap (λ z. Ok (z, at u (codes ")" ++ more))) (whole (pos 0) (none (one t laws q))),
          ))

      double : nat_lt t.count 2 ≡ false → Reads (numbers_in t (at p (signed_decimal (t.first c) ++ (codes " " ++ (signed_decimal (t.second c) ++ (codes ")" ++ more)))))) c (codes ")" ++ more)
      double q =
          let rest = signed_decimal (t.second c) ++ (codes ")" ++ more) in
          then_reads (tier_in (at p (signed_decimal (t.first c) ++ (codes " " ++ rest)))) f (t.first c) c (codes " " ++ rest) (codes ")" ++ more) (tier_reads (t.first c) p (codes " " ++ rest) hx refl)
          (λ u. let k : Reads (then (then (expects (codes " ") (at u (codes " " ++ rest))) (λ _ s. tier_in s)) (λ second v. Ok (t.cost (t.first c) second, v))) c (codes ")" ++ more) =
          then_reads (then (expects (codes " ") (at u (codes " " ++ rest))) (λ _ s. tier_in s)) (λ second v. Ok (t.cost (t.first c) second, v)) (t.second c) c (codes ")" ++ more) (codes ")" ++ more)
          (then_reads (expects (codes " ") (at u (codes " " ++ rest))) (λ _ s. tier_in s) tt (t.second c) rest (codes ")" ++ more) (space_reads u rest) (λ v. tier_reads (t.second c) v (codes ")" ++ more) hy refl))
          (λ v. (v, ap (λ z. Ok (z, at v (codes ")" ++ more))) (laws.whole c))) in
          (k.0, ap (λ b. then (cond b (Ok (pos 0, at u (codes " " ++ rest))) (then (expects (codes " ") (at u (codes " " ++ rest))) (λ _ s. tier_in s))) (λ second v. Ok (t.cost (t.first c) second, v))) q ∙ k.1))

      go : (b : Bool) → nat_lt t.count 2 ≡ b → Reads (numbers_in t (at p (cost_text t c ++ (codes ")" ++ more)))) c (codes ")" ++ more)
      go true q = subst (λ v. Reads (numbers_in t (at p v)) c (codes ")" ++ more)) (sym (append_assoc (signed_decimal (t.first c)) [] (codes ")" ++ more)) ∙ text false (one t laws q)) (single q)
      go false q = subst (λ v. Reads (numbers_in t (at p v)) c (codes ")" ++ more)) (sym (append_assoc (signed_decimal (t.first c)) (codes " " ++ signed_decimal (t.second c)) (codes ")" ++ more)) ∙ text true (two t laws q)) (double q)

  cost_reads : (c : C) (p : Spot) (more : List ℕ) → Small (t.first c) → Small (t.second c) → Reads (cost_in t (at p (codes "(cost " ++ (cost_text t c ++ (codes ")" ++ more))))) c more
  cost_reads c p more hx hy =
      let f = λ (c : C) (u : Reading). then (expects (codes ")") u) (λ _ v. Ok (c, v)) in
      let rest = cost_text t c ++ (codes ")" ++ more) in
      then_reads (starts (codes "cost") (at p (codes "(cost " ++ rest))) (λ _ s. then (numbers_in t s) f) tt c rest more (starts_reads (codes "cost") (λ v. front_some 99 (codes "ost " ++ v)) p rest)
      (λ q. then_reads (numbers_in t (at q rest)) f c c (codes ")" ++ more) more (numbers_reads c q more hx hy)
      (λ u. then_reads (expects (codes ")") (at u (codes ")" ++ more))) (λ _ v. Ok (c, v)) tt c more more (close_reads u more) (λ v. (v, refl))))

ends_reads : (nodes a b : ℕ) (p : Spot) (more : List ℕ) → nodes ≤ most_nodes → Among nodes a → Among nodes b
    → Reads (ends_in nodes (at p (codes "(arc (from " ++ (decimal a ++ (codes ") (to " ++ (decimal b ++ (codes ")" ++ more))))))) (a, b) more
ends_reads nodes a b p more l ha hb =
    let h = λ (a : ℕ) (v : Reading). then (count_in (codes "to") 1 nodes v) (λ b w. Ok ((a, b), w)) in
    let g = λ (a : ℕ) (u : Reading). then (expects (codes " ") u) (λ _ v. h a v) in
    let to = codes "(to " ++ (decimal b ++ (codes ")" ++ more)) in
    let from = codes "(from " ++ (decimal a ++ (codes ") " ++ to)) in
    then_reads (starts (codes "arc") (at p (codes "(arc " ++ from))) (λ _ s. then (count_in (codes "from") 1 nodes s) g) tt (a, b) from more (starts_reads (codes "arc") (λ v. front_some 97 (codes "rc " ++ v)) p from)
    (λ q. then_reads (count_in (codes "from") 1 nodes (at q from)) g a (a, b) (codes " " ++ to) more (count_reads (codes "from") (λ v. front_some 102 (codes "rom " ++ v)) 1 nodes a q (codes " " ++ to) ha.0 ha.1 (omega arith))
    (λ q. then_reads (expects (codes " ") (at q (codes " " ++ to))) (λ _ v. h a v) tt (a, b) to more (space_reads q to)
    (λ q. then_reads (count_in (codes "to") 1 nodes (at q to)) (λ b w. Ok ((a, b), w)) b (a, b) more more (count_reads (codes "to") (λ v. front_some 116 (codes "o " ++ v)) 1 nodes b q more hb.0 hb.1 (omega arith)) (λ q. (q, refl)))))

module _ {C : Type 0} (t : Tiers C) (laws : TierLaws t) (nodes : ℕ) (few : nodes ≤ most_nodes) where
  arc_reads : (r : Row C) (p : Spot) (more : List ℕ) → Fits t nodes r → Reads (arc_in t nodes (at p (arc_text t r ++ more))) r more
  arc_reads r p more fits =
      let row : ℕ × ℕ → ℤ × ℤ → C → Row C = λ e b c. record { from = e.0; to = e.1; lo = b.0; hi = b.1; cost = c } in
      let f1 = λ (e : ℕ × ℕ) (b : ℤ × ℤ) (c : C) (x : Reading). then (finishes x) (λ _ y. Ok (row e b c, y)) in
      let f2 = λ (e : ℕ × ℕ) (b : ℤ × ℤ) (v : Reading). then (expects (codes " ") v) (λ _ w. then (cost_in t w) (f1 e b)) in
      let f3 = λ (e : ℕ × ℕ) (s : Reading). then (expects (codes " ") s) (λ _ u. then (bounds_in u) (f2 e)) in
      let e : ℕ × ℕ = (r.from, r.to) in
      let b : ℤ × ℤ = (r.lo, r.hi) in
      let cost = codes "(cost " ++ (cost_text t r.cost ++ (codes "))\n" ++ more)) in
      let bounds = codes "(lo " ++ (signed_decimal r.lo ++ (codes ") (hi " ++ (signed_decimal r.hi ++ (codes ") " ++ cost)))) in
      let line = codes "(arc (from " ++ (decimal r.from ++ (codes ") (to " ++ (decimal r.to ++ (codes ") " ++ bounds)))) in
      let whole : Reads (arc_in t nodes (at p line)) r more =
      then_reads (ends_in nodes (at p line)) f3 e r (codes " " ++ bounds) more (ends_reads nodes r.from r.to p (codes " " ++ bounds) few fits.from fits.to)
      (λ q. then_reads (expects (codes " ") (at q (codes " " ++ bounds))) (λ _ u. then (bounds_in u) (f2 e)) tt r bounds more (space_reads q bounds)
      (λ q. then_reads (bounds_in (at q bounds)) (f2 e) b r (codes " " ++ cost) more (bounds_reads r.lo r.hi q (codes " " ++ cost) fits.bounds)
      (λ q. then_reads (expects (codes " ") (at q (codes " " ++ cost))) (λ _ w. then (cost_in t w) (f1 e b)) tt r cost more (space_reads q cost)
      (λ q. then_reads (cost_in t (at q cost)) (f1 e b) r.cost r (codes ")\n" ++ more) more (cost_reads t laws r.cost q (codes ")\n" ++ more) fits.first fits.second)
      (λ q. then_reads (finishes (at q (codes ")\n" ++ more))) (λ _ y. Ok (r, y)) tt r more more (finishes_reads q more) (λ q. (q, refl))))))) in
      subst (λ v. Reads (arc_in t nodes (at p v)) r more) (sym (line_more t r more)) whole

-- what an arc that is not stopped has
fitting : {C : Type 0} (size : C → ℕ) (t : Tiers C) → Sized size t → (nodes a : ℕ) (r : Row C) → arc_stop size nodes a (row_arc r) (pos 0) ≡ None → Fits t nodes r
fitting size t sized nodes a r e = go (ends_fit nodes (row_arc r)) (leb (size r.cost) cost_limit) (bounds_fit r.lo r.hi) refl refl refl e
  where
    made : ends_fit nodes (row_arc r) ≡ true → leb (size r.cost) cost_limit ≡ true → bounds_fit r.lo r.hi ≡ true → Fits t nodes r
    made p q b =
        let s = sized r.cost in
        let c : size r.cost ≤ cost_limit = grind (arith, nat_tests) in
        record { from = (grind (arith, nat_tests), grind (arith, nat_tests)); to = (grind (arith, nat_tests), grind (arith, nat_tests)); bounds = b; first = omega arith; second = omega arith }

    go : (p q b : Bool) → ends_fit nodes (row_arc r) ≡ p → leb (size r.cost) cost_limit ≡ q → bounds_fit r.lo r.hi ≡ b → cond {A = Option Told} p (cond q (cond b None (Some (7, a))) (Some (4, a))) (Some (3, a)) ≡ None → Fits t nodes r
    go true true true hp hq hb e = made hp hq hb
    go true true false hp hq hb e = absurd cc
    go true false b hp hq hb e = absurd cc
    go false q b hp hq hb e = absurd cc

both_none : (a b : Option Told) → or_else a b ≡ None → (a ≡ None) × (b ≡ None)
both_none None b e = (refl, e)
both_none (Some s) b e = absurd cc

module _ {C : Type 0} (size : C → ℕ) (t : Tiers C) (laws : TierLaws t) (sized : Sized size t) (nodes : ℕ) (few : nodes ≤ most_nodes) where
  pub rows_reads : (rows : List (Row C)) (a : ℕ) (p : Spot) (more : List ℕ) → arcs_stop size nodes a (map row_arc rows) (no_flow (length rows)) ≡ None
      → Reads (rows_in t nodes (length rows) (at p (flat_map (arc_text t) rows ++ more))) rows more
  rows_reads [] a p more e = (p, refl)
  rows_reads (x ∷ xs) a p more e =
      let n = both_none (arc_stop size nodes a (row_arc x) (pos 0)) (arcs_stop size nodes (suc a) (map row_arc xs) (no_flow (length xs))) e in
      let rest = flat_map (arc_text t) xs ++ more in
      let text : arc_text t x ++ rest ≡ flat_map (arc_text t) (x ∷ xs) ++ more = sym (ap (λ v. v ++ more) (flat_map-cons (arc_text t) x xs) ∙ append_assoc (arc_text t x) (flat_map (arc_text t) xs) more) in
      let f = λ (x : Row C) (s : Reading). then (rows_in t nodes (length xs) s) (λ xs u. Ok (x ∷ xs, u)) in
      subst (λ v. Reads (rows_in t nodes (suc (length xs)) (at p v)) (x ∷ xs) more) text
      (then_reads (arc_in t nodes (at p (arc_text t x ++ rest))) f x (x ∷ xs) rest more (arc_reads t laws nodes few x p rest (fitting size t sized nodes a x n.0))
      (λ q. then_reads (rows_in t nodes (length xs) (at q rest)) (λ xs u. Ok (x ∷ xs, u)) xs (x ∷ xs) more more (rows_reads xs (suc a) q more n.1) (λ q. (q, refl))))

pub header_reads : (least most : ℕ) (h : Counts) (p : Spot) (more : List ℕ) → most ≤ 2 → Counted least most h → Reads (header_in least most (at p (header_text h ++ more))) h more
header_reads least most h p more l k =
    let f1 = λ (n a : ℕ) (k : ℕ) (y : Reading). then (finishes y) (λ _ z. Ok (let h : Counts = record { nodes = n; arcs = a; tiers = k } in h, z)) in
    let f2 = λ (n a : ℕ) (w : Reading). then (expects (codes " ") w) (λ _ x. then (count_in (codes "tiers") least most x) (f1 n a)) in
    let f3 = λ (n : ℕ) (u : Reading). then (expects (codes " ") u) (λ _ v. then (count_in (codes "arcs") 0 most_arcs v) (f2 n)) in
    let tiers = codes "(tiers " ++ (decimal h.tiers ++ (codes "))\n" ++ more)) in
    let arcs = codes "(arcs " ++ (decimal h.arcs ++ (codes ") " ++ tiers)) in
    let nodes = codes "(nodes " ++ (decimal h.nodes ++ (codes ") " ++ arcs)) in
    let whole : Reads (header_in least most (at p (codes "(net " ++ nodes))) h more =
    then_reads (starts (codes "net") (at p (codes "(net " ++ nodes))) (λ _ s. then (count_in (codes "nodes") 1 most_nodes s) f3) tt h nodes more (starts_reads (codes "net") (λ v. front_some 110 (codes "et " ++ v)) p nodes)
    (λ q. then_reads (count_in (codes "nodes") 1 most_nodes (at q nodes)) f3 h.nodes h (codes " " ++ arcs) more (count_reads (codes "nodes") (λ v. front_some 110 (codes "odes " ++ v)) 1 most_nodes h.nodes q (codes " " ++ arcs) k.nodes.0 k.nodes.1 (omega arith))
    (λ q. then_reads (expects (codes " ") (at q (codes " " ++ arcs))) (λ _ v. then (count_in (codes "arcs") 0 most_arcs v) (f2 h.nodes)) tt h arcs more (space_reads q arcs)
    (λ q. then_reads (count_in (codes "arcs") 0 most_arcs (at q arcs)) (f2 h.nodes) h.arcs h (codes " " ++ tiers) more (count_reads (codes "arcs") (λ v. front_some 97 (codes "rcs " ++ v)) 0 most_arcs h.arcs q (codes " " ++ tiers) (omega arith) k.arcs (omega arith))
    (λ q. then_reads (expects (codes " ") (at q (codes " " ++ tiers))) (λ _ x. then (count_in (codes "tiers") least most x) (f1 h.nodes h.arcs)) tt h tiers more (space_reads q tiers)
    (λ q. then_reads (count_in (codes "tiers") least most (at q tiers)) (f1 h.nodes h.arcs) h.tiers h (codes ")\n" ++ more) more (count_reads (codes "tiers") (λ v. front_some 116 (codes "iers " ++ v)) least most h.tiers q (codes ")\n" ++ more) k.tiers.0 k.tiers.1 (omega arith))
    (λ q. then_reads (finishes (at q (codes ")\n" ++ more))) (λ _ z. Ok (h, z)) tt h more more (finishes_reads q more) (λ q. (q, refl)))))))) in
    subst (λ v. Reads (header_in least most (at p v)) h more) (sym (header_more h more)) whole
