-- A network that is kept in rows: what it shows of a row, and what is left when one row is rewritten.
use Rattle.std.proofs.Common.{◌≡◌, ℕ, ◌+◌, ◌-◌, ◌<◌, ◌≤◌, Bool, true, false, cond, leb, List, length, get_or, set, ℤ, Some, None, Err, Option, sym, refl, ap, ap₂, ◌∙◌, subst, arith}
use Rattle.std.specs.List.{slice_get}
use Rattle.std.specs.Option.{option_map, ok_or, unwrap_or}
use Rattle.std.proofs.lemmas.Option.{slice_get-get_or}
use Rattle.std.proofs.lemmas.Bool.{le-leb, lt-leb}
use Rattle.networks.specs.declared.network.Arc.{Arc}
use Rattle.networks.specs.declared.stops.Stop.{Stop}
use Rattle.networks.specs.declared.stops.Stop.TheVariants.{Absent}
use Rattle.networks.specs.Stops.{told}
use Rattle.networks.specs.Limits.{cost_limit}
use Rattle.networks.specs.Answers.{Told, unless}
use Rattle.networks.specs.Nets.{Net, numbered, replaced, shown_arc, arc_at, held_stop, rebound_stop, with_bounds, rebounded, cost_stop, recost_stop, with_cost, recosted}
use Rattle.networks.proofs.Numbered.{numbered_next, item_at, nth_mapped, set_mapped, length_mapped}
use Rattle.networks.proofs.Shown.{unlocked}
use Rattle.makes.specs.declared.kept.Kept.{Kept}
use Rattle.makes.specs.Bases.{base_net, arcs_from, place_of, shown_of, shown_rows, kept_net}
use Rattle.makes.proofs.Counted.{no_place, a_place, absent}

-- ---- any network

module _ {C : Type 0} (n : Net C) (a : ℕ) where
  bounds_refused : (lo hi : ℤ) (s : Told) → Some s ≡ rebound_stop n a → n ≡ rebounded n a lo hi
  bounds_refused lo hi s e = ap (λ o. unless o n (record { nodes = n.nodes; arcs = replaced n.arcs a (option_map (with_bounds lo hi) (numbered n.arcs a)); locks = n.locks })) e

  cost_refused : (size : C → ℕ) (c : C) (s : Told) → Some s ≡ recost_stop size n a c → n ≡ recosted size n a c
  cost_refused size c s e = ap (λ o. unless o n (record { nodes = n.nodes; arcs = replaced n.arcs a (option_map (with_cost c) (numbered n.arcs a)); locks = n.locks })) e

-- ---- one with no lock-out

module _ {C : Type 0} (nodes : ℕ) (arcs : List (Arc C)) (a : ℕ) where
  abbrev base : Net C
  base = base_net nodes arcs

  base_arc : (o : Option (Arc C)) → o ≡ numbered arcs a → o ≡ arc_at base a
  base_arc o h = h ∙ sym (unlocked (numbered arcs a))

  bounds_granted : (x : Arc C) → Some x ≡ numbered arcs a → x.held ≡ false → None ≡ rebound_stop base a
  bounds_granted x h e = ap (λ b. cond b (Some (9, a)) None) (sym e) ∙ ap (held_stop a) (base_arc (Some x) h)

  bounds_changed : (lo hi : ℤ) (x : Arc C) → Some x ≡ numbered arcs a → x.held ≡ false → base_net nodes (set arcs (a - 1) (with_bounds lo hi x)) ≡ rebounded base a lo hi
  bounds_changed lo hi x h e =
      ap (λ o. base_net nodes (replaced arcs a (option_map (with_bounds lo hi) o))) h
      ∙ ap (λ o. unless o base (base_net nodes (replaced arcs a (option_map (with_bounds lo hi) (numbered arcs a))))) (bounds_granted x h e)

  cost_tested : (size : C → ℕ) (c : C) (x : Arc C) (b : Bool) → Some x ≡ numbered arcs a → x.fixed ≡ false → leb (size c) cost_limit ≡ b → cond b None (Some (4, a)) ≡ recost_stop size base a c
  cost_tested size c x b h e q =
      ap (λ t. cond t None (Some (4, a))) (sym q)
      ∙ ap (λ t. cond t (Some (10, a)) (cond (leb (size c) cost_limit) None (Some (4, a)))) (sym e)
      ∙ ap (cost_stop size a c) (base_arc (Some x) h)

  cost_changed : (size : C → ℕ) (c : C) (x : Arc C) → Some x ≡ numbered arcs a → None ≡ recost_stop size base a c → base_net nodes (set arcs (a - 1) (with_cost c x)) ≡ recosted size base a c
  cost_changed size c x h s =
      ap (λ o. base_net nodes (replaced arcs a (option_map (with_cost c) o))) h
      ∙ ap (λ o. unless o base (base_net nodes (replaced arcs a (option_map (with_cost c) (numbered arcs a))))) s

-- ---- one that is kept in rows, each an arc by its number

-- a number with no place
module _ {S R C : Type 0} (f : S → ℕ → R → Arc C) (t : Kept S R) (a : ℕ) where
  abbrev whole : Net C
  whole = kept_net f t

  pub arc_absent : None ≡ place_of (length (shown_rows t)) a → None ≡ arc_at whole a
  arc_absent h = ap (option_map (shown_arc false)) (no_place whole.arcs a (h ∙ ap (λ m. place_of m a) (sym (length_mapped (f t.shape) 1 (shown_rows t)))))

  -- the stop that tells it, and the network as it was
  module _ (s : Stop) (e : Err s ≡ ok_or (place_of (length (shown_rows t)) a) (Absent a)) where
    there : None ≡ arc_at whole a
    there = arc_absent (absent (place_of (length (shown_rows t)) a) a s e).0

    tells : Some (told s) ≡ Some (8, a)
    tells = ap (λ z. Some (told z)) (absent (place_of (length (shown_rows t)) a) a s e).1

    pub rebound_absent : (lo hi : ℤ) → (Some (told s) ≡ rebound_stop whole a) × (whole ≡ rebounded whole a lo hi)
    rebound_absent lo hi = let z : Some (8, a) ≡ rebound_stop whole a = ap (held_stop a) there in (tells ∙ z, bounds_refused whole a lo hi (8, a) z)

    pub recost_absent : (size : C → ℕ) (c : C) → (Some (told s) ≡ recost_stop size whole a c) × (whole ≡ recosted size whole a c)
    recost_absent size c = let z : Some (8, a) ≡ recost_stop size whole a c = ap (cost_stop size a c) there in (tells ∙ z, cost_refused whole a size c (8, a) z)

-- arc a has its row at place i
module _ {R C : Type 0} (f : ℕ → R → Arc C) (nodes : ℕ) (rows : List R) (a i : ℕ) (p : Some i ≡ place_of (length rows) a) where
  abbrev build : List R → List (Arc C)
  build xs = arcs_from f 1 xs

  abbrev made : List R → Net C
  made xs = base_net nodes (build xs)

  placed : (i + 1 ≡ a) × (i < length rows)
  placed = a_place (length rows) a i p

  -- the row there, as it is read
  abbrev row : R → R
  row d = get_or rows i d

  number : 1 + i ≡ a
  number = omega (arith, placed)

  reads : (d : R) → Some (f a (row d)) ≡ numbered (build rows) a
  reads d = sym (subst (λ (m : ℕ). numbered (build rows) m ≡ slice_get (build rows) i) placed.0 (numbered_next (build rows) i) ∙ nth_mapped f 1 rows i ∙ ap (option_map (f (1 + i))) (slice_get-get_or rows i d placed.1) ∙ ap (λ m. Some (f m (row d))) number)

  writes : (v : R) → build (set rows i v) ≡ set (build rows) (a - 1) (f a v)
  writes v = let e : i ≡ a - 1 = omega (arith, placed) in set_mapped f 1 rows i v ∙ ap₂ (λ j m. set (build rows) j (f m v)) e number

  pub arc_there : (d : R) → Some (f (i + 1) (row d)) ≡ arc_at (made rows) a
  arc_there d = subst (λ (m : ℕ). Some (f m (row d)) ≡ arc_at (made rows) a) (sym placed.0) (base_arc nodes (build rows) a (Some (f a (row d))) (reads d))

  module _ (free : (r : R) → (f a r).held ≡ false) where
    pub rebound_granted : (d : R) → None ≡ rebound_stop (made rows) a
    rebound_granted d = bounds_granted nodes (build rows) a (f a (row d)) (reads d) (free (row d))

    -- the row, rewritten as v, has other bounds
    pub rebound_there : (lo hi : ℤ) (d v : R) → f a v ≡ with_bounds lo hi (f a (row d)) → made (set rows i v) ≡ rebounded (made rows) a lo hi
    rebound_there lo hi d v w =
        let x = f a (row d) in
        ap (base_net nodes) (writes v ∙ ap (set (build rows) (a - 1)) w) ∙ bounds_changed nodes (build rows) a lo hi x (reads d) (free (row d))

  module _ (loose : (r : R) → (f a r).fixed ≡ false) (size : C → ℕ) (c : C) where
    -- the stop for a row that is there
    stop_there : (d : R) (t : Bool) → leb (size c) cost_limit ≡ t → cond t None (Some (4, a)) ≡ recost_stop size (made rows) a c
    stop_there d t q = cost_tested nodes (build rows) a size c (f a (row d)) t (reads d) (loose (row d)) q

    pub recost_large : cost_limit < size c → Some (4, a) ≡ recost_stop size (made rows) a c
    recost_large l = stop_there (item_at rows i placed.1) false (lt-leb (size c) cost_limit l)

    module _ (l : size c ≤ cost_limit) where
      pub recost_granted : (d : R) → None ≡ recost_stop size (made rows) a c
      recost_granted d = stop_there d true (le-leb (size c) cost_limit l)

      -- the row, rewritten as v, has another cost
      pub recost_there : (d v : R) → f a v ≡ with_cost c (f a (row d)) → made (set rows i v) ≡ recosted size (made rows) a c
      recost_there d v w =
          let x = f a (row d) in
          ap (base_net nodes) (writes v ∙ ap (set (build rows) (a - 1)) w) ∙ cost_changed nodes (build rows) a size c x (reads d) (recost_granted d)

-- ---- all rows are shown where one has a place

all_shown : {R : Type 0} (o : Option ℕ) (rows : List R) (a i : ℕ) → Some i ≡ place_of (length (shown_of o rows)) a → shown_of o rows ≡ rows
all_shown None rows a i p = absurd (let h = a_place 0 a i p in omega (arith, h))
all_shown (Some n) rows a i p = refl

shown_set : {R : Type 0} (o : Option ℕ) (rows : List R) (i : ℕ) (v : R) → shown_of o (set rows i v) ≡ set (shown_of o rows) i v
shown_set None rows i v = refl
shown_set (Some n) rows i v = refl

module _ {S R C : Type 0} (f : S → ℕ → R → Arc C) (t : Kept S R) (a i : ℕ) (p : Some i ≡ place_of (length (shown_rows t)) a) where
  abbrev count : ℕ
  count = unwrap_or t.nodes 0

  same : shown_rows t ≡ t.rows.now
  same = all_shown t.nodes t.rows.now a i p

  pub kept_arc : (d : R) → Some (f t.shape (i + 1) (get_or t.rows.now i d)) ≡ arc_at (kept_net f t) a
  kept_arc d = ap (λ xs. Some (f t.shape (i + 1) (get_or xs i d))) (sym same) ∙ arc_there (f t.shape) count (shown_rows t) a i p d

  -- the network once the row is rewritten as v
  abbrev written : R → Net C
  written v = base_net count (arcs_from (f t.shape) 1 (shown_of t.nodes (set t.rows.now i v)))

  written_is : (v : R) → written v ≡ base_net count (arcs_from (f t.shape) 1 (set (shown_rows t) i v))
  written_is v = ap (λ xs. base_net count (arcs_from (f t.shape) 1 xs)) (shown_set t.nodes t.rows.now i v)

  pub kept_rebound : ((r : R) → (f t.shape a r).held ≡ false) → (lo hi : ℤ) (d v : R) → f t.shape a v ≡ with_bounds lo hi (f t.shape a (get_or t.rows.now i d)) → written v ≡ rebounded (kept_net f t) a lo hi
  kept_rebound free lo hi d v w = written_is v ∙ rebound_there (f t.shape) count (shown_rows t) a i p free lo hi d v (w ∙ ap (λ xs. with_bounds lo hi (f t.shape a (get_or xs i d))) (sym same))

  pub kept_recost : ((r : R) → (f t.shape a r).fixed ≡ false) → (size : C → ℕ) (c : C) → size c ≤ cost_limit → (d v : R) → f t.shape a v ≡ with_cost c (f t.shape a (get_or t.rows.now i d)) → written v ≡ recosted size (kept_net f t) a c
  kept_recost loose size c l d v w = written_is v ∙ recost_there (f t.shape) count (shown_rows t) a i p loose size c l d v (w ∙ ap (λ xs. with_cost c (f t.shape a (get_or xs i d))) (sym same))
