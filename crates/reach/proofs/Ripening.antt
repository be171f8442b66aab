-- Labelling over an arc that leads across.
use Rattle.std.proofs.Common.{◌≡◌, ℕ, ◌+◌, [], ◌∷◌, length-append, ◌-◌, ◌<◌, ◌≤◌, Bool, true, false, cond, ltb, List, length, get_or, ℤ, pos, Some, None, sym, refl, ap, ◌∙◌, subst, ap₂, subst₂, arith}
use lib.Signed.{lt_z}
use Rattle.std.proofs.lemmas.Bool.{ltb-true, ltb-false, lt-ltb, le-ltb, cond-true, cond-false}
use Rattle.costs.specs.Kinds.{Kind, Laws, minus}
use Rattle.flows.specs.Kilter.{price, reduced}
use Rattle.networks.specs.Nets.{IsAt}
use Rattle.networks.specs.declared.network.Arc.{Arc}
use Rattle.labels.specs.declared.labelling.Labels.{Labels}
use Rattle.flows.specs.Laps.{near, far, step_over}
use Rattle.flows.specs.searching.Fits.{Fit, Fitting}
use Rattle.labels.specs.Moves.{may}
use Rattle.labels.specs.Good.{count, node_at, place_of, pushed, linked_by, Labelled, Good, Grown}
use Rattle.flows.proofs.ArcSums.{same_at}
use Rattle.flows.proofs.Group.{cancel, le_refl, left}
use Rattle.flows.proofs.Prices.{to_raised, from_raised}
use Rattle.labels.proofs.Extending.{new_room, new_good, new_grown}
use Rattle.reach.specs.declared.scans.Best.{Best}
use Rattle.flows.specs.declared.steps.Step.{Step}
use Rattle.flows.specs.searching.Prices.{Raised}
use Rattle.reach.specs.Scans.{is_labelled, crossing_at, slack_at, BestIs, Ripe, link_over}

across_ends : (x y : Bool) (p q : ℕ) (along : Bool) → ltb 0 p ≡ x → ltb 0 q ≡ y → cond x (cond y None (Some true)) (cond y (Some false) None) ≡ Some along → (0 < cond along p q) × (cond along q p ≡ 0)
across_ends true false p q true u v e = (ltb-true 0 p u, omega (arith, ltb-false 0 q v))
across_ends true false p q false u v e = absurd cc
across_ends false true p q false u v e = (ltb-true 0 q v, omega (arith, ltb-false 0 p u))
across_ends false true p q true u v e = absurd cc
across_ends true true p q along u v e = absurd cc
across_ends false false p q along u v e = absurd cc

pub crossed : {C : Type 0} (ls : Labels) (a : Arc C) (along : Bool) → crossing_at ls a ≡ Some along → Labelled ls (near a along) × (place_of ls (far a along) ≡ 0)
crossed ls a true e = across_ends (ltb 0 (place_of ls a.from)) (ltb 0 (place_of ls a.to)) (place_of ls a.from) (place_of ls a.to) true refl refl e
crossed ls a false e = across_ends (ltb 0 (place_of ls a.from)) (ltb 0 (place_of ls a.to)) (place_of ls a.from) (place_of ls a.to) false refl refl e

near_fits : {C : Type 0} (K : Kind C) (N : ℕ) (a : Arc C) (along : Bool) → Fit K N a → (1 ≤ near a along) × (near a along ≤ N)
near_fits K N a true f = (f.ends.0, f.ends.1)
near_fits K N a false f = (f.ends.2, f.ends.3)

-- labelling over an arc that leads across
module _ {C : Type 0} (K : Kind C) (arcs : List (Arc C)) (flow : List ℤ) (prices : List C) (chosen : ℕ) (few : length prices ≤ 256) (ls : Labels) (good : Good K arcs flow prices chosen ls) (fitting : Fitting K (length prices) arcs)
    (x : Step) (ripe : Ripe K arcs flow prices chosen ls x) (a : Arc C) (is : IsAt arcs x.arc a) where
  n : ℕ
  n = near a x.along

  same : ripe.0 ≡ a
  same = same_at arcs x.arc ripe.0 a ripe.1.is is

  across : Labelled ls (near a x.along) × (place_of ls (far a x.along) ≡ 0)
  across = crossed ls a x.along (subst (λ z. crossing_at ls z ≡ Some x.along) same ripe.1.leads)

  at_near : x.node ≡ near a x.along
  at_near = ripe.2 ∙ ap (λ z. near z x.along) same

  pub link_near : Labelled ls x.node
  link_near = subst (Labelled ls) (sym at_near) across.0

  pub link_node : (1 ≤ x.node) × (x.node ≤ 256)
  link_node = let f = near_fits K (length prices) a x.along (fitting x.arc a is) in (omega (arith, f.0, at_near), omega (arith, f.1, at_near, few))

  held : (place_of ls (near a x.along) ≤ count ls) × (node_at ls (place_of ls (near a x.along) - 1) ≡ near a x.along)
  held = good.whole.holds (near a x.along) (near_fits K (length prices) a x.along (fitting x.arc a is)).0 across.0

  at : ℕ
  at = place_of ls (near a x.along) - 1

  before : place_of ls (near a x.along) - 1 < count ls
  before = omega (arith, held.0, across.0)

  moves : may K prices a x.along (get_or flow x.arc (pos 0)) ≡ true
  moves = subst (λ z. may K prices z x.along (get_or flow x.arc (pos 0)) ≡ true) same ripe.3

  pub link_room : count ls < 256
  link_room = new_room K arcs flow prices chosen few ls good (place_of ls (near a x.along) - 1) x.arc before ripe.1.other a is (fitting x.arc a is) x.along (sym held.1) across.1 moves

  as_entry : pushed ls (linked_by a (step_over x.arc a x.along) (place_of ls (near a x.along) - 1)) ≡ pushed ls (link_over ls a x)
  as_entry = ap (λ (z : ℕ). pushed ls (linked_by a (record { node = z; arc = x.arc; along = x.along }) (place_of ls z - 1))) (sym at_near)

  pub link_good : (ms : Labels) → ms ≡ pushed ls (link_over ls a x) → Good K arcs flow prices chosen ms
  link_good ms e = subst (Good K arcs flow prices chosen) (as_entry ∙ sym e) (new_good K arcs flow prices chosen few ls good (place_of ls (near a x.along) - 1) x.arc before ripe.1.other a is (fitting x.arc a is) x.along (sym held.1) across.1 moves)

  pub link_grown : (ms : Labels) → ms ≡ pushed ls (link_over ls a x) → Grown ls ms
  link_grown ms e = subst (Grown ls) (as_entry ∙ sym e) (new_grown K arcs flow prices chosen few ls good (place_of ls (near a x.along) - 1) x.arc before ripe.1.other a is (fitting x.arc a is) x.along (sym held.1) across.1 moves)

  pub link_more : (ms : Labels) → ms ≡ pushed ls (link_over ls a x) → count ms ≡ count ls + 1
  link_more ms e = ap count e ∙ length-append ls.entries.items (link_over ls a x ∷ [])

-- what a slack is
slack_up : {C : Type 0} (K : Kind C) (c s : C) (a : Arc C) (f : ℤ) → slack_at K c a true f ≡ Some s → (K.le c K.zero ≡ false) × (lt_z f a.hi ≡ true) × (s ≡ c)
slack_up {C} K c s a f e = go (K.le c K.zero) (lt_z f a.hi) e
  where
    go : (x y : Bool) → cond x None (cond y (Some c) None) ≡ Some s → (x ≡ false) × (y ≡ true) × (s ≡ c)
    go true y e = absurd cc
    go false false e = absurd cc
    go false true e = (refl, refl, cc)

slack_down' : {C : Type 0} (K : Kind C) (c s : C) (a : Arc C) (f : ℤ) → slack_at K c a false f ≡ Some s → (K.le K.zero c ≡ false) × (lt_z a.lo f ≡ true) × (s ≡ K.neg c)
slack_down' {C} K c s a f e = go (K.le K.zero c) (lt_z a.lo f) e
  where
    go : (x y : Bool) → cond x None (cond y (Some (K.neg c)) None) ≡ Some s → (x ≡ false) × (y ≡ true) × (s ≡ K.neg c)
    go true y e = absurd cc
    go false false e = absurd cc
    go false true e = (refl, refl, cc)

module _ {C : Type 0} (K : Kind C) (laws : Laws K) where
  gone_up : (c e r : C) → e ≡ c → K.plus r e ≡ c → r ≡ K.zero
  gone_up c e r p q = cancel K laws r K.zero e (q ∙ sym p ∙ sym (laws.adds.left e))

  gone_down : (c e r : C) → e ≡ K.neg c → r ≡ K.plus c e → r ≡ K.zero
  gone_down c e r p q = q ∙ ap (K.plus c) p ∙ laws.cancels c

  not_below : (c : C) → K.le K.zero c ≡ false → K.le K.zero (K.neg c) ≡ true
  not_below c h = subst₂ (λ x y. K.le x y ≡ true) (laws.cancels c) (left K laws (K.neg c)) (laws.mono c K.zero (K.neg c) (laws.total K.zero c h))

  -- a slack is what brings the reduced cost to zero, and above zero
  pub slack_is : (c s : C) (a : Arc C) (way : Bool) (f : ℤ) → slack_at K c a way f ≡ Some s → (s ≡ cond way c (K.neg c)) × (K.le K.zero s ≡ true)
  slack_is c s a true f e = let u = slack_up K c s a f e in (u.2, subst (λ z. K.le K.zero z ≡ true) (sym u.2) (laws.total c K.zero u.0))
  slack_is c s a false f e = let u = slack_down' K c s a f e in (u.2, subst (λ z. K.le K.zero z ≡ true) (sym u.2) (not_below c u.0))

  -- once the prices have risen by its slack an arc may move
  module _ (arcs : List (Arc C)) (flow : List ℤ) (ps qs : List C) (chosen : ℕ) (ls : Labels) (e : C) (raised : Raised K (length ps) e (is_labelled ls) ps qs) where
    price_kept : (n : ℕ) → 1 ≤ n → n ≤ length ps → Labelled ls n → price K qs n ≡ price K ps n
    price_kept n l h p = raised n l h ∙ cond-true (ltb 0 (place_of ls n)) (price K ps n) (K.plus (price K ps n) e) (lt-ltb 0 (place_of ls n) p)

    price_risen : (n : ℕ) → 1 ≤ n → n ≤ length ps → place_of ls n ≡ 0 → price K qs n ≡ K.plus (price K ps n) e
    price_risen n l h p = raised n l h ∙ cond-false (ltb 0 (place_of ls n)) (price K ps n) (K.plus (price K ps n) e) (le-ltb 0 (place_of ls n) (omega arith))

    tight : (a : Arc C) (along : Bool) (f : ℤ) → Fit K (length ps) a → Labelled ls (near a along) → place_of ls (far a along) ≡ 0 → slack_at K (reduced K ps a) a along f ≡ Some e → may K qs a along f ≡ true
    tight a true f fit p q s =
        let u = slack_up K (reduced K ps a) e a f s in
        let r : reduced K qs a ≡ K.zero = gone_up (reduced K ps a) e (reduced K qs a) u.2
        (ap₂ (λ x y. K.plus (minus K (K.plus a.cost x) y) e) (price_kept a.from fit.ends.0 fit.ends.1 p) (price_risen a.to fit.ends.2 fit.ends.3 q)
        ∙ to_raised K laws e a.cost (price K ps a.from) (price K ps a.to)) in
        ap (λ z. lt_z f (cond z a.hi a.lo)) (ap (λ z. K.le z K.zero) r ∙ le_refl K laws K.zero) ∙ u.1
    tight a false f fit p q s =
        let u = slack_down' K (reduced K ps a) e a f s in
        let r : reduced K qs a ≡ K.zero = gone_down (reduced K ps a) e (reduced K qs a) u.2
        (ap₂ (λ x y. minus K (K.plus a.cost x) y) (price_risen a.from fit.ends.0 fit.ends.1 q) (price_kept a.to fit.ends.2 fit.ends.3 p)
        ∙ from_raised K laws e a.cost (price K ps a.from) (price K ps a.to)) in
        ap (λ z. lt_z (cond z a.lo a.hi) f) (ap (K.le K.zero) r ∙ le_refl K laws K.zero) ∙ u.1

    pub ripe_raised : (b : Best C) → b.slack ≡ e → Fitting K (length ps) arcs → BestIs K arcs flow ps chosen ls (Some b) → Ripe K arcs flow qs chosen ls b.over
    ripe_raised b q fitting (a, x, node, s) =
        let w = crossed ls a b.over.along x.leads in
        (a, x, node, tight a b.over.along (get_or flow b.over.arc (pos 0)) (fitting b.over.arc a x.is) w.0 w.1 (s ∙ ap Some q))
