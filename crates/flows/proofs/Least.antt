-- A flow with no arc out of kilter is a least one.
use Rattle.std.proofs.Common.{◌≡◌, ℕ, ◌≤◌, true, List, [], ◌∷◌, ℤ, ◌+ℤ◌, ◌-ℤ◌, sym, ap, ◌∙◌, subst₂, arith}
use borrow.Author.Differences.{ints}
use Rattle.std.specs.List.{AllByRecursion}
use Rattle.std.proofs.ByRecursion.{All-weaker}
use Rattle.costs.specs.Kinds.{Kind, Laws, sums}
use Rattle.networks.specs.declared.network.Arc.{Arc}
use Rattle.flows.specs.Flows.{over, sum_arcs, leaving, entering, total, EachArc, Within, Ends, SameImbalances}
use Rattle.flows.specs.Kilter.{price, reduced, InKilter, KilterIsLeast}
use Rattle.flows.proofs.Group.{assoc, right_comm, cancel_le, add_le, le_refl, times_zero, times_add, times_plus, times_minus, times_up, times_down}
use Rattle.flows.proofs.ArcSums.{costs, worth, over_add, over_same, worth_add, worth_same, gathered, each_weaker}
use Rattle.flows.proofs.Numbers.{kilter_parts}

module _ {C : Type 0} (K : Kind C) (laws : Laws K) where
  -- the total by the reduced costs
  abbrev reduced_total : List C → List (Arc C) → List ℤ → C
  reduced_total ps arcs fs = over K.zero K.plus (λ a f. K.times f (reduced K ps a)) arcs fs

  -- at one arc: a flow in kilter costs no more than one within the bounds
  arc_least : (ps : List C) (a : Arc C) (f g : ℤ) → InKilter K ps a f → Within a g → K.le (K.times f (reduced K ps a)) (K.times g (reduced K ps a)) ≡ true
  arc_least ps a f g kilter (gl, gh) =
      let c = reduced K ps a in
      let parts = kilter_parts (K.le K.zero c) (K.le c K.zero) a.lo a.hi f kilter in
      let up = times_up K laws f g c in
      let down = times_down K laws g f c in
      let one = laws.total K.zero c in
      grind (arith, ints)

  all_least : (ps : List C) (arcs : List (Arc C)) (fs gs : List ℤ) → EachArc (InKilter K ps) arcs fs → EachArc Within arcs gs →
      K.le (reduced_total ps arcs fs) (reduced_total ps arcs gs) ≡ true
  all_least ps [] fs gs h w = le_refl K laws K.zero
  all_least ps (a ∷ rest) [] gs h w = absurd h
  all_least ps (a ∷ rest) (f ∷ fs) [] h w = absurd w
  all_least ps (a ∷ rest) (f ∷ fs) (g ∷ gs) (h, hs) (w, ws) =
      add_le K laws (K.times f (reduced K ps a)) (K.times g (reduced K ps a)) (reduced_total ps rest fs) (reduced_total ps rest gs) (arc_least ps a f g h w) (all_least ps rest fs gs hs ws)

  module _ (N : ℕ) (ps : List C) (arcs : List (Arc C)) (ends : AllByRecursion (Ends N) arcs) where
    -- what leaves the nodes, and what enters them, at the nodes' prices
    out_of : List ℤ → C
    out_of fs = worth K.zero K.plus K.times 1 N (price K ps) (λ n. sum_arcs (leaving n) arcs fs)

    into : List ℤ → C
    into fs = worth K.zero K.plus K.times 1 N (price K ps) (λ n. sum_arcs (entering n) arcs fs)

    -- the total by the reduced costs, with what enters the nodes put back
    reduced_is : (fs : List ℤ) → K.plus (reduced_total ps arcs fs) (into fs) ≡ K.plus (total (sums K) arcs fs) (out_of fs)
    unfolding out_of into
    reduced_is fs =
        ap (K.plus (reduced_total ps arcs fs)) (gathered (costs K laws) K.times (times_zero K laws) (times_add K laws) (price K ps) (λ a. a.to) N arcs fs (All-weaker (Ends N) (λ a. (1 ≤ a.to) × (a.to ≤ N)) (λ a e. (e.2, e.3)) arcs ends))
        ∙ sym (over_add (costs K laws) (λ a f. K.times f (reduced K ps a)) (λ a f. K.times f (price K ps a.to)) arcs fs)
        ∙ over_same (costs K laws) (λ a f. K.plus (K.times f (reduced K ps a)) (K.times f (price K ps a.to))) (λ a f. K.plus (K.times f a.cost) (K.times f (price K ps a.from)))
        (λ a f. times_minus K laws f (K.plus a.cost (price K ps a.from)) (price K ps a.to) ∙ times_plus K laws f a.cost (price K ps a.from)) arcs fs
        ∙ over_add (costs K laws) (λ a f. K.times f a.cost) (λ a f. K.times f (price K ps a.from)) arcs fs
        ∙ ap (K.plus (total (sums K) arcs fs)) (sym (gathered (costs K laws) K.times (times_zero K laws) (times_add K laws) (price K ps) (λ a. a.from) N arcs fs (All-weaker (Ends N) (λ a. (1 ≤ a.from) × (a.from ≤ N)) (λ a e. (e.0, e.1)) arcs ends)))

    -- with the same imbalances
    crossed : (fs gs : List ℤ) → SameImbalances N arcs fs gs → K.plus (out_of fs) (into gs) ≡ K.plus (out_of gs) (into fs)
    unfolding out_of into
    crossed fs gs same =
        sym (worth_add (costs K laws) K.times (times_zero K laws) (times_add K laws) (price K ps) 1 N (λ n. sum_arcs (leaving n) arcs fs) (λ n. sum_arcs (entering n) arcs gs))
        ∙ worth_same (costs K laws) K.times (times_zero K laws) (times_add K laws) (price K ps) 1 N (λ n. sum_arcs (leaving n) arcs fs +ℤ sum_arcs (entering n) arcs gs) (λ n. sum_arcs (leaving n) arcs gs +ℤ sum_arcs (entering n) arcs fs)
        (λ n l h. moved (sum_arcs (leaving n) arcs fs) (sum_arcs (entering n) arcs fs) (sum_arcs (leaving n) arcs gs) (sum_arcs (entering n) arcs gs) (same n l (omega arith)))
        ∙ worth_add (costs K laws) K.times (times_zero K laws) (times_add K laws) (price K ps) 1 N (λ n. sum_arcs (leaving n) arcs gs) (λ n. sum_arcs (entering n) arcs fs)
      where
        moved : (o i p j : ℤ) → o -ℤ i ≡ p -ℤ j → o +ℤ j ≡ p +ℤ i
        moved o i p j e = omega (arith, ints)

  pub kilter_is_least : KilterIsLeast K
  kilter_is_least N arcs fs ps ends kilter gs within same =
      cancel_le K laws (total (sums K) arcs fs) (total (sums K) arcs gs) (K.plus (o fs) (i gs))
      (subst₂ (λ x y. K.le x y ≡ true) (side fs (i gs)) (other ∙ side gs (i fs) ∙ ap (K.plus (total (sums K) arcs gs)) (sym (crossed N ps arcs ends fs gs same)))
      (laws.mono (K.plus r (i fs)) (K.plus q (i fs)) (i gs) (laws.mono r q (i fs) (all_least ps arcs fs gs kilter within))))
    where
      o : List ℤ → C
      o = out_of N ps arcs ends

      i : List ℤ → C
      i = into N ps arcs ends

      r : C
      r = reduced_total ps arcs fs

      q : C
      q = reduced_total ps arcs gs

      side : (hs : List ℤ) (x : C) → K.plus (K.plus (reduced_total ps arcs hs) (i hs)) x ≡ K.plus (total (sums K) arcs hs) (K.plus (o hs) x)
      side hs x = ap (λ y. K.plus y x) (reduced_is N ps arcs ends hs) ∙ assoc K laws (total (sums K) arcs hs) (o hs) x

      other : K.plus (K.plus q (i fs)) (i gs) ≡ K.plus (K.plus q (i gs)) (i fs)
      other = right_comm K laws q (i fs) (i gs)

  -- in kilter is within the bounds
  pub kilter_within : (ps : List C) (arcs : List (Arc C)) (fs : List ℤ) → EachArc (InKilter K ps) arcs fs → EachArc Within arcs fs
  kilter_within ps = each_weaker (InKilter K ps) Within (λ a f h. let k = kilter_parts (K.le K.zero (reduced K ps a)) (K.le (reduced K ps a) K.zero) a.lo a.hi f h in (k.0, k.1))
