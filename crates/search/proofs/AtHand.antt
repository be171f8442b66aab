-- Where the sought node is labelled, a lap is at hand that leads to a better flow.
use Rattle.std.proofs.Common.{◌≡◌, ℕ, zero, suc, ◌-◌, ◌<◌, ◌≤◌, List, [], ◌∷◌, length, get_or, ℤ, pos, ◌≤ℤ◌, refl, subst, ⊎_elim, arith}
use Rattle.std.specs.List.{AllByRecursion}
use Rattle.std.proofs.lemmas.Bool.{cases_eq}
use Rattle.costs.specs.Kinds.{Kind, Laws}
use Rattle.networks.specs.declared.network.Arc.{Arc}
use Rattle.flows.specs.declared.steps.Step.{Step}
use Rattle.flows.specs.searching.Fits.{Fitting, Small}
use Rattle.flows.specs.Laps.{sent}
use Rattle.labels.specs.declared.labelling.Labels.{Labels}
use Rattle.labels.specs.Good.{count, entry_at, place_of}
use Rattle.labels.specs.Ways.{Way, Moving, FitsIn}
use Rattle.labels.proofs.Rooming.{room_some}
use Rattle.labels.proofs.Trails.{all_moving, round, round_betters}
use Rattle.reach.specs.Rounds.{ChainFound}
use Rattle.search.specs.Going.{LapAtHand}

module _ {C : Type 0} (K : Kind C) (laws : Laws K) (arcs : List (Arc C)) (flow : List ℤ) (prices : List C) (fitting : Fitting K (length prices) arcs) (long : length flow ≡ length arcs) (small : Small flow) (s : Step) (ls : Labels)
    (low : 1 ≤ s.node) (found : ChainFound K arcs flow prices s ls) where
  -- from any place back to the source
  way_back : (k n m : ℕ) (rest : List Step) → m ≤ n → m < count ls → Way ls m rest k → (xs : List Step) × Way ls 0 xs k
  way_back k zero m rest h c w = (rest, let z : m ≡ 0 = omega arith in subst (λ j. Way ls j rest k) z w)
  way_back k (suc n) m rest h c w =
      ⊎_elim (λ (z : m ≡ 0). (rest, subst (λ j. Way ls j rest k) z w))
      (λ (z : m ≡ 0 → ⊥).
      let l : 1 ≤ m = omega arith in
      let e = (found.good.linked m l c).earlier in
      way_back k n (entry_at ls m).parent ((entry_at ls m).step ∷ rest) (omega arith) (omega arith) (m, l, c, refl, refl, w))
      (cases_eq m 0)

  one_fits : (ts : List Step) → AllByRecursion (Moving K arcs flow prices) ts → AllByRecursion (FitsIn K arcs flow prices (pos 1)) ts
  one_fits [] m = tt
  one_fits (t ∷ ts) (m, ms) = ((λ a is. room_some K prices a t.along (get_or flow t.arc (pos 0)) (m.1 a is)), one_fits ts ms)

  pub at_hand : LapAtHand K arcs flow prices
  at_hand =
      let h = found.good.whole.holds s.node low found.reached in
      let k = place_of ls s.node - 1 in
      let place : k < count ls = omega (arith, h.0, found.reached) in
      let w = way_back k k k [] (omega arith) place refl in
      let m = all_moving K laws arcs flow prices fitting s ls found.good k place h.1 w.0 w.1 long small found.wanted in
      let one : pos 1 ≤ℤ pos 1 = record { le = tt } in
      let b = round_betters K laws arcs flow prices fitting s ls found.good k place h.1 w.0 w.1 long small found.wanted (pos 1) one (one_fits (s ∷ w.0) m) in
      (sent (pos 1) (s ∷ w.0) flow, round K laws arcs flow prices fitting s ls found.good k place h.1 w.0 w.1 long small found.wanted (pos 1) one, b.1, omega (arith, b.0))
