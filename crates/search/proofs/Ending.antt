-- What holds of the search after an attempt that made no lap.
use Rattle.std.proofs.Common.{◌≡◌, ℕ, ◌+◌, List, ℤ, sym, subst}
use Rattle.costs.specs.Kinds.{Kind, Laws}
use Rattle.networks.specs.declared.network.Arc.{Arc}
use Rattle.search.specs.Ready.{Ready}
use Rattle.flows.specs.searching.Prices.{Eased}
use Rattle.search.specs.Going.{KilterAt, Going}
use Rattle.search.proofs.Steps.{going_repriced, going_on, going_none}

module _ {C : Type 0} {K : Kind C} (laws : Laws K) {N : ℕ} {arcs : List (Arc C)} {found : List ℤ} {i laps : ℕ} {f : List ℤ} {ps : List C} (before : Going K N arcs found i laps f ps)
    {g : List ℤ} {qs : List C} (eased : Eased K arcs f ps qs) (ready : Ready K N arcs g qs) (same : g ≡ f) where
  still_ready : Ready K N arcs f qs
  still_ready = subst (λ z. Ready K N arcs z qs) same ready

  -- the arc is in kilter
  pub gone_on : KilterAt K arcs f qs i → Going K N arcs found (i + 1) laps g qs
  gone_on kilter = subst (λ z. Going K N arcs found (i + 1) laps z qs) (sym same) (going_on K laws N arcs found i laps f ps qs before eased still_ready kilter)

  -- it may be out of kilter
  pub gone_nowhere : Going K N arcs found 0 laps g qs
  gone_nowhere = subst (λ z. Going K N arcs found 0 laps z qs) (sym same) (going_none K N arcs found i laps f qs (going_repriced K laws N arcs found i laps f ps qs before eased still_ready))
