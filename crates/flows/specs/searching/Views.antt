-- What an arc looks like to a search.
use Rattle.std.specs.Prelude.{◌≡◌, ℕ, List, ℤ, pos, slice_index_or}
use Rattle.costs.specs.Kinds.{Kind}
use Rattle.networks.specs.declared.network.Arc.{Arc}
use Rattle.networks.specs.Nets.{IsAt}
use Rattle.flows.specs.declared.views.Seen.{Seen}
use Rattle.flows.specs.Kilter.{reduced}

-- the arc at place i, with its reduced cost and its flow
pub record Sees {C : Type 0} (K : Kind C) (arcs : List (Arc C)) (flow : List ℤ) (prices : List C) (i : ℕ) (s : Seen C) : Type 0 where
  pub there : IsAt arcs i s.arc
  pub priced : s.cost ≡ reduced K prices s.arc
  pub carries : s.flow ≡ slice_index_or flow i (pos 0)
