-- What the search for one chain goes by.
use Rattle.std.specs.Prelude.{◌≡◌, List, length, ℤ}
use Rattle.costs.specs.Kinds.{Kind}
use Rattle.networks.specs.declared.network.Arc.{Arc}
use Rattle.flows.specs.declared.steps.Step.{Step}
use Rattle.flows.specs.searching.Fits.{Fitting}
use Rattle.labels.specs.declared.labelling.Labels.{Labels}
use Rattle.labels.specs.Good.{node_at, Good}
use Rattle.labels.specs.Ways.{Chosen}

-- the network fits, the flow is of its length, and the labels lead from the node that the chosen step leads to
pub record Searching {C : Type 0} (K : Kind C) (arcs : List (Arc C)) (flow : List ℤ) (prices : List C) (chosen : Step) (ls : Labels) : Type 0 where
  pub fitting : Fitting K (length prices) arcs
  pub long : length flow ≡ length arcs
  pub good : Good K arcs flow prices chosen.arc ls
  pub wanted : Chosen K arcs flow prices chosen (node_at ls 0)
