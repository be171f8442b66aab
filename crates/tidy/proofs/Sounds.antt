-- Networks that fit are sound for tidying.
use Rattle.std.proofs.Common.{ℕ, ◌≤◌, List}
use Rattle.costs.specs.Kinds.{Kind}
use Rattle.networks.specs.declared.network.Arc.{Arc}
use Rattle.flows.specs.Flows.{Ends}
use Rattle.flows.specs.searching.Fits.{Fitting}
use Rattle.flows.proofs.ArcSums.{all_from}
use Rattle.flows.proofs.Nearer.{largest_most}
use Rattle.tidy.specs.Picks.{Sound}

pub sound_from : {C : Type 0} (K : Kind C) (N : ℕ) (arcs : List (Arc C)) → Fitting K N arcs → Sound K arcs N
sound_from K N arcs f = record {
  ends = all_from (Ends N) arcs (λ i a h. (f i a h).ends);
  costs = largest_most K 1000000 arcs (all_from (λ a. K.size a.cost ≤ 1000000) arcs (λ i a h. (f i a h).cost));
}
