-- What a search may rely on at each step.
use Rattle.std.specs.Prelude.{◌≡◌, ℕ, ◌≤◌, List, length, ℤ}
use Rattle.costs.specs.Kinds.{Kind}
use Rattle.networks.specs.declared.network.Arc.{Arc}
use Rattle.flows.specs.searching.Fits.{Fitting, Small, Bounded, found_limit}

-- the network fits, and the tables are of their lengths and within the limits
pub record Ready {C : Type 0} (K : Kind C) (N : ℕ) (arcs : List (Arc C)) (flow : List ℤ) (prices : List C) : Type 0 where
  pub fitting : Fitting K N arcs
  pub few : N ≤ 256
  pub priced : length prices ≡ N
  pub bounded : Bounded K found_limit prices
  pub long : length flow ≡ length arcs
  pub small : Small flow
