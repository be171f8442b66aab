-- What the search may rely on once no stop came: arcs, flows and prices within the limits.
use Rattle.std.specs.Prelude.{ℕ, ◌<◌, ◌≤◌, List, length, ℤ, pos, ◌≤ℤ◌, slice_index_or, unsigned_abs}
use Rattle.costs.specs.Kinds.{Kind}
use Rattle.networks.specs.declared.network.Arc.{Arc}
use Rattle.networks.specs.Limits.{flow_limit, cost_limit}
use Rattle.networks.specs.Nets.{IsAt}
use Rattle.flows.specs.Flows.{Ends}

-- the arc is of a network of N nodes, with its bounds in order and its bounds and cost within the limits
pub record Fit {C : Type 0} (K : Kind C) (N : ℕ) (a : Arc C) : Type 0 where
  pub ends : Ends N a
  pub order : a.lo ≤ℤ a.hi
  pub low : unsigned_abs a.lo ≤ flow_limit
  pub high : unsigned_abs a.hi ≤ flow_limit
  pub cost : K.size a.cost ≤ cost_limit

-- every arc is
abbrev pub Fitting : {C : Type 0} → Kind C → ℕ → List (Arc C) → Type 0
Fitting {C} K N arcs = (i : ℕ) (a : Arc C) → IsAt arcs i a → Fit K N a

-- every flow is within the limits
abbrev pub Small : List ℤ → Type 0
Small flow = (i : ℕ) → unsigned_abs (slice_index_or flow i (pos 0)) ≤ flow_limit

-- no price has a size above b
abbrev pub Bounded : {C : Type 0} → Kind C → ℕ → List C → Type 0
Bounded K b prices = (k : ℕ) → k < length prices → K.size (slice_index_or prices k K.zero) ≤ b

-- the largest size that a price has after a search for one chain
abbrev pub found_limit : ℕ
found_limit = 600000000000000

-- the largest size that a price has while prices are tidied
abbrev pub price_limit : ℕ
price_limit = 1250000000000000

-- the largest size of one change of prices, and of a reduced cost
abbrev pub change_limit : ℕ
change_limit = 2600000000000000
