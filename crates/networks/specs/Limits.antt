-- The limits of networks, bounds, flows and costs.
use Rattle.std.specs.Prelude.{ℕ, Bool, ◌&&◌, ℤ, int_le, nat_le, unsigned_abs}

abbrev pub most_nodes : ℕ
most_nodes = 256

abbrev pub most_arcs : ℕ
most_arcs = 1024

-- there are 1 to 256 nodes and at most 1,024 arcs
abbrev pub counts_fit : ℕ → ℕ → Bool
counts_fit nodes arcs = nat_le 1 nodes && (nat_le nodes most_nodes && nat_le arcs most_arcs)

-- the largest count that a call can answer
abbrev pub most_counted : ℕ
most_counted = 18446744073709551615

-- the largest absolute value of a bound or a flow
abbrev pub flow_limit : ℕ
flow_limit = 1000000

-- the largest size of an arc's cost
abbrev pub cost_limit : ℕ
cost_limit = 1000000

-- a bound or a flow within the limits
abbrev pub in_limits : ℤ → Bool
in_limits x = nat_le (unsigned_abs x) flow_limit

-- a pair of bounds that exists
abbrev pub bounds_fit : ℤ → ℤ → Bool
bounds_fit lo hi = int_le lo hi && (in_limits lo && in_limits hi)
