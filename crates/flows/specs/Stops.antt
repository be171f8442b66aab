-- Which stop comes first: 1, 2, then arc by arc 3, 4, 7, 5, then 6 by node. A stop is told by its number and place.
use Rattle.std.specs.Prelude.{ℕ, suc, Bool, cond, ◌&&◌, List, [], ◌∷◌, length, ℤ, Some, None, Option, ◌==◌, int_le, nat_le}
use Rattle.networks.specs.declared.network.Arc.{Arc}
pub use Rattle.networks.specs.Limits.{counts_fit}
use Rattle.networks.specs.Limits.{cost_limit, in_limits, bounds_fit}
use Rattle.networks.specs.Answers.{Told}
use Rattle.networks.specs.Nets.{Net, shown}
use Rattle.flows.specs.Flows.{imbalance}

-- stopped so unless the test passes; then what comes after
abbrev pub stop_unless : Bool → ℕ → ℕ → Option Told → Option Told
stop_unless test number place after = cond test after (Some (number, place))

-- a first stop, or else a later one
abbrev pub or_else : Option Told → Option Told → Option Told
or_else None later = later
or_else (Some s) later = Some s

-- both ends are nodes
abbrev pub ends_fit : {C : Type 0} → ℕ → Arc C → Bool
ends_fit nodes x = (nat_le 1 x.from && nat_le x.from nodes) && (nat_le 1 x.to && nat_le x.to nodes)

-- one arc, its number and its flow: 3 for its ends, 4 for its cost, 7 for its bounds, 5 for its flow
abbrev pub arc_stop : {C : Type 0} → (C → ℕ) → ℕ → ℕ → Arc C → ℤ → Option Told
arc_stop size nodes a x f =
    stop_unless (ends_fit nodes x) 3 a (stop_unless (nat_le (size x.cost) cost_limit) 4 a (stop_unless (bounds_fit x.lo x.hi) 7 a (stop_unless (in_limits f) 5 a None)))

-- the arcs in turn, from number a on
abbrev pub arcs_stop : {C : Type 0} → (C → ℕ) → ℕ → ℕ → List (Arc C) → List ℤ → Option Told
arcs_stop size nodes a [] fs = None
arcs_stop size nodes a (x ∷ xs) [] = None
arcs_stop size nodes a (x ∷ xs) (f ∷ fs) = or_else (arc_stop size nodes a x f) (arcs_stop size nodes (suc a) xs fs)

-- the nodes in turn, from number n on: 6 where the imbalance is not the need
abbrev pub needs_stop : {C : Type 0} → List (Arc C) → List ℤ → ℕ → List ℤ → Option Told
needs_stop arcs flow n [] = None
needs_stop arcs flow n (d ∷ ds) = stop_unless (int_le (imbalance arcs flow n) d && int_le d (imbalance arcs flow n)) 6 n (needs_stop arcs flow (suc n) ds)

-- the tables of a plan are a flow for each arc, and a need, a price and a mark for each node
abbrev pub lengths_fit : ℕ → ℕ → ℕ → ℕ → ℕ → ℕ → Bool
lengths_fit nodes arcs flow needs prices marks = flow == arcs && (needs == nodes && (prices == nodes && marks == nodes))

-- the checks that calls share: the counts, the lengths, the arcs with these flows, and then what comes after
abbrev pub checks_stop : {C : Type 0} → (C → ℕ) → Net C → Bool → List ℤ → Option Told → Option Told
checks_stop size n long flow after =
    stop_unless (counts_fit n.nodes (length n.arcs)) 1 0 (stop_unless long 2 0 (or_else (arcs_stop size n.nodes 1 (shown n) flow) after))

-- the first stop of a network with its tables, of prices and marks the lengths
abbrev pub first_stop : {C : Type 0} → (C → ℕ) → Net C → List ℤ → List ℤ → ℕ → ℕ → Option Told
first_stop size n flow needs prices marks =
    checks_stop size n (lengths_fit n.nodes (length n.arcs) (length flow) (length needs) prices marks) flow (needs_stop (shown n) flow 1 needs)

-- the first stop where a plan is opened: its needs are yet to be written, so of them too the length alone
abbrev pub open_stop : {C : Type 0} → (C → ℕ) → Net C → List ℤ → ℕ → ℕ → ℕ → Option Told
open_stop size n flow needs prices marks = checks_stop size n (lengths_fit n.nodes (length n.arcs) (length flow) needs prices marks) flow None

-- the first stop where a flow is offered: of the plan's own flow the length alone
abbrev pub take_up_stop : {C : Type 0} → (C → ℕ) → Net C → ℕ → List ℤ → List ℤ → ℕ → ℕ → Option Told
take_up_stop size n own offered needs prices marks =
    checks_stop size n (own == length n.arcs && lengths_fit n.nodes (length n.arcs) (length offered) (length needs) prices marks) offered (needs_stop (shown n) offered 1 needs)
