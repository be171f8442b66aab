-- Which stop comes first where a plan is to be passed: those of a settle, then the prices by node, then the arcs out of kilter by number.
use Rattle.std.specs.Prelude.{ℕ, suc, not, List, [], ◌∷◌, length, ℤ, Some, None, Option, nat_le}
use Rattle.costs.specs.Kinds.{Kind}
use Rattle.networks.specs.declared.network.Arc.{Arc}
use Rattle.networks.specs.Answers.{Told}
use Rattle.networks.specs.Nets.{Net, shown}
use Rattle.flows.specs.Stops.{stop_unless, or_else, first_stop}
use Rattle.flows.specs.Kilter.{reduced, out_of_kilter}

-- the largest size of a price of a passed plan
abbrev pub passed_limit : ℕ
passed_limit = 255000000

-- the prices in turn, the first that of node n: 4 where one is too large
abbrev pub prices_stop : {C : Type 0} → (C → ℕ) → ℕ → List C → Option Told
prices_stop size n [] = None
prices_stop size n (p ∷ ps) = stop_unless (nat_le (size p) passed_limit) 4 n (prices_stop size (suc n) ps)

-- the arcs in turn, from number a on: 14 where one is out of kilter
abbrev pub kilter_stop : {C : Type 0} → Kind C → List C → ℕ → List (Arc C) → List ℤ → Option Told
kilter_stop K prices a [] fs = None
kilter_stop K prices a (x ∷ xs) [] = None
kilter_stop K prices a (x ∷ xs) (f ∷ fs) = stop_unless (not (out_of_kilter K (reduced K prices x) x f)) 14 a (kilter_stop K prices (suc a) xs fs)

-- the first stop of a pass
abbrev pub pass_stop : {C : Type 0} → Kind C → Net C → List ℤ → List ℤ → List C → ℕ → Option Told
pass_stop K n flow needs prices marks = or_else (first_stop K.size n flow needs (length prices) marks) (or_else (prices_stop K.size 1 prices) (kilter_stop K prices 1 (shown n) flow))
