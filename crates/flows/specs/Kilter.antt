-- Prices and kilter: when an arc is out of kilter, and by how much. Prices have node 1's first.
use Rattle.std.specs.Prelude.{◌≡◌, ℕ, ◌+◌, ◌-◌, ◌*◌, ◌≤◌, max, Bool, true, false, cond, ◌&&◌, ◌||◌, List, [], ◌∷◌, length, ℤ, ◌-ℤ◌, ◌≤ℤ◌, Some, None, Option, int_lt, slice_index_or, unsigned_abs}
use Rattle.std.specs.List.{AllByRecursion}
use Rattle.costs.specs.Kinds.{Kind, minus, less}
use Rattle.networks.specs.Limits.{flow_limit}
use Rattle.networks.specs.declared.network.Arc.{Arc}
use Rattle.flows.specs.Flows.{over, outside, EachArc, Ends, Limited, Least}

-- the price of node n
abbrev pub price : {C : Type 0} → Kind C → List C → ℕ → C
price K prices n = slice_index_or prices (n - 1) K.zero

-- the reduced cost of an arc: cost + price(from) − price(to)
abbrev pub reduced : {C : Type 0} → Kind C → List C → Arc C → C
reduced K prices a = minus K (K.plus a.cost (price K prices a.from)) (price K prices a.to)

-- an arc of reduced cost c is out of kilter: flow < lo, flow > hi, c < 0 with flow < hi, or c > 0 with flow > lo
abbrev pub out_of_kilter : {C : Type 0} → Kind C → C → Arc C → ℤ → Bool
out_of_kilter K c a f = int_lt f a.lo || (int_lt a.hi f || ((less K c K.zero && int_lt f a.hi) || (less K K.zero c && int_lt a.lo f)))

-- the way in which it has to move: along, against, or none where it is in kilter
abbrev pub way : {C : Type 0} → Kind C → C → Arc C → ℤ → Option Bool
way K c a f = cond (int_lt f a.lo) (Some true) (cond (int_lt a.hi f) (Some false) (cond (less K c K.zero && int_lt f a.hi) (Some true) (cond (less K K.zero c && int_lt a.lo f) (Some false) None)))

-- at these prices it is not out of kilter
abbrev pub InKilter : {C : Type 0} → Kind C → List C → Arc C → ℤ → Type 0
InKilter K prices a f = out_of_kilter K (reduced K prices a) a f ≡ false

-- its kilter number: |hi − flow| where c < 0, |flow − lo| where c > 0, else the distance outside the bounds
abbrev pub kilter_number : {C : Type 0} → Kind C → C → Arc C → ℤ → ℕ
kilter_number K c a f = cond (less K c K.zero) (unsigned_abs (a.hi -ℤ f)) (cond (less K K.zero c) (unsigned_abs (f -ℤ a.lo)) (outside a f))

-- the kilter numbers, added up
abbrev pub kilter_sum : {C : Type 0} → Kind C → List C → List (Arc C) → List ℤ → ℕ
kilter_sum K prices arcs flow = over 0 ◌+◌ (λ a f. kilter_number K (reduced K prices a) a f) arcs flow

-- the largest size of a cost
abbrev pub largest : {C : Type 0} → Kind C → List (Arc C) → ℕ
largest K [] = 0
largest K (a ∷ rest) = max (K.size a.cost) (largest K rest)

-- the most laps that a search of A arcs takes: 2,000,000 × A
abbrev pub lap_limit : ℕ → ℕ
lap_limit A = 2 * flow_limit * A

-- a flow with no arc out of kilter, at some prices, is a least one
abbrev pub KilterIsLeast : {C : Type 0} → Kind C → Type 0
KilterIsLeast {C} K = (N : ℕ) (arcs : List (Arc C)) (flow : List ℤ) (prices : List C) →
    AllByRecursion (Ends N) arcs → EachArc (InKilter K prices) arcs flow → Least K N arcs flow

-- the kilter numbers add up to at most the lap limit
abbrev pub KilterSumIsLimited : {C : Type 0} → Kind C → Type 0
KilterSumIsLimited {C} K = (arcs : List (Arc C)) (flow : List ℤ) (prices : List C) →
    EachArc Limited arcs flow → kilter_sum K prices arcs flow ≤ lap_limit (length arcs)

-- they add up to zero exactly when no arc is out of kilter
abbrev pub KilterSumTells : {C : Type 0} → Kind C → Type 0
KilterSumTells {C} K = (arcs : List (Arc C)) (flow : List ℤ) (prices : List C) → AllByRecursion (λ a. a.lo ≤ℤ a.hi) arcs → length flow ≡ length arcs →
    (kilter_sum K prices arcs flow ≡ 0 → EachArc (InKilter K prices) arcs flow) × (EachArc (InKilter K prices) arcs flow → kilter_sum K prices arcs flow ≡ 0)
