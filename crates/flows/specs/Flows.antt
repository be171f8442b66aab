-- Flows: imbalances, bounds, totals, and what a least flow is. Nodes are 1 to N; a flow has a number for each arc, in their order.
use Rattle.std.specs.Prelude.{◌≡◌, ℕ, zero, suc, ◌+◌, ◌-◌, ◌≤◌, true, cond, List, [], ◌∷◌, length, ℤ, pos, ◌+ℤ◌, ◌-ℤ◌, ◌≤ℤ◌, Some, None, Option, ◌==◌, int_lt, slice_index_or, unsigned_abs}
use Rattle.costs.specs.Kinds.{Sums, Kind, sums, answered}
use Rattle.networks.specs.Limits.{flow_limit}
use Rattle.networks.specs.declared.network.Arc.{Arc}

-- what h gives for each arc and its flow, added up
abbrev pub over : {C M : Type 0} → M → (M → M → M) → (Arc C → ℤ → M) → List (Arc C) → List ℤ → M
over none plus h [] fs = none
over none plus h (a ∷ rest) [] = none
over none plus h (a ∷ rest) (f ∷ fs) = plus (h a f) (over none plus h rest fs)

-- whole numbers, one for each arc and its flow, added up
abbrev pub sum_arcs : {C : Type 0} → (Arc C → ℤ → ℤ) → List (Arc C) → List ℤ → ℤ
sum_arcs h arcs flow = over (pos 0) ◌+ℤ◌ h arcs flow

-- P holds of each arc and its flow, and there are as many of one as of the other
abbrev pub EachArc : {C : Type 0} → (Arc C → ℤ → Type 0) → List (Arc C) → List ℤ → Type 0
EachArc P [] [] = Unit {0}
EachArc P [] (f ∷ fs) = ⊥
EachArc P (a ∷ rest) [] = ⊥
EachArc P (a ∷ rest) (f ∷ fs) = P a f × EachArc P rest fs

-- the flow of an arc that leaves node n, else zero
abbrev pub leaving : {C : Type 0} → ℕ → Arc C → ℤ → ℤ
leaving n a f = cond (a.from == n) f (pos 0)

-- the flow of an arc that enters node n, else zero
abbrev pub entering : {C : Type 0} → ℕ → Arc C → ℤ → ℤ
entering n a f = cond (a.to == n) f (pos 0)

-- the flow on arcs leaving node n less the flow on arcs entering it; a loop counts on both sides
abbrev pub imbalance : {C : Type 0} → List (Arc C) → List ℤ → ℕ → ℤ
imbalance arcs flow n = sum_arcs (leaving n) arcs flow -ℤ sum_arcs (entering n) arcs flow

-- the imbalances of n nodes from node k on
abbrev pub imbalances_from : {C : Type 0} → ℕ → ℕ → List (Arc C) → List ℤ → List ℤ
imbalances_from k zero arcs flow = []
imbalances_from k (suc n) arcs flow = imbalance arcs flow k ∷ imbalances_from (suc k) n arcs flow

-- cost times flow, added up
abbrev pub total : {C : Type 0} → Sums C → List (Arc C) → List ℤ → C
total S arcs flow = over S.zero S.plus (λ a f. S.times f a.cost) arcs flow

-- what follows from a value, where there is one
abbrev pub and_then : {X Y : Type 0} → Option X → (X → Option Y) → Option Y
and_then None next = None
and_then (Some x) next = next x

-- a sum with one arc's cost times its flow added, in the kind's range: absent where the product or the sum leaves it
abbrev pub added : {C : Type 0} → Sums C → C → C → ℤ → Option C
added S sum cost f = and_then (answered S.size (S.times f cost)) (λ product. answered S.size (S.plus sum product))

-- the arcs in turn added to a sum in that way, as far as there are arcs and flows
abbrev pub running_total : {C : Type 0} → Sums C → C → List (Arc C) → List ℤ → Option C
running_total S sum [] fs = Some sum
running_total S sum (a ∷ rest) [] = Some sum
running_total S sum (a ∷ rest) (f ∷ fs) = and_then (added S sum a.cost f) (λ more. running_total S more rest fs)

-- both ends of the arc are nodes
abbrev pub Ends : {C : Type 0} → ℕ → Arc C → Type 0
Ends N a = (1 ≤ a.from) × (a.from ≤ N) × (1 ≤ a.to) × (a.to ≤ N)

-- the bounds of an arc and its flow are within the limits
abbrev pub Limited : {C : Type 0} → Arc C → ℤ → Type 0
Limited a f = (unsigned_abs a.lo ≤ flow_limit) × (unsigned_abs a.hi ≤ flow_limit) × (unsigned_abs f ≤ flow_limit)

-- the flow of an arc is within its bounds
abbrev pub Within : {C : Type 0} → Arc C → ℤ → Type 0
Within a f = (a.lo ≤ℤ f) × (f ≤ℤ a.hi)

-- the distance of f outside the bounds lo to hi
abbrev pub outside_of : ℤ → ℤ → ℤ → ℕ
outside_of lo hi f = cond (int_lt f lo) (unsigned_abs (lo -ℤ f)) (cond (int_lt hi f) (unsigned_abs (f -ℤ hi)) 0)

-- the distance of an arc's flow outside its bounds
abbrev pub outside : {C : Type 0} → Arc C → ℤ → ℕ
outside a f = outside_of a.lo a.hi f

-- these distances, added up
abbrev pub excess : {C : Type 0} → List (Arc C) → List ℤ → ℕ
excess arcs flow = over 0 ◌+◌ outside arcs flow

-- the imbalance of each node is its need; the needs have node 1's first
abbrev pub Meets : {C : Type 0} → List (Arc C) → List ℤ → List ℤ → Type 0
Meets arcs needs flow = (n : ℕ) → 1 ≤ n → n ≤ length needs → imbalance arcs flow n ≡ slice_index_or needs (n - 1) (pos 0)

-- two flows have the same imbalance at each node
abbrev pub SameImbalances : {C : Type 0} → ℕ → List (Arc C) → List ℤ → List ℤ → Type 0
SameImbalances N arcs f g = (n : ℕ) → 1 ≤ n → n ≤ N → imbalance arcs f n ≡ imbalance arcs g n

-- every flow within the bounds with the same imbalances has at least as high a total
abbrev pub Least : {C : Type 0} → Kind C → ℕ → List (Arc C) → List ℤ → Type 0
Least K N arcs f = (g : List ℤ) → EachArc Within arcs g → SameImbalances N arcs f g → K.le (total (sums K) arcs f) (total (sums K) arcs g) ≡ true
