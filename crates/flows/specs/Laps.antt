-- Laps: one amount sent around a closed chain of arcs.
use Rattle.std.specs.Prelude.{◌≡◌, ℕ, zero, suc, ◌<◌, ◌≤◌, Bool, true, cond, ◌⊎◌, List, [], ◌∷◌, map, length, ℤ, pos, ◌+ℤ◌, neg_ℤ, slice_index_or, slice_set}
use Rattle.std.specs.List.{AllByRecursion}
use Rattle.costs.specs.Kinds.{Kind, sums, less}
use Rattle.networks.specs.declared.network.Arc.{Arc}
use Rattle.networks.specs.Nets.{IsAt}
use Rattle.flows.specs.declared.steps.Step.{Step}
use Rattle.flows.specs.Flows.{total, imbalance, excess}

-- the node from which a step over the arc sets out
abbrev pub near : {C : Type 0} → Arc C → Bool → ℕ
near a along = cond along a.from a.to

-- the node to which it leads
abbrev pub far : {C : Type 0} → Arc C → Bool → ℕ
far a along = cond along a.to a.from

-- the step over the arc at place i
abbrev pub step_over : {C : Type 0} → ℕ → Arc C → Bool → Step
step_over i a along = record { node = near a along; arc = i; along = along }

-- the step leads from its node to node n
abbrev pub Leads : {C : Type 0} → List (Arc C) → Step → ℕ → Type 0
Leads {C} arcs s n = (a : Arc C) × IsAt arcs s.arc a × (near a s.along ≡ s.node) × (far a s.along ≡ n)

-- the node that the first step sets out from; with no step, the end
abbrev pub first : List Step → ℕ → ℕ
first [] end = end
first (s ∷ rest) end = s.node

-- each step leads to where the next one sets out, and the last one to the end
abbrev pub Chain : {C : Type 0} → List (Arc C) → List Step → ℕ → Type 0
Chain arcs [] end = Unit {0}
Chain arcs (s ∷ rest) end = Leads arcs s (first rest end) × Chain arcs rest end

-- no number stands twice
abbrev pub Apart : List ℕ → Type 0
Apart [] = Unit {0}
Apart (n ∷ ns) = AllByRecursion (λ m. ¬ (n ≡ m)) ns × Apart ns

-- the flow of a step's arc when it is run along by x, or against, which loses x
abbrev pub moved : ℤ → Step → List ℤ → ℤ
moved x s flow = slice_index_or flow s.arc (pos 0) +ℤ cond s.along x (neg_ℤ x)

-- the flow with x sent over the steps in turn
abbrev pub sent : ℤ → List Step → List ℤ → List ℤ
sent x [] flow = flow
sent x (s ∷ rest) flow = sent x rest (slice_set flow s.arc (moved x s flow))

-- one lap leads from the flow f to the flow g: a whole amount of at least 1, around a closed chain that meets no node twice
pub record Lap {C : Type 0} (arcs : List (Arc C)) (f g : List ℤ) : Type 0 where
  pub steps : List Step
  pub amount : ℕ
  pub some_steps : 1 ≤ length steps
  pub closed : Chain arcs steps (first steps 0)
  pub apart : Apart (map (λ s. s.node) steps)
  pub some_amount : 1 ≤ amount
  pub sent_on : sent (pos amount) steps f ≡ g

-- g has a lower excess than f, or the same and a lower total
abbrev pub Better : {C : Type 0} → Kind C → List (Arc C) → List ℤ → List ℤ → Type 0
Better K arcs f g = (excess arcs g < excess arcs f) ⊎ ((excess arcs g ≡ excess arcs f) × (less K (total (sums K) arcs g) (total (sums K) arcs f) ≡ true))

-- n laps lead from f to g, each to a better flow
abbrev pub Laps : {C : Type 0} → Kind C → List (Arc C) → List ℤ → ℕ → List ℤ → Type 0
Laps K arcs f zero g = f ≡ g
Laps K arcs f (suc n) g = (h : List ℤ) × Lap arcs f h × Better K arcs f h × Laps K arcs h n g

-- laps keep the imbalance of every node
abbrev pub LapsKeepImbalances : {C : Type 0} → Kind C → Type 0
LapsKeepImbalances {C} K = (arcs : List (Arc C)) (f g : List ℤ) (n : ℕ) → length f ≡ length arcs → Laps K arcs f n g →
    (node : ℕ) → imbalance arcs g node ≡ imbalance arcs f node
