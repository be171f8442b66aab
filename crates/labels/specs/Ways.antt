-- The way that labels lead back, and the room on it.
use Rattle.std.specs.Prelude.{◌≡◌, ℕ, ◌<◌, ◌≤◌, true, Any, List, [], ◌∷◌, length, ℤ, pos, ◌≤ℤ◌, slice_index_or, slice_set, unsigned_abs}
use Rattle.std.specs.List.{AllByRecursion}
use Rattle.costs.specs.Kinds.{Kind}
use Rattle.networks.specs.Nets.{IsAt}
use Rattle.flows.specs.searching.Fits.{Small}
use Rattle.flows.specs.Kilter.{reduced, kilter_number, kilter_sum}
use Rattle.flows.specs.Laps.{Leads, moved, Lap, Better}
use Rattle.networks.specs.Limits.{flow_limit}
use Rattle.flows.specs.searching.Ways.{Amiss}
use Rattle.networks.specs.declared.network.Arc.{Arc}
use Rattle.flows.specs.declared.steps.Step.{Step}
use Rattle.labels.specs.declared.labelling.Labels.{Labels}
use Rattle.labels.specs.Moves.{may, room_at}
use Rattle.labels.specs.Good.{count, entry_at}

-- every node but the first was labelled from an earlier one
abbrev pub Backward : Labels → Type 0
Backward ls = (k : ℕ) → 1 ≤ k → k < count ls → (entry_at ls k).parent < k

-- the steps lead from place j to place k, each the step of the place that it leads to
abbrev pub Way : Labels → ℕ → List Step → ℕ → Type 0
Way ls j [] k = j ≡ k
Way ls j (s ∷ rest) k = (m : ℕ) × (1 ≤ m) × (m < count ls) × ((entry_at ls m).step ≡ s) × ((entry_at ls m).parent ≡ j) × Way ls m rest k

-- the chosen step, and then the steps from the source to place k
abbrev pub Trail : Labels → Step → ℕ → List Step → Type 0
Trail ls s k steps = (rest : List Step) × (steps ≡ s ∷ rest) × Way ls 0 rest k

-- x is the room of the step
abbrev pub RoomIs : {C : Type 0} → Kind C → List (Arc C) → List ℤ → List C → Step → ℤ → Type 0
RoomIs {C} K arcs flow prices s x = (a : Arc C) → IsAt arcs s.arc a → x ≡ room_at K prices a s.along (slice_index_or flow s.arc (pos 0))

-- the step may be made
abbrev pub Moving : {C : Type 0} → Kind C → List (Arc C) → List ℤ → List C → Step → Type 0
Moving {C} K arcs flow prices s = (s.arc < length arcs) × ((a : Arc C) → IsAt arcs s.arc a → may K prices a s.along (slice_index_or flow s.arc (pos 0)) ≡ true)

-- the step has room for x
abbrev pub FitsIn : {C : Type 0} → Kind C → List (Arc C) → List ℤ → List C → ℤ → Step → Type 0
FitsIn {C} K arcs flow prices x s = (a : Arc C) → IsAt arcs s.arc a → x ≤ℤ room_at K prices a s.along (slice_index_or flow s.arc (pos 0))

-- x is the least room of the steps: each has room for it, and one for no more
pub record LeastRoom {C : Type 0} (K : Kind C) (arcs : List (Arc C)) (flow : List ℤ) (prices : List C) (steps : List Step) (x : ℤ) : Type 0 where
  pub fits : AllByRecursion (FitsIn K arcs flow prices x) steps
  pub fills : Any (λ s. RoomIs K arcs flow prices s x) steps

-- each step in its turn stays within the limits
abbrev pub Steady : ℤ → List Step → List ℤ → Type 0
Steady x [] fs = Unit {0}
Steady x (s ∷ rest) fs = (s.arc < length fs) × (unsigned_abs (moved x s fs) ≤ flow_limit) × Steady x rest (slice_set fs s.arc (moved x s fs))

-- the step of the chosen arc leads to the node n, may be made, and is wanted
pub record Chosen {C : Type 0} (K : Kind C) (arcs : List (Arc C)) (flow : List ℤ) (prices : List C) (s : Step) (n : ℕ) : Type 0 where
  pub leads : Leads arcs s n
  pub moving : Moving K arcs flow prices s
  pub amiss : (a : Arc C) → IsAt arcs s.arc a → Amiss K prices a s.along (slice_index_or flow s.arc (pos 0))

-- what a lap does; its amount is the least room, so that some arc of the chain is moved to its limit
pub record GoneRound {C : Type 0} (K : Kind C) (arcs : List (Arc C)) (prices : List C) (f g : List ℤ) : Type 0 where
  pub lap : Lap arcs f g
  pub full : LeastRoom K arcs f prices lap.steps (pos lap.amount)
  pub nearer : kilter_sum K prices arcs g < kilter_sum K prices arcs f
  pub better : Better K arcs f g
  pub small : Small g
  pub eased : (i : ℕ) (a : Arc C) → IsAt arcs i a → kilter_number K (reduced K prices a) a (slice_index_or g i (pos 0)) ≤ kilter_number K (reduced K prices a) a (slice_index_or f i (pos 0))
  pub long : length g ≡ length f
