-- What holds at each step of the search, and what one attempt at an arc does.
use Rattle.std.specs.Prelude.{◌≡◌, ℕ, ◌+◌, ◌<◌, ◌≤◌, Bool, false, List, length, ℤ, pos, Ok, Err, Result, nat_lt, slice_index, slice_index_or}
use Rattle.std.specs.List.{list_any}
use Rattle.costs.specs.Kinds.{Kind}
use Rattle.networks.specs.declared.network.Arc.{Arc}
use Rattle.networks.specs.Nets.{IsAt}
use Rattle.flows.specs.declared.steps.Step.{Step}
use Rattle.flows.specs.Flows.{EachArc}
use Rattle.flows.specs.Kilter.{reduced, kilter_sum, lap_limit, out_of_kilter}
use Rattle.flows.specs.Laps.{Lap, Better, Laps}
use Rattle.search.specs.Ready.{Ready}
use Rattle.flows.specs.Cuts.{marked}
use Rattle.flows.specs.searching.Ways.{Stuck, Strained}
use Rattle.flows.specs.searching.Prices.{SignsKept}
use Rattle.labels.specs.Ways.{Chosen, GoneRound}
use Rattle.reach.specs.Rounds.{large}
use Rattle.search.specs.declared.seek.Halt.{Halt}
use Rattle.search.specs.declared.seek.Halt.TheVariants as halt
use Rattle.search.specs.declared.attempts.Tried.{Tried}
use Rattle.search.specs.declared.attempts.Tried.TheVariants.{Kilter, Lapped, Short, Cut}

-- some price is large: it has a size above the largest that is searched at without tidying
abbrev pub any_large : {C : Type 0} → Kind C → List C → Bool
any_large K prices = list_any (λ p. nat_lt large (K.size p)) prices

-- arc i is in kilter
abbrev pub KilterAt : {C : Type 0} → Kind C → List (Arc C) → List ℤ → List C → ℕ → Type 0
KilterAt {C} K arcs flow prices i = (a : Arc C) → IsAt arcs i a → out_of_kilter K (reduced K prices a) a (slice_index_or flow i (pos 0)) ≡ false

-- the step over arc i brings it nearer to kilter, and leads to the source
pub record Wanted {C : Type 0} (K : Kind C) (N : ℕ) (arcs : List (Arc C)) (flow : List ℤ) (prices : List C) (i : ℕ) (s : Step) (source : ℕ) : Type 0 where
  pub chosen : Chosen K arcs flow prices s source
  pub over : s.arc ≡ i
  pub node : (1 ≤ s.node) × (s.node ≤ N)
  pub sources : (1 ≤ source) × (source ≤ N)

-- a lap is at hand that leads to a better flow; so some arc is out of kilter
abbrev pub LapAtHand : {C : Type 0} → Kind C → List (Arc C) → List ℤ → List C → Type 0
LapAtHand K arcs f prices = (g : List ℤ) × Lap arcs f g × Better K arcs f g × (1 ≤ kilter_sum K prices arcs f)

-- the marked nodes are cut off
pub record CutMarked {C : Type 0} (arcs : List (Arc C)) (flow : List ℤ) (marks : List ℕ) : Type 0 where
  pub bits : (n : ℕ) → slice_index marks n ≤ 1
  pub stuck : EachArc (Stuck (marked marks)) arcs flow
  pub place : ℕ
  pub arc : Arc C
  pub there : IsAt arcs place arc
  pub strained : Strained (marked marks) arc (slice_index_or flow place (pos 0))

-- one attempt at arc i: it is in kilter, or one lap was made, or one could be made, or a cut was found
abbrev pub Attempted : {C : Type 0} → Kind C → List (Arc C) → ℕ → List ℤ → List ℤ → List C → List ℕ → List ℕ → Tried → Type 0
Attempted K arcs i f g qs marks after Kilter = (g ≡ f) × KilterAt K arcs f qs i × (after ≡ marks)
Attempted K arcs i f g qs marks after Lapped = GoneRound K arcs qs f g × (after ≡ marks)
Attempted K arcs i f g qs marks after Short = (g ≡ f) × LapAtHand K arcs f qs × (after ≡ marks)
Attempted K arcs i f g qs marks after Cut = (g ≡ f) × CutMarked arcs f after

-- the search so far: that many laps lead from the flow found, they and the kilter numbers left are within the limit, and the arcs before place i are in kilter
pub record Going {C : Type 0} (K : Kind C) (N : ℕ) (arcs : List (Arc C)) (found : List ℤ) (i laps : ℕ) (flow : List ℤ) (prices : List C) : Type 0 where
  pub ready : Ready K N arcs flow prices
  pub lapped : Laps K arcs found laps flow
  pub within : laps + kilter_sum K prices arcs flow ≤ lap_limit (length arcs)
  pub done : (j : ℕ) → j < i → KilterAt K arcs flow prices j

-- it ended with the arcs before place i in kilter, or at a pause, or at a cut
abbrev pub Ended : {C : Type 0} → Kind C → ℕ → List (Arc C) → List ℤ → ℕ → ℕ → List ℤ → List C → List ℕ → List ℕ → Result ℕ Halt → Type 0
Ended K N arcs found i budget flow prices marks after (Ok n) = Going K N arcs found i n flow prices × (n ≤ budget) × (after ≡ marks)
Ended K N arcs found i budget flow prices marks after (Err (halt.Paused n)) = Going K N arcs found 0 n flow prices × (n ≡ budget) × LapAtHand K arcs flow prices × (after ≡ marks)
Ended K N arcs found i budget flow prices marks after (Err halt.Cut) = (n : ℕ) × Going K N arcs found 0 n flow prices × CutMarked arcs flow after

-- the search stood still: so many laps, the flow as it was, and no sign of a reduced cost turned
abbrev pub StoodStill : {C : Type 0} → Kind C → List (Arc C) → List ℤ → List ℤ → List C → List C → ℕ → Result ℕ Halt → Type 0
StoodStill K arcs f g ps qs laps r = (r ≡ Ok laps) × (g ≡ f) × SignsKept K arcs ps qs
