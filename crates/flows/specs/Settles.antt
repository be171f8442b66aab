-- What a search owes for each of its answers.
use Rattle.std.specs.Prelude.{◌≡◌, ℕ, ◌-◌, ◌*◌, ◌<◌, ◌≤◌, cond, List, map, length, ℤ, nat_le}
use Rattle.std.specs.List.{AllByRecursion}
use Rattle.costs.specs.Kinds.{Kind, sums}
use Rattle.networks.specs.declared.network.Arc.{Arc}
use Rattle.flows.specs.Flows.{EachArc, Within, Least, Meets, imbalance, total}
use Rattle.flows.specs.Kilter.{InKilter, largest, lap_limit}
use Rattle.flows.specs.Laps.{Laps}
use Rattle.flows.specs.Cuts.{MarksCut}
use Rattle.flows.specs.searching.Prices.{SignsKept}

-- the tables of a plan: a flow for each arc; a need, a price and a mark for each node
pub record Tables (C : Type 0) : Type 0 where
  pub flow : List ℤ
  pub needs : List ℤ
  pub prices : List C
  pub marks : List ℕ

-- a price found of too large a size is read as zero
abbrev pub read_price_as : {C : Type 0} → Kind C → ℕ → C → C
read_price_as K limit p = cond (nat_le (K.size p) limit) p K.zero

-- the prices as a search reads them: one of a size above (N − 1) times the largest cost size is too large
abbrev pub prices_read : {C : Type 0} → Kind C → ℕ → List (Arc C) → List C → List C
prices_read K N arcs ps = map (read_price_as K ((N - 1) * largest K arcs)) ps

-- the answers: a total and laps, laps, or none
pub data Answered (C : Type 0) : Type 0 where
  least : C → ℕ → Answered C
  paused : ℕ → Answered C
  none : Answered C

-- least: laps led to a flow with no arc out of kilter, of that total
pub record LeastLeft {C : Type 0} (K : Kind C) (arcs : List (Arc C)) (budget : ℕ) (found : Tables C) (cost : C) (laps : ℕ) (left : Tables C) : Type 0 where
  pub lapped : Laps K arcs found.flow laps left.flow
  pub in_budget : laps ≤ budget
  pub in_limit : laps ≤ lap_limit (length arcs)
  pub kilter : EachArc (InKilter K left.prices) arcs left.flow
  pub total_is : cost ≡ total (sums K) arcs left.flow
  pub unmarked : AllByRecursion (λ m. m ≡ 0) left.marks

-- paused: the whole budget of laps, below the limit, led to a flow that is outside the bounds or not least
pub record PausedLeft {C : Type 0} (K : Kind C) (N : ℕ) (arcs : List (Arc C)) (budget : ℕ) (found : Tables C) (laps : ℕ) (left : Tables C) : Type 0 where
  pub lapped : Laps K arcs found.flow laps left.flow
  pub whole_budget : laps ≡ budget
  pub below_limit : laps < lap_limit (length arcs)
  pub not_least : EachArc Within arcs left.flow → Least K N arcs left.flow → ⊥
  pub unmarked : AllByRecursion (λ m. m ≡ 0) left.marks

-- none: the flow is as found, and the marks are a cut
pub record NoneLeft {C : Type 0} (arcs : List (Arc C)) (found left : Tables C) : Type 0 where
  pub as_found : left.flow ≡ found.flow
  pub cut : MarksCut arcs found.needs left.marks

-- what is owed for the answer given
abbrev pub Answers : {C : Type 0} → Kind C → ℕ → List (Arc C) → ℕ → Tables C → Answered C → Tables C → Type 0
Answers K N arcs budget found (least cost laps) left = LeastLeft K arcs budget found cost laps left
Answers K N arcs budget found (paused laps) left = PausedLeft K N arcs budget found laps left
Answers K N arcs budget found none left = NoneLeft arcs found left

-- nothing was to be done: least with no lap, the flow as found, and no reduced cost has turned its sign since the prices were read
pub record Kept {C : Type 0} (K : Kind C) (N : ℕ) (arcs : List (Arc C)) (found : Tables C) (answer : Answered C) (left : Tables C) : Type 0 where
  pub answer_is : answer ≡ least (total (sums K) arcs found.flow) 0
  pub flow_stays : left.flow ≡ found.flow
  pub signs : SignsKept K arcs (prices_read K N arcs found.prices) left.prices

-- whatever the answer, the needs stay, there are as many prices and marks as before, and every price has a size of at most (N − 1) times the largest cost size; a flow in kilter at the prices as read is kept, with any budget
pub record Settles {C : Type 0} (K : Kind C) (N : ℕ) (arcs : List (Arc C)) (budget : ℕ) (found : Tables C) (answer : Answered C) (left : Tables C) : Type 0 where
  pub answers : Answers K N arcs budget found answer left
  pub needs_stay : left.needs ≡ found.needs
  pub prices_long : length left.prices ≡ length found.prices
  pub marks_long : length left.marks ≡ length found.marks
  pub small_prices : AllByRecursion (λ p. K.size p ≤ (N - 1) * largest K arcs) left.prices
  pub kept : EachArc (InKilter K (prices_read K N arcs found.prices)) arcs found.flow → Kept K N arcs found answer left

-- the answer in words: least, that the flow left is within the bounds and no flow within them with the same imbalances has a lower total; none, that no flow within the bounds has the needs
abbrev pub Says : {C : Type 0} → Kind C → ℕ → List (Arc C) → Tables C → Answered C → Tables C → Type 0
Says K N arcs found (least cost laps) left = EachArc Within arcs left.flow × Least K N arcs left.flow
Says K N arcs found (paused laps) left = Unit {0}
Says K N arcs found none left = (flow : List ℤ) → EachArc Within arcs flow → Meets arcs found.needs flow → ⊥

-- the answer is least or none
abbrev pub Final : {C : Type 0} → Answered C → Type 0
Final (least cost laps) = Unit {0}
Final (paused laps) = ⊥
Final none = Unit {0}

-- what a search promises, in words: what the answer says; the flow left has the imbalances of the flow found, at every node, and so the needs; and with a budget of 2,000,000 laps for each arc it does not pause
pub record InWords {C : Type 0} (K : Kind C) (N : ℕ) (arcs : List (Arc C)) (budget : ℕ) (found : Tables C) (answer : Answered C) (left : Tables C) : Type 0 where
  pub says : Says K N arcs found answer left
  pub keeps : (n : ℕ) → imbalance arcs left.flow n ≡ imbalance arcs found.flow n
  pub meets : Meets arcs found.needs left.flow
  pub ends : lap_limit (length arcs) ≤ budget → Final answer

-- what was settled least settles again for nothing, with any budget: least with the same total and no lap, and the flow stays
abbrev pub LeastStays : {C : Type 0} → Kind C → Type 0
LeastStays {C} K = (N : ℕ) (arcs : List (Arc C)) (budget again : ℕ) (found left after : Tables C) (cost : C) (laps : ℕ) (answer : Answered C) →
    Settles K N arcs budget found (least cost laps) left → Settles K N arcs again left answer after → (answer ≡ least cost 0) × (after.flow ≡ left.flow)
