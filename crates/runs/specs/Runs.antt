-- The law over runs: what holds after any list of calls on a new plan, by the calls and their outcomes alone.
use Rattle.std.specs.Prelude.{◌≡◌, ℕ, ◌≤◌, true, false, ◌⊎◌, ◌↔◌, List, [], ◌∷◌, ◌++◌, length, ℤ, pos, Some}
use Rattle.std.specs.List.{AllByRecursion}
use Rattle.costs.specs.Kinds.{Kind, sums}
use Rattle.networks.specs.declared.network.Arc.{Arc}
use Rattle.networks.specs.Nets.{arc_at, shown}
use Rattle.flows.specs.Flows.{imbalance, total, EachArc, Within, Meets, SameImbalances, Least}
use Rattle.flows.specs.Kilter.{lap_limit}
use Rattle.flows.specs.Cuts.{MarksCut}
use Rattle.flows.specs.Settles.{least, none}
use Rattle.runs.specs.States.{State, New, out_in, NoneOut}
use Rattle.runs.specs.Events.{settle, rebound, recost, take_out, hand_back, Came, settled, Event, GrantedCall, SomeSince, LastAnswered, Rebounds, Recosts}
use Rattle.runs.specs.Steps.{Steps}

-- the same arcs between the same nodes, whatever their bounds and costs
abbrev pub SameEnds : {C : Type 0} → List (Arc C) → List (Arc C) → Type 0
SameEnds [] [] = Unit {0}
SameEnds [] (y ∷ ys) = ⊥
SameEnds (x ∷ xs) [] = ⊥
SameEnds (x ∷ xs) (y ∷ ys) = (x.from ≡ y.from) × (x.to ≡ y.to) × SameEnds xs ys

-- the bounds of arc a are those of its latest granted rebound, else those at opening
abbrev pub BoundsAre : {C : Type 0} → State C → List (Event C) → ℕ → ℤ → ℤ → Type 0
BoundsAre {C} opening es a lo hi = SomeSince es (GrantedCall (rebound a lo hi)) (Rebounds a) ⊎
    (AllByRecursion (λ e. ¬ Rebounds a e) es × ((x : Arc C) → arc_at opening.net a ≡ Some x → (x.lo ≡ lo) × (x.hi ≡ hi)))

-- its cost is that of its latest granted recost, else that at opening
abbrev pub CostIs : {C : Type 0} → State C → List (Event C) → ℕ → C → Type 0
CostIs {C} opening es a c = SomeSince es (GrantedCall (recost a c)) (Recosts a) ⊎
    (AllByRecursion (λ e. ¬ Recosts a e) es × ((x : Arc C) → arc_at opening.net a ≡ Some x → x.cost ≡ c))

-- a settle came to an end: least or none
abbrev pub CameToAnEnd : {C : Type 0} → Came C → Type 0
CameToAnEnd {C} o = ((cost : C) × ((laps : ℕ) × (o ≡ settled (least cost laps)))) ⊎ (o ≡ settled none)

-- the law of these events, from the plan just opened to the plan left
pub record Run {C : Type 0} (K : Kind C) (opening : State C) (es : List (Event C)) (left : State C) : Type 0 where
  -- the nodes, and the ends of the arcs, stay
  pub same_nodes : left.net.nodes ≡ opening.net.nodes
  pub same_ends : SameEnds (shown opening.net) (shown left.net)
  -- the imbalance of each node is what it was at opening; the needs table holds it
  pub imbalances : (n : ℕ) → 1 ≤ n → n ≤ opening.net.nodes → imbalance (shown left.net) left.tables.flow n ≡ imbalance (shown opening.net) opening.tables.flow n
  pub needs_stay : left.tables.needs ≡ opening.tables.needs
  pub needs_long : length left.tables.needs ≡ left.net.nodes
  pub needs_are : Meets (shown left.net) left.tables.needs left.tables.flow
  -- where the last granted event answered least: within the bounds shown, of that total, and least
  pub least_is_least : (cost : C) (laps : ℕ) → LastAnswered es (least cost laps) →
      EachArc Within (shown left.net) left.tables.flow × (cost ≡ total (sums K) (shown left.net) left.tables.flow) × Least K left.net.nodes (shown left.net) left.tables.flow
  -- where it answered none: the marks are a cut, and no flow within the bounds shown has these imbalances
  pub none_is_none : LastAnswered es none →
      MarksCut (shown left.net) left.tables.needs left.tables.marks × ((g : List ℤ) → EachArc Within (shown left.net) g → ¬ SameImbalances left.net.nodes (shown left.net) left.tables.flow g)
  -- a granted settle with a budget of at least 2,000,000 × A came to an end
  pub ended : AllByRecursion (λ e. (budget : ℕ) → GrantedCall (settle budget) e → lap_limit (length (shown opening.net)) ≤ budget → CameToAnEnd e.outcome) es
  -- opened with none out: an arc is out at a lock-out exactly when it was taken out there and not handed back there since
  pub outs : NoneOut opening.net → (l a : ℕ) → (out_in left.net l a ≡ true) ↔ SomeSince es (GrantedCall (take_out l a)) (GrantedCall (hand_back l a))
  -- out at some lock-out, it shows 0 to 0
  pub shut : (l a : ℕ) (x : Arc C) → arc_at left.net a ≡ Some x → out_in left.net l a ≡ true → (x.lo ≡ pos 0) × (x.hi ≡ pos 0)
  -- out at none, it shows the bounds last granted, else those at opening
  pub bounds : NoneOut opening.net → (a : ℕ) (x : Arc C) → arc_at left.net a ≡ Some x → ((l : ℕ) → out_in left.net l a ≡ false) → BoundsAre opening es a x.lo x.hi
  -- its cost is the one last granted, else that at opening
  pub costs : (a : ℕ) (x : Arc C) → arc_at left.net a ≡ Some x → CostIs opening es a x.cost

-- whatever run led from a new plan to the plan found, the law holds with this event added, at the plan left
abbrev pub Lawful : {C : Type 0} → Kind C → State C → Event C → State C → Type 0
Lawful {C} K found e left = (opening : State C) (es : List (Event C)) → New K opening → Steps K opening es found → Run K opening (es ++ (e ∷ [])) left

-- steps from a new plan make a run
abbrev pub StepsMakeARun : {C : Type 0} → Kind C → Type 0
StepsMakeARun {C} K = (opening left : State C) (es : List (Event C)) → New K opening → Steps K opening es left → Run K opening es left
