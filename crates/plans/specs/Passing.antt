-- What a passed plan shows, and when pass is granted.
use Rattle.std.specs.Prelude.{◌≡◌, ℕ, List, length, ℤ, None, Option}
use Rattle.costs.specs.Kinds.{Kind}
use Rattle.networks.specs.Answers.{Told}
use Rattle.networks.specs.Nets.{shown}
use Rattle.flows.specs.Flows.{EachArc, Within, Least}
use Rattle.flows.specs.Passing.{pass_stop}
use Rattle.flows.specs.Settles.{least}
use Rattle.runs.specs.States.{State, New}
use Rattle.runs.specs.Events.{Event, LastAnswered}
use Rattle.runs.specs.Steps.{Steps}

-- why a plan is not passed, if so
abbrev pub passing_stop : {C : Type 0} → Kind C → State C → Option Told
passing_stop K p = pass_stop K p.net p.tables.flow p.tables.needs p.tables.prices (length p.tables.marks)

-- the flow is within the bounds, and least
abbrev pub IsLeast : {C : Type 0} → Kind C → State C → Type 0
IsLeast K p = EachArc Within (shown p.net) p.tables.flow × Least K p.net.nodes (shown p.net) p.tables.flow

-- whatever run from a new plan led to this one: where its last granted call answered least, nothing stops a pass
abbrev pub PassesAfterLeast : {C : Type 0} → Kind C → State C → Type 0
PassesAfterLeast {C} K p = (opening : State C) (es : List (Event C)) (cost : C) (laps : ℕ) → New K opening → Steps K opening es p → LastAnswered es (least cost laps) → passing_stop K p ≡ None
