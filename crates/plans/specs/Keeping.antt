-- What every call on a plan owes: it takes its step, and whatever run led to the plan found, the law holds with it added.
use Rattle.std.specs.Prelude.{Ok, Err, Result}
use Rattle.costs.specs.Kinds.{Kind}
use Rattle.networks.specs.declared.stops.Stop.{Stop}
use Rattle.networks.specs.declared.tags.Tag.{Tag}
use Rattle.networks.specs.Stops.{told}
use Rattle.networks.specs.Nets.{Net}
use Rattle.flows.specs.Settles.{Tables}
use Rattle.search.specs.declared.settling.Answer.{Answer}
use Rattle.search.specs.Settling.{answered}
use Rattle.runs.specs.States.{State}
use Rattle.runs.specs.Events.{Came, settled, done, refused, Event}
use Rattle.runs.specs.Steps.{Step}
use Rattle.runs.specs.Runs.{Lawful}

-- what came of a settle
abbrev pub settle_came : {C : Type 0} → Result (Answer C) Stop → Came C
settle_came (Ok a) = settled (answered a)
settle_came (Err s) = refused (told s)

-- what came of a call that is done or refused
abbrev pub done_came : {C X : Type 0} → Result X Stop → Came C
done_came (Ok x) = done
done_came (Err s) = refused (told s)

-- what came of a hand-back, which gives the tag back where it is refused
abbrev pub back_came : {C : Type 0} → Result (Unit {0}) (Stop × Tag) → Came C
back_came (Ok x) = done
back_came (Err e) = refused (told e.0)

-- the step and the law
pub record Keeps {C : Type 0} (K : Kind C) (found : State C) (e : Event C) (left : State C) : Type 0 where
  pub step : Step K found e left
  pub law : Lawful K found e left

-- the same of a call on the network alone: whatever the tables hold, they stay
abbrev pub KeepsTables : {C : Type 0} → Kind C → Net C → Event C → Net C → Type 0
KeepsTables {C} K n e m = (t : Tables C) → Keeps K (record { net = n; tables = t }) e (record { net = m; tables = t })
