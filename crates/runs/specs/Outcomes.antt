-- The outcome that an answer comes to.
use Rattle.std.specs.Prelude.{Ok, Err, Result}
use Rattle.networks.specs.declared.stops.Stop.{Stop}
use Rattle.search.specs.declared.settling.Answer.{Answer}
use Rattle.runs.specs.declared.calls.Outcome.{Outcome}
use Rattle.runs.specs.declared.calls.Outcome.TheVariants.{Settled, Done, Refused}

-- of a settle
abbrev pub settled_as : {C : Type 0} → Result (Answer C) Stop → Outcome C
settled_as (Ok a) = Settled a
settled_as (Err s) = Refused s

-- of a call that is done or refused
abbrev pub done_as : {C : Type 0} → Result (Unit {0}) Stop → Outcome C
done_as (Ok x) = Done
done_as (Err s) = Refused s
