-- A plan that is opened and settled by a list of that one call.
use Rattle.std.specs.Prelude.{◌≡◌, ℕ, List, [], ◌∷◌, Some, None, Result}
use Rattle.costs.specs.Kinds.{Kind}
use Rattle.networks.specs.declared.stops.Stop.{Stop}
use Rattle.networks.specs.Answers.{Told}
use Rattle.flows.specs.Kilter.{lap_limit}
use Rattle.search.specs.declared.settling.Answer.{Answer}
use Rattle.runs.specs.declared.calls.Call.{Call}
use Rattle.runs.specs.declared.calls.Call.TheVariants.{Settle}
use Rattle.runs.specs.States.{State, opening_stop, opened}
use Rattle.runs.specs.Events.{settle, refused, Event, event}
use Rattle.runs.specs.Steps.{Steps}
use Rattle.runs.specs.Runs.{Run}
use Rattle.plans.specs.Keeping.{settle_came}

-- the list of the one call: a settle with as many laps as so many arcs can need, 2,000,000 for each
abbrev pub full_settle : {C : Type 0} → ℕ → List (Call C)
full_settle arcs = Settle (lap_limit arcs) ∷ []

-- the one event
abbrev pub one_settle : {C : Type 0} → ℕ → Result (Answer C) Stop → List (Event C)
one_settle arcs r = event (settle (lap_limit arcs)) (settle_came r) ∷ []

-- refused as open is, else a step of that one event, and its law
pub record SettlesOnce {C : Type 0} (K : Kind C) (arcs : ℕ) (found : State C) (r : Result (Answer C) Stop) (left : State C) : Type 0 where
  pub stopped : (s : Told) → opening_stop K found ≡ Some s → (settle_came r ≡ refused s) × (left ≡ found)
  pub steps : opening_stop K found ≡ None → Steps K (opened found) (one_settle arcs r) left
  pub law : opening_stop K found ≡ None → Run K (opened found) (one_settle arcs r) left
