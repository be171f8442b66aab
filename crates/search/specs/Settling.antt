-- What settle owes for each answer and refusal.
use Rattle.std.specs.Prelude.{◌≡◌, ℕ, Bool, true, false, List, ℤ, Ok, Err, Some, Option, Result}
use Rattle.std.specs.Prelude as prelude
use Rattle.arrayvec.specs.ArrayVec.{ArrayVec}
use Rattle.costs.specs.Kinds.{Kind}
use Rattle.networks.specs.declared.stops.Stop.{Stop}
use Rattle.networks.specs.Nets.{Net, shown}
use Rattle.flows.specs.Settles.{Tables, Answered, least, paused, none, Settles, InWords}
use Rattle.search.specs.declared.seek.Halt.{Halt}
use Rattle.search.specs.declared.seek.Halt.TheVariants as halt
use Rattle.search.specs.declared.settling.Answer.{Answer}
use Rattle.search.specs.declared.settling.Answer.TheVariants.{Least, Paused, None}

abbrev pub tables : {C : Type 0} → List ℤ → List ℤ → List C → List ℕ → Tables C
tables flow needs prices marks = record { flow = flow; needs = needs; prices = prices; marks = marks }

-- what the guard leaves: the flow as it was saved, where it is still saved
abbrev pub restored : Option (ArrayVec ℤ) → List ℤ → List ℤ
restored prelude.None flow = flow
restored (Some saved) flow = saved.items

-- how the seeking ended, by its answer
abbrev pub end_of : {C : Type 0} → Answer C → Result ℕ Halt
end_of (Least total laps) = Ok laps
end_of (Paused laps) = Err (halt.Paused laps)
end_of None = Err halt.Cut

-- the answer is that there is no flow
abbrev pub is_none_answer : {C : Type 0} → Answer C → Bool
is_none_answer (Least total laps) = false
is_none_answer (Paused laps) = false
is_none_answer None = true

-- where the answer has a total, it is c
abbrev pub HasTotal : {C : Type 0} → Answer C → C → Type 0
HasTotal (Least total laps) c = total ≡ c
HasTotal (Paused laps) c = Unit {0}
HasTotal None c = Unit {0}

-- the answer, in the words of the rules
abbrev pub answered : {C : Type 0} → Answer C → Answered C
answered (Least total laps) = least total laps
answered (Paused laps) = paused laps
answered None = none

-- an answer settles the network; a refusal leaves every table as found
abbrev pub Settled : {C : Type 0} → Kind C → Net C → ℕ → Tables C → Result (Answer C) Stop → Tables C → Type 0
Settled K n budget found (Ok a) left = Settles K n.nodes (shown n) budget found (answered a) left
Settled K n budget found (Err s) left = left ≡ found

-- an answer keeps its promise in words; a refusal promises nothing more
abbrev pub Worded : {C : Type 0} → Kind C → Net C → ℕ → Tables C → Result (Answer C) Stop → Tables C → Type 0
Worded K n budget found (Ok a) left = InWords K n.nodes (shown n) budget found (answered a) left
Worded K n budget found (Err s) left = Unit {0}
