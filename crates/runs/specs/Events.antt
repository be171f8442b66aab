-- Events: a call on a plan with its outcome.
use Rattle.std.specs.Prelude.{◌≡◌, ℕ, Bool, true, false, List, [], ◌∷◌, ◌++◌, take, drop, ℤ}
use Rattle.std.specs.List.{AllByRecursion}
use Rattle.networks.specs.Answers.{Told}
use Rattle.networks.specs.Stops.{told}
use Rattle.flows.specs.Settles.{Answered}
use Rattle.search.specs.Settling.{answered}
use Rattle.runs.specs.declared.calls.Call.{Call}
use Rattle.runs.specs.declared.calls.Call.TheVariants.{Settle, Rebound, Recost, TakeOut, HandBack, TakeUp}
use Rattle.runs.specs.declared.calls.Outcome.{Outcome}
use Rattle.runs.specs.declared.calls.Outcome.TheVariants.{Settled, Done, Refused}

-- a call: settle by a budget, rebound an arc, recost one, take one out or hand it back at a lock-out, take up a flow
pub data Asked (C : Type 0) : Type 0 where
  settle : ℕ → Asked C
  rebound : ℕ → ℤ → ℤ → Asked C
  recost : ℕ → C → Asked C
  take_out : ℕ → ℕ → Asked C
  hand_back : ℕ → ℕ → Asked C
  take_up : List ℤ → Asked C

-- its outcome: granted with an answer, granted, or refused with a number and a place
pub data Came (C : Type 0) : Type 0 where
  settled : Answered C → Came C
  done : Came C
  refused : Told → Came C

pub record Event (C : Type 0) : Type 0 where
  pub call : Asked C
  pub outcome : Came C

abbrev pub event : {C : Type 0} → Asked C → Came C → Event C
event c o = record { call = c; outcome = o }

-- a call of a list: a flow that is offered stands among the flows beside the list
abbrev pub asked : {C : Type 0} → List ℤ → Call C → Asked C
asked offers (Settle budget) = settle budget
asked offers (Rebound a b) = rebound a b.lo b.hi
asked offers (Recost a c) = recost a c
asked offers (TakeOut l a) = take_out l a
asked offers (HandBack l a) = hand_back l a
asked offers (TakeUp from len) = take_up (take len (drop from offers))

abbrev pub came : {C : Type 0} → Outcome C → Came C
came (Settled a) = settled (answered a)
came Done = done
came (Refused s) = refused (told s)

-- the calls of a list beside their outcomes
abbrev pub events : {C : Type 0} → List ℤ → List (Call C) → List (Outcome C) → List (Event C)
events offers [] os = []
events offers (c ∷ cs) [] = []
events offers (c ∷ cs) (o ∷ os) = event (asked offers c) (came o) ∷ events offers cs os

abbrev pub is_granted : {C : Type 0} → Came C → Bool
is_granted (settled x) = true
is_granted done = true
is_granted (refused s) = false

abbrev pub Granted : {C : Type 0} → Event C → Type 0
Granted e = is_granted e.outcome ≡ true

-- the event is this call, granted
abbrev pub GrantedCall : {C : Type 0} → Asked C → Event C → Type 0
GrantedCall c e = (e.call ≡ c) × Granted e

-- some event is of the kind P, and none since is of the kind Q
pub record SomeSince {C : Type 0} (es : List (Event C)) (P Q : Event C → Type 0) : Type 0 where
  pub before : List (Event C)
  pub here : Event C
  pub after : List (Event C)
  pub is : es ≡ before ++ (here ∷ after)
  pub so : P here
  pub none_since : AllByRecursion (λ e. ¬ Q e) after

-- the last granted event answered so
abbrev pub LastAnswered : {C : Type 0} → List (Event C) → Answered C → Type 0
LastAnswered es x = SomeSince es (λ e. e.outcome ≡ settled x) Granted

-- a granted rebound of arc a; a granted recost of it
abbrev pub Rebounds : {C : Type 0} → ℕ → Event C → Type 0
Rebounds a e = (lo hi : ℤ) × GrantedCall (rebound a lo hi) e

abbrev pub Recosts : {C : Type 0} → ℕ → Event C → Type 0
Recosts {C} a e = (c : C) × GrantedCall (recost a c) e
