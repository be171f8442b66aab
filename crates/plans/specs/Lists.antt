-- What a list of calls does: which of them were made, their outcomes, the plan, and the ring that keeps their tags.
use Rattle.std.specs.Prelude.{◌≡◌, ℕ, ◌+◌, ◌≤◌, min, true, false, cond, ◌⊎◌, List, [], ◌∷◌, length, take, drop, ℤ, Some, None, Ok, Err, Option, Result}
use Rattle.costs.specs.Kinds.{Kind}
use Rattle.networks.specs.declared.stops.Stop.{Stop}
use Rattle.networks.specs.Answers.{Told}
use Rattle.networks.specs.Stops.{told}
use Rattle.networks.specs.Nets.{Lock, Net, IsAt, take_out_stop, hand_back_stop}
use Rattle.networks.specs.Rings.{Places, free_of_tags, has_room, keeps, with_tag, without_tag}
use Rattle.search.specs.declared.settling.Answer.{Answer}
use Rattle.runs.specs.declared.calls.Call.{Call}
use Rattle.runs.specs.declared.calls.Outcome.{Outcome}
use Rattle.runs.specs.States.{State, opening_stop, opened, NoneOut}
use Rattle.runs.specs.Events.{Asked, settle, rebound, recost, take_out, hand_back, take_up, refused, is_granted, Event, event, asked, came, events}
use Rattle.runs.specs.Steps.{Steps}
use Rattle.runs.specs.Runs.{Run}
use Rattle.plans.specs.Keeping.{settle_came, Keeps}

-- the call would be granted, and cannot be made with these tags: a take-out has no place for its tag, or a hand-back no tag
abbrev pub ShortOfTags : {C : Type 0} → Net C → Places → Asked C → Type 0
ShortOfTags n places (settle budget) = ⊥
ShortOfTags n places (rebound a lo hi) = ⊥
ShortOfTags n places (recost a c) = ⊥
ShortOfTags n places (take_out l a) = (take_out_stop n l a ≡ None) × (has_room places ≡ false)
ShortOfTags n places (hand_back l a) = (hand_back_stop n l a ≡ None) × (keeps places a ≡ false)
ShortOfTags n places (take_up fs) = ⊥

-- the ring after a granted call: a take-out put its tag in, a hand-back spent one
abbrev pub retagged : {C : Type 0} → Places → Asked C → Places
retagged places (settle budget) = places
retagged places (rebound a lo hi) = places
retagged places (recost a c) = places
retagged places (take_out l a) = with_tag places a
retagged places (hand_back l a) = without_tag places a
retagged places (take_up fs) = places

-- the ring after the events
abbrev pub ring_after : {C : Type 0} → Places → List (Event C) → Places
ring_after places [] = places
ring_after places (e ∷ es) = ring_after (cond (is_granted e.outcome) (retagged places e.call) places) es

-- one call of a list: it keeps the law, or it cannot be made and changes nothing
abbrev pub Makes : {C : Type 0} → Kind C → State C → Places → Asked C → Option (Outcome C) → State C → Places → Type 0
Makes K found places c (Some o) left after = Keeps K found (event c (came o)) left × (after ≡ ring_after places (event c (came o) ∷ []))
Makes K found places c None left after = ShortOfTags found.net places c × (left ≡ found) × (after ≡ places)

-- the first calls of a list, as many as were made: each is a step, and the others' outcomes stay; it ends early only where the outcomes run short, or before a call that the tags do not suffice for
pub record MakesAll {C : Type 0} (K : Kind C) (found : State C) (places : Places) (offers : List ℤ) (calls : List (Call C)) (outs : List (Outcome C)) (made : ℕ) (left : State C) (after : Places) (outcomes : List (Outcome C)) : Type 0 where
  pub among : made ≤ length calls
  pub noted : made ≤ length outcomes
  pub steps : Steps K found (events offers (take made calls) (take made outcomes)) left
  pub ring : after ≡ ring_after places (events offers (take made calls) (take made outcomes))
  pub rest : drop made outcomes ≡ drop made outs
  pub long : length outcomes ≡ length outs
  pub early : (c : Call C) → IsAt calls made c → (length outs ≤ made) ⊎ ShortOfTags left.net after (asked offers c)

-- a list of calls on a plan that is opened first: the law of these events, whole; where open stops, nothing changes
abbrev pub Runs : {C : Type 0} → Kind C → State C → Places → List ℤ → List (Call C) → List (Outcome C) → Result ℕ Stop → State C → Places → List (Outcome C) → Type 0
Runs K found places offers calls outs (Err s) left after outcomes = (opening_stop K found ≡ Some (told s)) × (left ≡ found) × (after ≡ places) × (outcomes ≡ outs)
Runs K found places offers calls outs (Ok made) left after outcomes =
    (opening_stop K found ≡ None) × MakesAll K (opened found) places offers calls outs made left after outcomes × Run K (opened found) (events offers (take made calls) (take made outcomes)) left

-- a plan opened and settled at once: refused as open is, else the law of that one event
pub record SettlesNew {C : Type 0} (K : Kind C) (found : State C) (budget : ℕ) (r : Result (Answer C) Stop) (left : State C) : Type 0 where
  pub stopped : (s : Told) → opening_stop K found ≡ Some s → (settle_came r ≡ refused s) × (left ≡ found)
  pub steps : opening_stop K found ≡ None → Steps K (opened found) (event (settle budget) (settle_came r) ∷ []) left
  pub law : opening_stop K found ≡ None → Run K (opened found) (event (settle budget) (settle_came r) ∷ []) left

-- how many lines the lock-outs have
abbrev pub lines_of : List Lock → ℕ
lines_of [] = 0
lines_of (o ∷ os) = length o.lines + lines_of os

-- with an empty ring that has a place for each line, over a network with none out, every call is made, as far as there are outcomes
abbrev pub EveryCallMade : {C : Type 0} → Net C → Places → ℕ → ℕ → Result ℕ Stop → Type 0
EveryCallMade n places calls outcomes (Err s) = Unit {0}
EveryCallMade n places calls outcomes (Ok made) = NoneOut n → free_of_tags places ≡ true → lines_of n.locks ≤ length places → made ≡ min calls outcomes
