-- What a call answers, with a stop told by its number and place.
use Rattle.std.specs.Prelude.{ℕ, Some, None, Ok, Err, Option, Result}
use Rattle.networks.specs.declared.stops.Stop.{Stop}
use Rattle.networks.specs.declared.tags.Tag.{Tag}
use Rattle.networks.specs.Stops.{told}

-- a number and a place
abbrev pub Told : Type 0
Told = ℕ × ℕ

-- the answer that is due: a value, unless something stops the call
abbrev pub answer : {X : Type 0} → Option Told → X → Result X Told
answer None x = Ok x
answer (Some s) x = Err s

-- an answer that was given
abbrev pub said : {X : Type 0} → Result X Stop → Result X Told
said (Ok x) = Ok x
said (Err s) = Err (told s)

-- the stop of an answer that was given
abbrev pub refusal : {X : Type 0} → Result X Stop → Option Told
refusal (Ok x) = None
refusal (Err s) = Some (told s)

-- a tag by the number of its arc
abbrev pub tagged : Result Tag Stop → Result ℕ Stop
tagged (Ok t) = Ok t.arc
tagged (Err s) = Err s

-- the answer of a call that takes a tag: a refusal gives it back
abbrev pub answer_back : Option Told → Tag → Result (Unit {0}) (Told × Tag)
answer_back None t = Ok tt
answer_back (Some s) t = Err (s, t)

abbrev pub returned : Result (Unit {0}) (Stop × Tag) → Result (Unit {0}) (Told × Tag)
returned (Ok x) = Ok x
returned (Err e) = Err (told e.0, e.1)

-- what stands after a call: the new where it was granted, else the old
abbrev pub unless : {X : Type 0} → Option Told → X → X → X
unless None old new = new
unless (Some s) old new = old
