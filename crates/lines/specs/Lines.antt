-- What stands in the lines of a network file, token by token: each reading answers a value or a fault, and
-- where reading is then.
use Rattle.std.specs.Prelude.{ℕ, cond, ◌&&◌, List, [], ◌∷◌, ℤ, pos, Ok, Err, codes, Result, int_le, unsigned_abs}
use Rattle.std.specs.Str.{bytes_eq}
use Rattle.networks.specs.declared.bounds.Bounds.{Bounds}
use Rattle.networks.specs.declared.stops.Stop.TheVariants as stop
use Rattle.networks.specs.Limits.{bounds_fit}
use Rattle.tokens.specs.declared.spots.Cause.{Cause}
use Rattle.tokens.specs.declared.spots.Cause.TheVariants as cause
use Rattle.tokens.specs.declared.spots.BoundsFault.{BoundsFault}
use Rattle.tokens.specs.declared.spots.LineFault.{LineFault}
use Rattle.tokens.specs.declared.scan.Token.{Token}
use Rattle.tokens.specs.Faults.{bounds_fault}
use Rattle.tokens.specs.Tokens.{Shape, number, value_of, shape, bytes_of, front_of}
use Rattle.lines.specs.declared.Numeral.{Numeral}
use Rattle.lines.specs.Readings.{Reading, Outcome, past, fault_at, ended, then}

-- the token that is next, by its bytes
abbrev pub token_or : Reading → Result Shape Cause → Result Shape LineFault
token_or r (Ok s) = Ok s
token_or r (Err c) = Err (fault_at r c)

abbrev pub token_at : Reading → Result Shape LineFault
token_at r = token_or r (front_of r.rest)

abbrev pub shown_token : Result Token LineFault → Result Shape LineFault
shown_token (Ok t) = Ok (shape t)
shown_token (Err e) = Err e

-- past the token, if it has the bytes that are due
abbrev pub expected : List ℕ → Reading → Result Shape LineFault → Outcome (Unit {0})
expected due r (Ok s) = cond (bytes_eq (bytes_of s) due) (Ok (tt, past s r)) (Err (fault_at r cause.NotDue, r))
expected due r (Err e) = Err (e, r)

abbrev pub expects : List ℕ → Reading → Outcome (Unit {0})
expects due r = expected due r (token_at r)

-- a bracket, a name and a space
abbrev pub starts : List ℕ → Reading → Outcome (Unit {0})
starts name r = then (expects (codes "(") r) (λ _ s. then (expects name s) (λ _ t. expects (codes " ") t))

-- the number that a token is
abbrev pub numeral : Reading → Result Shape LineFault → Outcome Numeral
numeral r (Ok (number w)) = Ok (record { value = value_of w; spot = r.spot }, past (number w) r)
numeral r (Ok s) = Err (fault_at r cause.NotDue, r)
numeral r (Err e) = Err (e, r)

abbrev pub number_in : Reading → Outcome Numeral
number_in r = numeral r (token_at r)

-- a number from the least to the most
abbrev pub ranged : ℤ → ℤ → Numeral → Result Numeral LineFault
ranged least most m = cond (int_le least m.value && int_le m.value most) (Ok m) (Err (record { spot = m.spot; cause = cause.Range }))

abbrev pub within_in : ℤ → ℤ → Reading → Outcome Numeral
within_in least most r = then (number_in r) (λ m s. ended (ranged least most m) s)

-- what it says
abbrev pub value_in : ℤ → ℤ → Reading → Outcome ℤ
value_in least most r = then (within_in least most r) (λ m s. Ok (m.value, s))

-- a count in brackets, after its name
abbrev pub count_in : List ℕ → ℕ → ℕ → Reading → Outcome ℕ
count_in name least most r = then (starts name r) (λ _ s. then (value_in (pos least) (pos most) s) (λ v t.
    then (expects (codes ")") t) (λ _ u. Ok (unsigned_abs v, u))))

-- the last bracket and the line feed
abbrev pub finishes : Reading → Outcome (Unit {0})
finishes r = then (expects (codes ")") r) (λ _ s. expects (10 ∷ []) s)

-- the bounds that two numbers make; a fault stands at the upper one
abbrev pub pair_of : Numeral → Numeral → Result (ℤ × ℤ) BoundsFault
pair_of lo hi = cond (bounds_fit lo.value hi.value) (Ok (lo.value, hi.value)) (Err (record { spot = hi.spot; stop = stop.Bounds 0 }))

-- a bounds fault is a fault of the line
abbrev pub in_line : {A : Type 0} → Result A BoundsFault → Result A LineFault
in_line (Ok x) = Ok x
in_line (Err e) = Err (bounds_fault e)

abbrev pub shown_pair : {E : Type 0} → Result Bounds E → Result (ℤ × ℤ) E
shown_pair (Ok b) = Ok (b.lo, b.hi)
shown_pair (Err e) = Err e

-- the lower bound, in brackets after its name
abbrev pub low_in : Reading → Outcome Numeral
low_in r = then (starts (codes "lo") r) (λ _ s. then (number_in s) (λ lo t. then (expects (codes ")") t) (λ _ u. Ok (lo, u))))

-- the upper bound, if the two make a pair of bounds
abbrev pub high_in : Numeral → Reading → Outcome (ℤ × ℤ)
high_in lo r = then (starts (codes "hi") r) (λ _ s. then (number_in s) (λ hi t. then (ended (in_line (pair_of lo hi)) t) (λ b u.
    then (expects (codes ")") u) (λ _ v. Ok (b, v)))))

abbrev pub bounds_in : Reading → Outcome (ℤ × ℤ)
bounds_in r = then (low_in r) (λ lo s. then (expects (codes " ") s) (λ _ t. high_in lo t))
