-- Readings of a text, one after another.
use Rattle.std.specs.Prelude.{ℕ, ◌+◌, List, length, drop, Ok, Err, Result}
use Rattle.tokens.specs.declared.spots.Spot.{Spot}
use Rattle.tokens.specs.declared.spots.Cause.{Cause}
use Rattle.tokens.specs.declared.spots.LineFault.{LineFault}
use Rattle.tokens.specs.Tokens.{Shape, line_feed, bytes_of}

-- where reading is: the byte that is next, and the bytes from it on
pub record Reading : Type 0 where
  pub spot : Spot
  pub rest : List ℕ

-- before the first byte
abbrev pub start_of : List ℕ → Reading
start_of xs = record { spot = record { line = 1; place = 1 }; rest = xs }

-- the byte after a token; a line feed ends its line
abbrev pub spot_after : Shape → Spot → Spot
spot_after line_feed p = record { line = p.line + 1; place = 1 }
spot_after s p = record { line = p.line; place = p.place + length (bytes_of s) }

abbrev pub past : Shape → Reading → Reading
past s r = record { spot = spot_after s r.spot; rest = drop (length (bytes_of s)) r.rest }

abbrev pub fault_at : Reading → Cause → LineFault
fault_at r c = record { spot = r.spot; cause = c }

-- what is read or why it is not, and where reading is then
abbrev pub Outcome : Type 0 → Type 0
Outcome A = Result (A × Reading) (LineFault × Reading)

abbrev pub ended : {A : Type 0} → Result A LineFault → Reading → Outcome A
ended (Ok x) r = Ok (x, r)
ended (Err e) r = Err (e, r)

-- one reading after another; the first fault ends them
abbrev pub then : {A B : Type 0} → Outcome A → (A → Reading → Outcome B) → Outcome B
then (Ok m) f = f m.0 m.1
then (Err e) f = Err e
