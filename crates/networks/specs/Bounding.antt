-- When a pair of bounds can be made.
use Rattle.std.specs.Prelude.{cond, ℤ, Ok, Err, Result}
use Rattle.networks.specs.declared.stops.Stop.{Stop}
use Rattle.networks.specs.declared.bounds.Bounds.{Bounds}
use Rattle.networks.specs.Limits.{bounds_fit}
use Rattle.networks.specs.Stops.{told}
use Rattle.networks.specs.Answers.{Told}

-- the two numbers, or stop 7 at place 0
abbrev pub made_bounds : ℤ → ℤ → Result (ℤ × ℤ) Told
made_bounds lo hi = cond (bounds_fit lo hi) (Ok (lo, hi)) (Err (7, 0))

abbrev pub read_bounds : Result Bounds Stop → Result (ℤ × ℤ) Told
read_bounds (Ok b) = Ok (b.lo, b.hi)
read_bounds (Err s) = Err (told s)
