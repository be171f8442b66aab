-- A bounds fault as a fault of its line.
use Rattle.tokens.specs.declared.spots.Cause.TheVariants.{Bounds}
use Rattle.tokens.specs.declared.spots.BoundsFault.{BoundsFault}
use Rattle.tokens.specs.declared.spots.LineFault.{LineFault}

abbrev pub bounds_fault : BoundsFault → LineFault
bounds_fault e = record { spot = e.spot; cause = Bounds e.stop }
