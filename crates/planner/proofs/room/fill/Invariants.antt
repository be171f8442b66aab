use Rattle.std.proofs.Common.{◌≡◌, take, replicate}
use Rattle.planner.proofs.room.fill.Given as goal

abbrev pub invariant-loop-slot : goal.invariant-loop-slot
invariant-loop-slot g l = take l.slot-index l.table ≡ replicate l.slot-index l.value
