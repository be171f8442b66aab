use Rattle.std.proofs.Common.{◌+◌, ◌<◌, ◌≤◌, length}
use Rattle.std.specs.Prelude.{reverse}
use Rattle.labels.specs.Good.{count}
use Rattle.labels.specs.Ways.{Way}
use Rattle.labels.proofs.laps.trace.Given as goal

abbrev pub invariant-loop-k : goal.invariant-loop-k
invariant-loop-k l = (l.k < count l.labels) × (length l.steps.items + l.k ≤ l.place) × Way l.labels l.k (reverse l.steps.items) l.place

abbrev pub decreases-loop-k : goal.decreases-loop-k
decreases-loop-k l = l.k
