use Rattle.std.proofs.Common.{◌≡◌, ◌+◌, drop}
use Rattle.flows.specs.Passing.{prices_stop}
use Rattle.flows.proofs.passing.prices_fault.Given as goal

abbrev pub invariant-loop-i : goal.invariant-loop-i
invariant-loop-i g l = prices_stop g.C.CostKind.kind.size (l.i + 1) (drop l.i l.prices) ≡ prices_stop g.C.CostKind.kind.size 1 l.prices
