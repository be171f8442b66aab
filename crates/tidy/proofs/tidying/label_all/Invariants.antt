use Rattle.networks.specs.Nets.{shown}
use Rattle.tidy.proofs.Turns.{Tidying}
use Rattle.tidy.proofs.tidying.label_all.Given as goal

abbrev pub invariant-loop : goal.invariant-loop
invariant-loop g l = Tidying g.N.Cost.CostKind.kind (shown (g.N.Network.meaning l.net)) l.initial.prices l.prices l.marks l.counter
