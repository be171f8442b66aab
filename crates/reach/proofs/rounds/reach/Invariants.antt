use Rattle.std.proofs.Common.{◌-◌}
use Rattle.networks.specs.Nets.{shown}
use Rattle.labels.specs.Good.{count}
use Rattle.reach.proofs.Rounding.{Rounding}
use Rattle.reach.proofs.rounds.reach.Given as goal

abbrev pub invariant-rounds : goal.invariant-rounds
invariant-rounds g l = Rounding g.N.Cost.CostKind.kind (shown (g.N.Network.meaning l.net)) l.flow l.initial.prices l.prices l.chosen l.labels

abbrev pub decreases-rounds : goal.decreases-rounds
decreases-rounds g l = 256 - count l.labels
