use Rattle.std.proofs.Common.{ℕ, ◌-◌, ◌<◌, ◌≤◌}
use Rattle.networks.specs.Nets.{shown}
use Rattle.labels.specs.Good.{Good, Grown, AllFollowed}
use Rattle.labels.proofs.labelling.label_from.Given as goal

abbrev pub invariant-loop-at : goal.invariant-loop-at
invariant-loop-at g l =
    Good g.N.Cost.CostKind.kind (shown (g.N.Network.meaning l.aim.view.net.now)) l.aim.view.flow.now l.aim.view.prices.now l.aim.chosen.arc l.labels × Grown l.initial.labels l.labels ×
    ((k : ℕ) → l.start ≤ k → k < l.at → AllFollowed g.N.Cost.CostKind.kind (shown (g.N.Network.meaning l.aim.view.net.now)) l.aim.view.flow.now l.aim.view.prices.now l.aim.chosen.arc l.labels k)

abbrev pub decreases-loop-at : goal.decreases-loop-at
decreases-loop-at g l = 256 - l.at
