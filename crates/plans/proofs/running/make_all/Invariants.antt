use Rattle.std.proofs.Common.{◌≡◌}
use Rattle.runs.specs.States.{state}
use Rattle.plans.proofs.Making.{Done}
use Rattle.plans.proofs.running.make_all.Given as goal

abbrev pub invariant-loop-i : goal.invariant-loop-i
invariant-loop-i g l =
    (Done g.N.Cost.CostKind.kind (state (g.N.Network.meaning l.initial.net) l.initial.flow l.initial.needs l.initial.prices l.initial.marks) l.initial.tags.places l.offers l.calls l.initial.outcomes
    l.i (state (g.N.Network.meaning l.net) l.flow l.needs l.prices l.marks) l.tags.places l.outcomes) × (g.N.Network.references l.net ≡ g.N.Network.references l.initial.net)
