use Rattle.search.specs.Settling.{tables}
use Rattle.runs.specs.States.{state}
use Rattle.plans.proofs.Stepping.{settle_keeps}
use Rattle.plans.proofs.settling.settle.Goals as goal

pub returns : goal.returns
returns g c =
    let n = g.N.Network.meaning c.args.net.now in
    settle_keeps g.N.Cost.CostKind.kind g.met.N.Cost.CostKind.lawful (state n c.args.flow.now c.args.needs.now c.args.prices.now c.args.marks.now) c.args.budget c.settle.result
    (tables c.settle.new.flow c.args.needs.now c.settle.new.prices c.settle.new.marks) c.settle.ensures.stops c.settle.ensures.settles
