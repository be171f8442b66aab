use Rattle.plans.proofs.Stepping.{rebound_keeps}
use Rattle.plans.proofs.changing.rebound.Goals as goal

pub returns : goal.returns
returns g c =
    let n = g.N.Network.meaning c.args.net.now in
    let m = g.N.Network.meaning c.rebound.new.self in
    record { keeps = rebound_keeps g.N.Cost.CostKind.kind g.met.N.Cost.CostKind.lawful n m c.args.arc c.args.bounds.lo c.args.bounds.hi c.rebound.result c.rebound.ensures.answers c.rebound.ensures.leaves; same_references = c.rebound.ensures.same_references }
