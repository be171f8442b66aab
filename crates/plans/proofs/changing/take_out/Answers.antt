use Rattle.plans.proofs.Stepping.{take_out_keeps}
use Rattle.plans.proofs.changing.take_out.Goals as goal

pub returns : goal.returns
returns g c =
    let n = g.N.Network.meaning c.args.net.now in
    let m = g.N.Network.meaning c.take_out.new.self in
    record { tag = c.take_out.ensures.answers; keeps = take_out_keeps g.N.Cost.CostKind.kind g.met.N.Cost.CostKind.lawful n m c.args.layer c.args.arc c.take_out.result c.take_out.ensures.answers c.take_out.ensures.leaves; same_references = c.take_out.ensures.same_references }
