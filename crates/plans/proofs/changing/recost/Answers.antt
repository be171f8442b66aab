use Rattle.plans.proofs.Stepping.{recost_keeps}
use Rattle.plans.proofs.changing.recost.Goals as goal

pub returns : goal.returns
returns g c =
    let n = g.N.Network.meaning c.args.net.now in
    let m = g.N.Network.meaning c.recost.new.self in
    record { keeps = recost_keeps g.N.Cost.CostKind.kind g.met.N.Cost.CostKind.lawful n m c.args.arc c.args.cost c.recost.result c.recost.ensures.answers c.recost.ensures.leaves; same_references = c.recost.ensures.same_references }
