use Rattle.plans.proofs.Stepping.{hand_back_keeps}
use Rattle.plans.proofs.changing.hand_back.Goals as goal

pub returns : goal.returns
returns g c =
    let n = g.N.Network.meaning c.args.net.now in
    let m = g.N.Network.meaning c.hand_back.new.self in
    record { tag = c.hand_back.ensures.answers; keeps = hand_back_keeps g.N.Cost.CostKind.kind g.met.N.Cost.CostKind.lawful n m c.args.layer c.args.tag c.hand_back.result c.hand_back.ensures.answers c.hand_back.ensures.leaves; same_references = c.hand_back.ensures.same_references }
