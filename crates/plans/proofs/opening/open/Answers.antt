use Rattle.std.proofs.Common.{length, sym, arith}
use Rattle.plans.proofs.Opened.{opens}
use Rattle.plans.proofs.opening.open.Goals as goal

pub imbalances-requires : goal.imbalances-requires
imbalances-requires g c =
    let n = g.N.Network.meaning c.args.net.now in
    let r = opens g.N.Cost.CostKind.kind n c.args.flow.now (length c.args.needs.now) (length c.args.prices.now) (length c.args.marks.now) (sym c.in_ok-open_stop.ensures) in
    record { few = omega (arith, r.few_arcs, r.flow_long); small = r.small_flow }
