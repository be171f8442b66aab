use Rattle.std.proofs.Common.{w32, to_z, of_z, rules}
use Rattle.networks.specs.Nets.{shown}
use Rattle.labels.proofs.Rooming.{room_found}
use Rattle.labels.proofs.laps.room.Goals as goal

pub returns : goal.returns
returns g c =
    let v = c.args.view.now in
    let n = g.N.Network.meaning v.net.now in
    let s = c.see-seen.result in
    room_found g.N.Cost.CostKind.kind (shown n) v.flow.now v.prices.now c.args.step s (to_z w32 (of_z w32 c.span.result)) c.limit.result
    c.see-seen.ensures.sees c.limit.ensures (search rules)
