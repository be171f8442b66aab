use Rattle.std.proofs.Common.{◌∙◌}
use Rattle.networks.specs.Nets.{shown}
use Rattle.search.proofs.Keeping.{kilter_here, signs_both}
use Rattle.search.proofs.seek.seek.Goals as goal

pub loop-i-preserved : goal.loop-i-preserved
loop-i-preserved g c =
    let K = g.N.Cost.CostKind.kind in
    let laws = g.met.N.Cost.CostKind.lawful in
    let n = g.N.Network.meaning c.args.net.now in
    let inv = c.loop-i.invariant in
    let e = c.in_ok-laps.ensures.ends c.args.flow.now inv.0 in
    let ready = c.requires.going.ready in (
      e.0,
      e.1,
      e.2 ∙ inv.2,
      c.bring_in.auto.flow ∙ inv.3,
      λ each.
          let same = inv.4 each in
          let next = c.in_ok-laps.ensures.keeps (kilter_here K laws n.nodes (shown n) c.args.flow.now c.loop-i.flow c.args.prices.now c.loop-i.prices ready.fitting ready.long each same.1 same.2 c.loop-i.i) in
          (let count = next.0 in let none = same.0 in cc, next.1 ∙ same.1, signs_both K laws (shown n) c.args.prices.now c.loop-i.prices c.bring_in.new.prices same.2 next.2),
    )

pub returns-in_err-laps-clause-keeps : goal.returns-in_err-laps-clause-keeps
returns-in_err-laps-clause-keeps g c = λ each.
    let K = g.N.Cost.CostKind.kind in
    let n = g.N.Network.meaning c.args.net.now in
    let ready = c.requires.going.ready in
    let same = c.loop-i.invariant.4 each in
    let next = c.in_err-laps.ensures.keeps (kilter_here K g.met.N.Cost.CostKind.lawful n.nodes (shown n) c.args.flow.now c.loop-i.flow c.args.prices.now c.loop-i.prices ready.fitting ready.long each same.1 same.2 c.loop-i.i) in
    absurd (let no = next.0 in cc)
