use Rattle.std.proofs.Common.{get_or, pos, sym, ap, ◌∙◌}
use Rattle.networks.specs.Nets.{shown}
use Rattle.flows.specs.Kilter.{reduced, way}
use Rattle.search.proofs.Choosing.{wanted_is}
use Rattle.search.proofs.attempts.wanted.Goals as goal

pub returns : goal.returns
returns g c =
    let K = g.N.Cost.CostKind.kind in
    let v = c.args.view.now in
    let s = c.see.result in
    let sees = c.see.ensures.sees in
    wanted_is K g.met.N.Cost.CostKind.lawful _ (shown (g.N.Network.meaning v.net.now)) v.flow.now v.prices.now c.args.i c.arc-arc.result c.in_ok-along.along c.over.result c.far_end.result c.arc-arc.ensures.is c.arc-arc.ensures.fit v.long
    (sym c.in_ok-along.was ∙ c.amiss.ensures.way ∙ ap (λ z. way K z s.arc s.flow) sees.priced ∙ ap (λ z. way K (reduced K v.prices.now s.arc) s.arc z) sees.carries ∙ ap (λ z. way K (reduced K v.prices.now z) z (get_or v.flow.now c.args.i (pos 0))) c.see.ensures.same)
    c.over.ensures c.far_end.ensures
