use Rattle.std.proofs.Common.{◌+◌, get_or, pos, sym, ap, ◌∙◌, subst}
use Rattle.networks.specs.Nets.{shown}
use Rattle.flows.specs.Kilter.{reduced}
use Rattle.reach.specs.Scans.{sight_of, Scanned}
use Rattle.reach.proofs.Sights.{seen_aside, sighted}
use Rattle.reach.proofs.scans.look.Goals as goal

pub returns-in_default : goal.returns-in_default
returns-in_default g c =
    let v = c.args.aim.now.view in
    seen_aside g.N.Cost.CostKind.kind g.met.N.Cost.CostKind.lawful (shown (g.N.Network.meaning v.net.now)) v.flow.now v.prices.now c.args.aim.now.chosen.arc c.args.labels.now c.args.i c.args.best c.requires.sighted c.args.arc
    c.requires.arc (sym c.in_default.is ∙ c.way_across.ensures)

pub returns : goal.returns
returns g c =
    let K = g.N.Cost.CostKind.kind in
    let v = c.args.aim.now.view in
    let arcs = shown (g.N.Network.meaning v.net.now) in
    let a = c.args.arc in
    let i = c.args.i in
    let x = c.over.result in
    let s = c.see.result in
    let sees = c.see.ensures.sees in
    subst (Scanned K arcs v.flow.now v.prices.now c.args.aim.now.chosen.arc c.args.labels.now (i + 1))
    (sym (c.sight.ensures ∙ ap (λ z. sight_of K z s.arc x s.flow c.args.best) sees.priced ∙ ap (λ z. sight_of K (reduced K v.prices.now s.arc) s.arc x z c.args.best) sees.carries ∙ ap (λ z. sight_of K (reduced K v.prices.now z) z x (get_or v.flow.now i (pos 0)) c.args.best) c.see.ensures.same ∙ ap (λ z. sight_of K (reduced K v.prices.now a) a z (get_or v.flow.now i (pos 0)) c.args.best) c.over.ensures))
    (sighted K g.met.N.Cost.CostKind.lawful arcs v.flow.now v.prices.now c.args.aim.now.chosen.arc c.args.labels.now i c.args.best c.requires.sighted a
    c.requires.arc c.in-Some.along (sym c.in-Some.is ∙ c.way_across.ensures) c.if-i-aim.false)
