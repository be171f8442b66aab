use Rattle.std.proofs.Common.{rules, ◌+◌, ◌<◌, length, drop, sym, ap, ◌∙◌, subst, inl, arith}
use Rattle.std.proofs.lemmas.List.{length-drop, drop-drop}
use Rattle.networks.specs.Nets.{shown}
use Rattle.networks.proofs.Shown.{length_shown}
use Rattle.reach.specs.Scans.{Sighted}
use Rattle.reach.proofs.Sights.{seen_all}
use Rattle.reach.proofs.scans.look_round.Goals as goal

pub loop-i-init-derived : goal.loop-i-init-derived
loop-i-init-derived g c =
    let start = ap (λ s. s.iter) c.into_iter-i-iterator.ensures.into_iter_gives ∙ c.enumerate-i-items.ensures.source in
    let none = ap (λ s. s.count) c.into_iter-i-iterator.ensures.into_iter_gives ∙ c.enumerate-i-items.ensures.count in
    let a = c.arcs_of.result in
    let n = g.N.Network.meaning a.net.now in
    let left = ap (λ s. drop s.given (shown (g.N.Network.meaning s.net.now))) start in
    let few : a.count < 18446744073709551616 = search rules in
    ((tt, tt, inl (omega (arith, ap length left, none, few, a.counted, length_shown n, length-drop a.given (shown n)))), tt)

pub loop-i-preserved : goal.loop-i-preserved
loop-i-preserved g c =
    let next = c.in-Some.ensures.steps in
    let v = c.args.aim.now.view in
    let arcs = shown (g.N.Network.meaning v.net.now) in
    let left = ap (drop 1) (sym next.0 ∙ c.loop-i.invariant.0) ∙ drop-drop 1 c.loop-i.i-iterator.count arcs ∙ ap (λ j. drop j arcs) (sym next.2) in
    (left, subst (λ k. Sighted g.N.Cost.CostKind.kind arcs v.flow.now v.prices.now c.args.aim.now.chosen.arc c.args.labels.now k c.in_ok-best.best) (ap (λ j. j + 1) next.1 ∙ sym next.2) c.in_ok-best.ensures)

pub returns : goal.returns
returns g c =
    let v = c.args.aim.now.view in
    seen_all g.N.Cost.CostKind.kind g.met.N.Cost.CostKind.lawful (shown (g.N.Network.meaning v.net.now)) v.flow.now v.prices.now c.args.aim.now.chosen.arc c.args.labels.now c.loop-i.i-iterator.count c.loop-i.best
    (sym c.loop-i.invariant.0 ∙ c.in-None.ensures.steps.0.0) c.loop-i.invariant.1
