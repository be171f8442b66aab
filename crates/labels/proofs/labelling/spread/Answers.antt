use Rattle.std.proofs.Common.{rules, ◌≡◌, ◌<◌, length, drop, sym, ap, ◌∙◌, subst, ⊎_elim, inl, arith}
use Rattle.std.proofs.lemmas.Bool.{cases_eq}
use Rattle.std.specs.Option.{is_some}
use Rattle.std.proofs.lemmas.List.{length-drop, drop-drop}
use Rattle.networks.specs.Nets.{shown}
use Rattle.networks.proofs.Shown.{length_shown}
use Rattle.labels.specs.Good.{Followed}
use Rattle.labels.proofs.Extending.{grown_both, followed_more, followed_all}
use Rattle.labels.proofs.More.{is_placed}
use Rattle.labels.proofs.labelling.spread.Goals as goal

pub loop-i-init-derived : goal.loop-i-init-derived
loop-i-init-derived g c =
    let start = ap (λ s. s.iter) c.into_iter-i-iterator.ensures.into_iter_gives ∙ c.enumerate-i-items.ensures.source in
    let none = ap (λ s. s.count) c.into_iter-i-iterator.ensures.into_iter_gives ∙ c.enumerate-i-items.ensures.count in
    let a = c.arcs_of.result in
    let n = g.N.Network.meaning a.net.now in
    let left = ap (λ s. drop s.given (shown (g.N.Network.meaning s.net.now))) start in
    let few : a.count < 18446744073709551616 = search rules in
    ((tt, tt, inl (omega (arith, ap length left, none, few, a.counted, length_shown n, length-drop a.given (shown n)))), tt)

pub loop-i-preserved : goal.loop-i-preserved
loop-i-preserved g c =
    let next = c.in-Some.ensures.steps in
    let v = c.args.aim.now.view in
    let K = g.N.Cost.CostKind.kind in
    let arcs = shown (g.N.Network.meaning v.net.now) in
    let left = ap (drop 1) (sym next.0 ∙ c.loop-i.invariant.0) ∙ drop-drop 1 c.loop-i.i-iterator.count arcs ∙ ap (λ j. drop j arcs) (sym next.2) in (
      left,
      c.extend.ensures.good,
      grown_both c.args.labels.now c.loop-i.labels c.extend.new.labels c.loop-i.invariant.2 c.extend.ensures.grown,
      λ i high other. ⊎_elim
          (λ (e : i ≡ c.in-Some.i). subst (Followed K arcs v.flow.now v.prices.now c.extend.new.labels c.args.at) (sym e) (c.extend.ensures.followed (λ q. other (e ∙ q))))
          (λ (e : i ≡ c.in-Some.i → ⊥). followed_more K arcs v.flow.now v.prices.now c.args.aim.now.chosen.arc c.loop-i.labels c.extend.new.labels c.extend.ensures.grown c.args.at i (omega (arith, c.requires.place, c.loop-i.invariant.2.more)) (c.loop-i.invariant.3 i (omega (arith, next.1, next.2)) other))
          (cases_eq i c.in-Some.i),
    )

pub returns-clause-all : goal.returns-clause-all
returns-clause-all g c = λ no.
    let v = c.args.aim.now.view in
    followed_all g.N.Cost.CostKind.kind (shown (g.N.Network.meaning v.net.now)) v.flow.now v.prices.now c.args.aim.now.chosen.arc c.loop-i.labels c.args.at c.loop-i.i-iterator.count
    (sym c.loop-i.invariant.0 ∙ c.in-None.ensures.steps.0.0) c.loop-i.invariant.3

pub returns-clause-found : goal.returns-clause-found
returns-clause-found g c = c.is_some-2.ensures ∙ ap is_some c.place-2.ensures ∙ is_placed c.loop-i.labels c.args.aim.now.chosen.node
