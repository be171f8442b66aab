use Rattle.std.proofs.Common.{◌≡◌, ap, ◌∙◌, sym, subst, ⊎_elim, arith}
use Rattle.std.proofs.lemmas.Bool.{cases_eq}
use Rattle.networks.specs.Nets.{shown}
use Rattle.labels.specs.Good.{AllFollowed}
use Rattle.std.specs.Option.{is_some}
use Rattle.labels.proofs.Extending.{grown_both, followed_more}
use Rattle.labels.proofs.More.{is_placed}
use Rattle.labels.proofs.labelling.label_from.Goals as goal

pub returns-then-spread-clause-grown : goal.returns-then-spread-clause-grown
returns-then-spread-clause-grown g c = grown_both c.args.labels.now c.loop-at.labels c.spread.new.labels c.loop-at.invariant.1 c.spread.ensures.grown

pub loop-at-preserved : goal.loop-at-preserved
loop-at-preserved g c =
    let v = c.args.aim.now.view in
    let K = g.N.Cost.CostKind.kind in
    let arcs = shown (g.N.Network.meaning v.net.now) in (
      c.spread.ensures.good,
      grown_both c.args.labels.now c.loop-at.labels c.spread.new.labels c.loop-at.invariant.1 c.spread.ensures.grown,
      λ k low high. ⊎_elim
          (λ (e : k ≡ c.loop-at.at). subst (AllFollowed K arcs v.flow.now v.prices.now c.args.aim.now.chosen.arc c.spread.new.labels) (sym e) (c.spread.ensures.all c.if-spread.false))
          (λ (e : k ≡ c.loop-at.at → ⊥). λ i other. followed_more K arcs v.flow.now v.prices.now c.args.aim.now.chosen.arc c.loop-at.labels c.spread.new.labels c.spread.ensures.grown k i (omega arith) (c.loop-at.invariant.2 k low (omega arith) i other))
          (cases_eq k c.loop-at.at),
    )

pub returns-clause-found : goal.returns-clause-found
returns-clause-found g c = c.is_some.ensures ∙ ap is_some c.place.ensures ∙ is_placed c.loop-at.labels c.args.aim.now.chosen.node

pub returns-clause-all : goal.returns-clause-all
returns-clause-all g c = λ no k low high. c.loop-at.invariant.2 k low (omega arith)
