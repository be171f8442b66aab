use Rattle.std.proofs.Common.{◌≤◌, length, sym, ◌∙◌, subst, arith, rules}
use Rattle.std.proofs.lemmas.List.{set-get_or}
use Rattle.networks.specs.Nets.{IsAt}
use Rattle.plans.specs.Lists.{MakesAll}
use Rattle.plans.proofs.Making.{done_more, done_short, done_full, done_whole}
use Rattle.plans.proofs.running.make_all.Goals as goal

pub returns-in_default-clause-makes : goal.returns-in_default-clause-makes
returns-in_default-clause-makes g c =
    let out : length c.args.calls.now ≤ c.loop-i.i = search rules in
    subst (MakesAll g.N.Cost.CostKind.kind _ c.args.tags.now.places c.args.offers.now c.args.calls.now c.args.outcomes.now c.loop-i.i _ c.loop-i.tags.places) (sym (set-get_or c.loop-i.outcomes c.loop-i.i c.index-outcomes-i.result))
    (done_whole _ _ _ _ _ _ _ _ _ _ c.loop-i.invariant.0 out)

pub returns-in_default-make-clause-makes : goal.returns-in_default-make-clause-makes
returns-in_default-make-clause-makes g c =
    let there : IsAt c.args.calls.now c.loop-i.i c.in-Some.call.now = search rules in
    subst (MakesAll g.N.Cost.CostKind.kind _ c.args.tags.now.places c.args.offers.now c.args.calls.now c.args.outcomes.now c.loop-i.i _ c.make.new.tags.places) (sym (set-get_or c.loop-i.outcomes c.loop-i.i c.index-outcomes-i.result))
    (done_short _ _ _ _ _ _ _ _ _ _ c.loop-i.invariant.0 _ _ c.in-Some.call.now there c.in_default-make.ensures.makes)

pub loop-i-preserved : goal.loop-i-preserved
loop-i-preserved g c =
    let there : IsAt c.args.calls.now c.loop-i.i c.in-Some.call.now = search rules in (
      done_more _ g.met.N.Cost.CostKind.lawful _ _ _ _ _ _ _ _ _ _ _ c.in-Some.call.now c.in-Some-make.outcome
          c.loop-i.invariant.0 there c.loop-i-test.true c.in-Some-make.ensures.makes,
      c.in-Some-make.ensures.same_references ∙ c.loop-i.invariant.1,
    )

pub returns-clause-makes : goal.returns-clause-makes
returns-clause-makes g c = done_full _ _ _ _ _ _ _ _ _ _ c.loop-i.invariant.0 (omega (arith, c.loop-i-test.false, c.loop-i.auto.i-end))
