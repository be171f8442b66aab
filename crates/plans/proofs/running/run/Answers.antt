use Rattle.std.proofs.Common.{length, Ok, Err, sym, ap, ◌∙◌, subst}
use Rattle.std.proofs.lemmas.Result.{err_from_is_err_and}
use Rattle.runs.specs.States.{state}
use Rattle.plans.specs.Lists.{Runs, EveryCallMade}
use Rattle.plans.proofs.Every.{every_call}
use Rattle.plans.proofs.Whole.{run_refused, run_made}
use Rattle.plans.proofs.running.run.Goals as goal

pub returns-in_err-open-clause-runs : goal.returns-in_err-open-clause-runs
returns-in_err-open-clause-runs g c =
    let h = c.in_err-open.ensures in
    let n = g.N.Network.meaning c.args.net.now in
    let p = (state (g.N.Network.meaning c.args.net.now) c.args.flow.now c.args.needs.now c.args.prices.now c.args.marks.now) in
    let q = state n c.args.flow.now c.open.new.needs c.args.prices.now c.args.marks.now in
    let out = err_from_is_err_and c.from_residual.result c.from_residual.ensures.1 in
    subst (λ r. Runs g.N.Cost.CostKind.kind p c.args.tags.now.places c.args.offers.now c.args.calls.now c.args.outcomes.now r q c.args.tags.now.places c.args.outcomes.now) (sym (out.1 ∙ ap Err out.2))
    (run_refused g.N.Cost.CostKind.kind p c.args.tags.now.places c.args.offers.now c.args.calls.now c.args.outcomes.now c.in_err-open.field-0.0 q h.stops h.leaves)

pub returns-in_err-open-clause-every : goal.returns-in_err-open-clause-every
returns-in_err-open-clause-every g c =
    let out = err_from_is_err_and c.from_residual.result c.from_residual.ensures.1 in
    subst (λ r. EveryCallMade (g.N.Network.meaning c.args.net.now) c.args.tags.now.places (length c.args.calls.now) (length c.args.outcomes.now) r) (sym (out.1 ∙ ap Err out.2)) tt

pub returns-clause-runs : goal.returns-clause-runs
returns-clause-runs g c =
    let h = c.in_ok-open.ensures in
    let n = g.N.Network.meaning c.args.net.now in
    run_made g.N.Cost.CostKind.kind (state n c.args.flow.now c.args.needs.now c.args.prices.now c.args.marks.now) c.args.tags.now.places c.args.offers.now c.args.calls.now c.args.outcomes.now g.met.N.Cost.CostKind.lawful
    (state n c.args.flow.now c.open.new.needs c.args.prices.now c.args.marks.now) (state (g.N.Network.meaning c.make_all.new.net) c.make_all.new.flow c.open.new.needs c.make_all.new.prices c.make_all.new.marks)
    c.make_all.new.tags.places c.make_all.new.outcomes c.make_all.result h.stops h.leaves c.make_all.ensures.makes

pub returns-clause-every : goal.returns-clause-every
returns-clause-every g c =
    let n = g.N.Network.meaning c.args.net.now in
    every_call g.N.Cost.CostKind.kind (state n c.args.flow.now c.args.needs.now c.args.prices.now c.args.marks.now) (state (g.N.Network.meaning c.make_all.new.net) c.make_all.new.flow c.open.new.needs c.make_all.new.prices c.make_all.new.marks)
    c.args.tags.now.places c.make_all.new.tags.places c.args.offers.now c.args.calls.now c.args.outcomes.now c.make_all.new.outcomes (Ok c.make_all.result) (returns-clause-runs g c)
