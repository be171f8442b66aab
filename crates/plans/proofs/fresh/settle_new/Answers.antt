use Rattle.std.proofs.Common.{Err, sym, ap, ◌∙◌, subst}
use Rattle.std.proofs.lemmas.Result.{err_from_is_err_and}
use Rattle.runs.specs.States.{state}
use Rattle.plans.specs.Lists.{SettlesNew}
use Rattle.plans.proofs.Whole.{new_refused, new_settled}
use Rattle.plans.proofs.fresh.settle_new.Goals as goal

pub returns-in_err-open : goal.returns-in_err-open
returns-in_err-open g c =
    let h = c.in_err-open.ensures in
    let n = g.N.Network.meaning c.args.net.now in
    let p = state n c.args.flow.now c.args.needs.now c.args.prices.now c.args.marks.now in
    let q = state n c.args.flow.now c.open.new.needs c.args.prices.now c.args.marks.now in
    let out = err_from_is_err_and c.from_residual.result c.from_residual.ensures.1 in
    subst (λ r. SettlesNew g.N.Cost.CostKind.kind p c.args.budget r q) (sym (out.1 ∙ ap Err out.2))
    (new_refused g.N.Cost.CostKind.kind p c.args.budget c.in_err-open.field-0.0 q h.stops h.leaves)

pub returns : goal.returns
returns g c =
    let h = c.in_ok-open.ensures in
    let n = g.N.Network.meaning c.args.net.now in
    new_settled g.N.Cost.CostKind.kind (state n c.args.flow.now c.args.needs.now c.args.prices.now c.args.marks.now) c.args.budget g.met.N.Cost.CostKind.lawful
    (state n c.args.flow.now c.open.new.needs c.args.prices.now c.args.marks.now) (state n c.settle.new.flow c.open.new.needs c.settle.new.prices c.settle.new.marks) c.settle.result h.stops h.leaves c.settle.ensures
