use Rattle.std.proofs.Common.{Err, sym, ap, ◌∙◌, subst}
use Rattle.std.proofs.lemmas.Result.{err_from_is_err_and}
use Rattle.runs.specs.Events.{event, take_up}
use Rattle.plans.specs.Keeping.{Keeps, done_came}
use Rattle.networks.specs.Stops.{told}
use Rattle.runs.specs.States.{state}
use Rattle.plans.proofs.Stepping.{take_up_refused, take_up_granted}
use Rattle.plans.proofs.settling.take_up.Goals as goal

pub returns-in_err-take_up_stop : goal.returns-in_err-take_up_stop
returns-in_err-take_up_stop g c =
    let K = g.N.Cost.CostKind.kind in
    let p = state (g.N.Network.meaning c.args.net.now) c.args.flow.now c.args.needs.now c.args.prices.now c.args.marks.now in
    let out = err_from_is_err_and c.from_residual.result c.from_residual.ensures.1 in
    subst (λ r. Keeps K p (event (take_up c.args.offered.now) (done_came {C = g.row.N-Cost.Denot} r)) p) (sym (out.1 ∙ ap Err out.2))
    (take_up_refused K g.met.N.Cost.CostKind.lawful p c.args.offered.now (told c.in_err-take_up_stop.field-0.0) c.in_err-take_up_stop.ensures)

pub returns : goal.returns
returns g c =
    let p = state (g.N.Network.meaning c.args.net.now) c.args.flow.now c.args.needs.now c.args.prices.now c.args.marks.now in
    take_up_granted g.N.Cost.CostKind.kind g.met.N.Cost.CostKind.lawful p c.args.offered.now c.copy.new.to c.in_ok-take_up_stop.ensures c.copy.ensures
