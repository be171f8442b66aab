use Rattle.std.proofs.Common.{length, sym, ap, ◌∙◌}
use Rattle.networks.specs.Answers.{refusal}
use Rattle.networks.proofs.Shown.{length_shown}
use Rattle.flows.proofs.Fitted.{no_stop}
use Rattle.flows.proofs.Passes.{passes, passed_is_least}
use Rattle.runs.specs.States.{state}
use Rattle.plans.proofs.Passable.{passes_after_least}
use Rattle.plans.proofs.passed.passing.pass.Goals as goal

pub invariant_of-result : goal.invariant_of-result
invariant_of-result g c =
    let K = g.N.Cost.CostKind.kind in
    let n = g.N.Network.meaning c.args.net.now in
    let s = passes K n c.args.flow.now c.args.needs.now c.args.prices.now (length c.args.marks.now) (sym c.pass_stop.ensures ∙ ap refusal c.in_ok-pass_stop.was) in
    let p = no_stop K n c.args.flow.now c.args.needs.now (length c.args.prices.now) (length c.args.marks.now) s.0 in
    record { long = p.flow_long ∙ sym (length_shown n); kilter = s.1 }

pub returns-clause-least : goal.returns-clause-least
returns-clause-least g c =
    let K = g.N.Cost.CostKind.kind in
    let n = g.N.Network.meaning c.args.net.now in
    let s = passes K n c.args.flow.now c.args.needs.now c.args.prices.now (length c.args.marks.now) (sym c.pass_stop.ensures ∙ ap refusal c.in_ok-pass_stop.was) in
    passed_is_least K g.met.N.Cost.CostKind.lawful n c.args.flow.now c.args.needs.now c.args.prices.now (length c.args.marks.now) s.0 s.1

pub returns-clause-after_least : goal.returns-clause-after_least
returns-clause-after_least g c =
    passes_after_least g.N.Cost.CostKind.kind g.met.N.Cost.CostKind.lawful (state (g.N.Network.meaning c.args.net.now) c.args.flow.now c.args.needs.now c.args.prices.now c.args.marks.now)

pub returns-in_err-pass_stop-clause-after_least : goal.returns-in_err-pass_stop-clause-after_least
returns-in_err-pass_stop-clause-after_least g c =
    passes_after_least g.N.Cost.CostKind.kind g.met.N.Cost.CostKind.lawful (state (g.N.Network.meaning c.args.net.now) c.args.flow.now c.args.needs.now c.args.prices.now c.args.marks.now)
