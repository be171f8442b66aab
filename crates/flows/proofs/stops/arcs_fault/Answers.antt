use Rattle.std.proofs.Common.{Err, sym, ap, ◌∙◌, w32, SFits, rules}
use Rattle.std.proofs.lemmas.Int.{to_z-of_z}
use Rattle.std.proofs.lemmas.Result.{err_from_is_err_and}
use Rattle.networks.specs.Answers.{refusal}
use Rattle.flows.proofs.Turns.{none_left}
use Rattle.flows.proofs.Stopping.{arcs_pass, arcs_fail, arcs_end}
use Rattle.flows.proofs.stops.arcs_fault.Goals as goal

pub loop-i-preserved : goal.loop-i-preserved
loop-i-preserved g c =
    let next = c.in-Some.ensures.steps in
    let f : SFits w32 c.in-Some.f.now = search rules in
    arcs_pass g.N.Cost.CostKind.kind.size (g.N.Network.meaning c.args.net.now).nodes c.loop-i.i-iterator.count c.in-Some.i c.in-Some.arc c.in-Some.f.now next.0.0 next.0.1 next.1 _ next.2
    (simp (to_z-of_z, c.nodes-nodes.ensures) at c.in_ok-arc_fault.ensures) ∙ c.loop-i.invariant

pub returns-in_err-arc_fault : goal.returns-in_err-arc_fault
returns-in_err-arc_fault g c =
    let next = c.in-Some.ensures.steps in
    let f : SFits w32 c.in-Some.f.now = search rules in
    let p = err_from_is_err_and c.from_residual.result c.from_residual.ensures.1 in
    ap refusal (p.1 ∙ ap Err p.2) ∙
    sym (arcs_fail g.N.Cost.CostKind.kind.size (g.N.Network.meaning c.args.net.now).nodes c.loop-i.i-iterator.count c.in-Some.i c.in-Some.arc c.in-Some.f.now next.0.0 next.0.1 next.1 _
    (simp (to_z-of_z, c.nodes-nodes.ensures) at c.in_err-arc_fault.ensures)) ∙ c.loop-i.invariant

pub returns : goal.returns
returns g c = sym (arcs_end _ _ _ _ _ (none_left _ _ c.in-None.ensures.steps.0)) ∙ c.loop-i.invariant
