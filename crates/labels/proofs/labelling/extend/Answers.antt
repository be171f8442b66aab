use Rattle.std.proofs.Common.{◌≡◌, false, pos, sym, ap, ◌∙◌, subst, rules}
use Rattle.std.specs.Prelude.{slice_index_or}
use Rattle.networks.specs.Nets.{shown}
use Rattle.labels.specs.Moves.{may}
use Rattle.flows.specs.Laps.{step_over}
use Rattle.labels.specs.Good.{Good, Grown, Followed, node_at, outward_at, linked_by, pushed}
use Rattle.labels.proofs.Extending.{outward_is, seen_as, new_room, new_good, new_grown, new_followed, shut_followed}
use Rattle.labels.proofs.labelling.extend.Goals as goal

pub link-requires-clause-room : goal.link-requires-clause-room
link-requires-clause-room g c =
    let v = c.args.aim.now.view in
    let K = g.N.Cost.CostKind.kind in
    let arcs = shown (g.N.Network.meaning v.net.now) in
    let a = c.args.arc in
    let ls = c.args.labels.now in
    let along = c.in-Some.along in
    let out = outward_is a (node_at ls c.args.at) ls along (sym c.in-Some.is ∙ c.outward.ensures ∙ ap (λ z. outward_at a z.node ls) c.entry-node.ensures) in
    let moves = sym (seen_as K arcs v.flow.now v.prices.now c.args.i c.see.result a along c.see.ensures.sees c.see.ensures.same) ∙ sym c.may.ensures ∙ c.if-may.true in
    new_room K arcs v.flow.now v.prices.now c.args.aim.now.chosen.arc c.args.aim.now.few ls c.requires.good c.args.at c.args.i c.requires.place c.if-i-aim.false a c.requires.arc (v.fitting c.args.i a c.requires.arc) along out.0 out.1 moves

pub link-requires-clause-node : goal.link-requires-clause-node
link-requires-clause-node g c = let fit = c.args.aim.now.view.fitting c.args.i c.args.arc c.requires.arc in search rules

pub returns-then-may : goal.returns-then-may
returns-then-may g c =
    let v = c.args.aim.now.view in
    let K = g.N.Cost.CostKind.kind in
    let arcs = shown (g.N.Network.meaning v.net.now) in
    let a = c.args.arc in
    let ls = c.args.labels.now in
    let along = c.in-Some.along in
    let out = outward_is a (node_at ls c.args.at) ls along (sym c.in-Some.is ∙ c.outward.ensures ∙ ap (λ z. outward_at a z.node ls) c.entry-node.ensures) in
    let moves = sym (seen_as K arcs v.flow.now v.prices.now c.args.i c.see.result a along c.see.ensures.sees c.see.ensures.same) ∙ sym c.may.ensures ∙ c.if-may.true in
    let made : c.link.new.self ≡ pushed ls (linked_by a (step_over c.args.i a along) c.args.at) = search rules in
    record {
      good = subst (Good K arcs v.flow.now v.prices.now c.args.aim.now.chosen.arc) (sym made) (new_good K arcs v.flow.now v.prices.now c.args.aim.now.chosen.arc c.args.aim.now.few ls c.requires.good c.args.at c.args.i c.requires.place c.if-i-aim.false a c.requires.arc (v.fitting c.args.i a c.requires.arc) along out.0 out.1 moves);
      grown = subst (Grown ls) (sym made) (new_grown K arcs v.flow.now v.prices.now c.args.aim.now.chosen.arc c.args.aim.now.few ls c.requires.good c.args.at c.args.i c.requires.place c.if-i-aim.false a c.requires.arc (v.fitting c.args.i a c.requires.arc) along out.0 out.1 moves);
      followed = λ _. subst (λ z. Followed K arcs v.flow.now v.prices.now z c.args.at c.args.i) (sym made) (new_followed K arcs v.flow.now v.prices.now c.args.aim.now.chosen.arc c.args.aim.now.few ls c.requires.good c.args.at c.args.i c.requires.place c.if-i-aim.false a c.requires.arc (v.fitting c.args.i a c.requires.arc) along out.0 out.1 moves);
    }

pub returns-else-may-clause-followed : goal.returns-else-may-clause-followed
returns-else-may-clause-followed g c =
    let v = c.args.aim.now.view in
    let K = g.N.Cost.CostKind.kind in
    let ls = c.args.labels.now in
    let s = c.see.result in
    let f = slice_index_or v.flow.now c.args.i (pos 0) in
    let along = c.in-Some.along in
    let out = outward_is c.args.arc (node_at ls c.args.at) ls along (sym c.in-Some.is ∙ c.outward.ensures ∙ ap (λ z. outward_at c.args.arc z.node ls) c.entry-node.ensures) in
    let shut : may K v.prices.now c.args.arc along f ≡ false = sym (seen_as K (shown (g.N.Network.meaning v.net.now)) v.flow.now v.prices.now c.args.i s c.args.arc along c.see.ensures.sees c.see.ensures.same) ∙ sym c.may.ensures ∙ c.if-may.false in
    λ _. shut_followed K (shown (g.N.Network.meaning v.net.now)) v.flow.now v.prices.now c.args.aim.now.chosen.arc ls c.requires.good.whole c.args.at c.args.i c.requires.place c.args.arc c.requires.arc along out.0 out.1 shut
