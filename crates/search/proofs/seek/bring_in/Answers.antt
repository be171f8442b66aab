use Rattle.std.proofs.Common.{◌≡◌, ◌<◌, ◌≤◌, Ok, sym, refl, ap, ◌∙◌, subst, arith}
use Rattle.std.proofs.lemmas.Bool.{ltb-true, ltb-false}
use Rattle.networks.specs.Nets.{shown}
use Rattle.flows.specs.searching.Prices.{SignsKept}
use Rattle.search.specs.Going.{LapAtHand, CutMarked}
use Rattle.search.proofs.Keeping.{still}
use Rattle.search.proofs.Steps.{going_lapped}
use Rattle.search.proofs.Ending.{gone_on, gone_nowhere}
use Rattle.search.proofs.seek.bring_in.Goals as goal

pub loop-laps-preserved : goal.loop-laps-preserved
loop-laps-preserved g c =
    let n = g.N.Network.meaning c.args.net.now in
    let inv = c.loop-laps.invariant in
    let h : c.loop-laps.laps < c.args.budget = ltb-true _ _ (c.in-Lapped.ensures.spends.0 refl) in
    let e = c.in-Lapped.ensures in (
      e.ready,
      omega arith,
      e.ends.1 ∙ inv.2,
      e.ends.0.long ∙ inv.3,
      λ found from. going_lapped g.N.Cost.CostKind.kind g.met.N.Cost.CostKind.lawful n.nodes (shown n) found c.args.i c.loop-laps.laps c.loop-laps.flow c.loop-laps.prices c.attempt.new.prices (inv.4 found from) e.eased c.attempt.new.flow e.ready e.ends.0,
      λ kilter. absurd (let no = (e.keeps (still g.N.Cost.CostKind.kind (shown (g.N.Network.meaning c.args.net.now)) c.args.flow.now c.loop-laps.flow c.args.prices.now c.loop-laps.prices c.args.i kilter (inv.5 kilter).1 (inv.5 kilter).2)).0 in cc),
    )

pub returns-in-Kilter : goal.returns-in-Kilter
returns-in-Kilter g c =
    let inv = c.loop-laps.invariant in
    let e = c.in-Kilter.ensures in
    let K = g.N.Cost.CostKind.kind in
    let arcs = shown (g.N.Network.meaning c.args.net.now) in
    record {
      ends = λ found from. (gone_on g.met.N.Cost.CostKind.lawful (inv.4 found from) e.eased e.ready e.ends.0 e.ends.1, inv.1, e.ends.2 ∙ inv.2);
      keeps = λ kilter.
          let same = inv.5 kilter in
          (ap Ok same.0, e.ends.0 ∙ same.1, subst (λ z. SignsKept K arcs z c.attempt.new.prices) same.2 (e.keeps (still g.N.Cost.CostKind.kind (shown (g.N.Network.meaning c.args.net.now)) c.args.flow.now c.loop-laps.flow c.args.prices.now c.loop-laps.prices c.args.i kilter same.1 same.2)).1);
    }

pub returns-in-Short : goal.returns-in-Short
returns-in-Short g c =
    let inv = c.loop-laps.invariant in
    let e = c.in-Short.ensures in
    let full : c.args.budget ≤ c.loop-laps.laps = ltb-false _ _ (e.spends.1 refl) in
    let whole : c.loop-laps.laps ≡ c.args.budget = omega (arith, inv.1) in
    let lap = subst (λ z. LapAtHand g.N.Cost.CostKind.kind (shown (g.N.Network.meaning c.args.net.now)) z c.attempt.new.prices) (sym e.ends.0) e.ends.1 in
    record {
      ends = λ found from. (gone_nowhere g.met.N.Cost.CostKind.lawful (inv.4 found from) e.eased e.ready e.ends.0, whole, lap, e.ends.2 ∙ inv.2);
      keeps = λ kilter. absurd (let no = (e.keeps (still g.N.Cost.CostKind.kind (shown (g.N.Network.meaning c.args.net.now)) c.args.flow.now c.loop-laps.flow c.args.prices.now c.loop-laps.prices c.args.i kilter (inv.5 kilter).1 (inv.5 kilter).2)).0 in cc);
    }

pub returns-in-Cut : goal.returns-in-Cut
returns-in-Cut g c =
    let e = c.in-Cut.ensures in
    let cut = subst (λ z. CutMarked (shown (g.N.Network.meaning c.args.net.now)) z c.attempt.new.marks) (sym e.ends.0) e.ends.1 in
    record {
      ends = λ found from. (c.loop-laps.laps, gone_nowhere g.met.N.Cost.CostKind.lawful (c.loop-laps.invariant.4 found from) e.eased e.ready e.ends.0, cut);
      keeps = λ kilter. absurd (let no = (e.keeps (still g.N.Cost.CostKind.kind (shown (g.N.Network.meaning c.args.net.now)) c.args.flow.now c.loop-laps.flow c.args.prices.now c.loop-laps.prices c.args.i kilter (c.loop-laps.invariant.5 kilter).1 (c.loop-laps.invariant.5 kilter).2)).0 in cc);
    }
