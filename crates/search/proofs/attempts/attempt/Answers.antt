use Rattle.reach.specs.Rounds.{EndsWith}
use Rattle.std.proofs.Common.{Err, ap, ◌≤◌, length, sym, refl, ◌∙◌, subst, arith}
use Rattle.networks.specs.Nets.{shown}
use Rattle.labels.specs.Ways.{Chosen}
use Rattle.search.specs.Going.{KilterAt}
use Rattle.search.proofs.Keeping.{kilter_kept, wanted_out}
use Rattle.search.proofs.Starting.{good_begun, fits_prices, searched}
use Rattle.search.proofs.AtHand.{at_hand}
use Rattle.search.proofs.Marking.{cut_marked}
use Rattle.search.proofs.attempts.attempt.Goals as goal

pub reach-requires : goal.reach-requires
reach-requires g c =
    let K = g.N.Cost.CostKind.kind in
    let arcs = shown (g.N.Network.meaning c.args.net.now) in
    let qs = c.tame.new.prices in
    let ready = c.tame.ensures.ready in
    let step = c.in-Some.choice.step in
    let want = c.in-Some.ensures in
    let b = c.begin-labels.ensures in
    let few : length qs ≤ 256 = omega (arith, ready.few, ready.priced) in
    record {
      searching = record {
        fitting = fits_prices ready;
        long = ready.long;
        good = good_begun K arcs c.args.flow.now qs step.arc c.in-Some.choice.source c.begin-labels.result want.sources.0 (omega (arith, want.sources.1, ready.priced)) few b;
        wanted = subst (Chosen K arcs c.args.flow.now qs step) (sym b.starts) want.chosen;
      };
      few = few;
      tame = c.tame.ensures.tame;
      one = b.one;
    }

pub lap-requires-clause-searching : goal.lap-requires-clause-searching
lap-requires-clause-searching g c =
    let K = g.N.Cost.CostKind.kind in
    let n = g.N.Network.meaning c.args.net.now in
    let now = searched K n.nodes (shown n) c.args.flow.now c.args.prices.now c.tame.new.prices c.reach.new.prices c.tame.ensures.ready c.tame.ensures.eased c.reach.ensures.prices in
    record { fitting = fits_prices now.ready; long = now.ready.long; good = c.in-Ok.ensures.ends.good; wanted = c.in-Ok.ensures.ends.wanted }

pub returns-then-not-may_lap : goal.returns-then-not-may_lap
returns-then-not-may_lap g c =
    let K = g.N.Cost.CostKind.kind in
    let n = g.N.Network.meaning c.args.net.now in
    let flow = c.args.flow.now in
    let rs = c.reach.new.prices in
    let now = searched K n.nodes (shown n) flow c.args.prices.now c.tame.new.prices rs c.tame.ensures.ready c.tame.ensures.eased c.reach.ensures.prices in
    record {
      ready = now.ready;
      eased = now.eased;
      ends = (refl, at_hand K g.met.N.Cost.CostKind.lawful (shown n) flow rs (fits_prices now.ready) now.ready.long now.ready.small c.in-Some.choice.step c.reach.new.labels c.in-Some.ensures.node.0 c.in-Ok.ensures.ends, refl);
      keeps = λ k. absurd (wanted_out K g.met.N.Cost.CostKind.lawful _ (shown n) c.args.flow.now c.tame.new.prices c.args.i c.in-Some.choice.step c.in-Some.choice.source c.in-Some.ensures (kilter_kept K g.met.N.Cost.CostKind.lawful n.nodes (shown n) c.args.flow.now c.args.prices.now c.tame.new.prices c.requires.ready.fitting c.requires.ready.long c.tame.ensures.signs c.args.i k));
      spends = ((λ e. absurd cc), (λ _. c.if-not-may_lap.true));
    }

pub returns-in-Err-Kilter : goal.returns-in-Err-Kilter
returns-in-Err-Kilter g c =
    let K = g.N.Cost.CostKind.kind in
    let n = g.N.Network.meaning c.args.net.now in
    let flow = c.args.flow.now in
    let rs = c.reach.new.prices in
    let now = searched K n.nodes (shown n) flow c.args.prices.now c.tame.new.prices rs c.tame.ensures.ready c.tame.ensures.eased c.reach.ensures.prices in
    let kilter = subst (EndsWith K (shown n) flow rs c.in-Some.choice.step c.reach.new.labels) (c.in-Err-Kilter.is ∙ ap Err c.in-Err-Kilter.field-0-is) c.reach.ensures.ends in
    record {
      ready = now.ready;
      eased = now.eased;
      ends = (refl, subst (KilterAt K (shown n) flow rs) c.in-Some.ensures.over kilter, refl);
      keeps = λ k. absurd (wanted_out K g.met.N.Cost.CostKind.lawful _ (shown n) c.args.flow.now c.tame.new.prices c.args.i c.in-Some.choice.step c.in-Some.choice.source c.in-Some.ensures (kilter_kept K g.met.N.Cost.CostKind.lawful n.nodes (shown n) c.args.flow.now c.args.prices.now c.tame.new.prices c.requires.ready.fitting c.requires.ready.long c.tame.ensures.signs c.args.i k));
      spends = ((λ e. absurd cc), (λ e. absurd cc));
    }

pub returns-in-Err-Cut : goal.returns-in-Err-Cut
returns-in-Err-Cut g c =
    let K = g.N.Cost.CostKind.kind in
    let n = g.N.Network.meaning c.args.net.now in
    let flow = c.args.flow.now in
    let step = c.in-Some.choice.step in
    let rs = c.reach.new.prices in
    let now = searched K n.nodes (shown n) flow c.args.prices.now c.tame.new.prices rs c.tame.ensures.ready c.tame.ensures.eased c.reach.ensures.prices in
    let cut = subst (EndsWith K (shown n) flow rs step c.reach.new.labels) (c.in-Err-Cut.is ∙ ap Err c.in-Err-Cut.field-0-is) c.reach.ensures.ends in
    record {
      ready = now.ready;
      eased = now.eased;
      ends = (refl, cut_marked K n.nodes (shown n) flow now.ready.fitting now.ready.long c.reach.new.labels c.mark.new.marks (c.mark.auto.marks ∙ c.requires.marks) c.mark.ensures step c.in-Some.ensures.chosen.moving.0 cut);
      keeps = λ k. absurd (wanted_out K g.met.N.Cost.CostKind.lawful _ (shown n) c.args.flow.now c.tame.new.prices c.args.i c.in-Some.choice.step c.in-Some.choice.source c.in-Some.ensures (kilter_kept K g.met.N.Cost.CostKind.lawful n.nodes (shown n) c.args.flow.now c.args.prices.now c.tame.new.prices c.requires.ready.fitting c.requires.ready.long c.tame.ensures.signs c.args.i k));
      spends = ((λ e. absurd cc), (λ e. absurd cc));
    }

pub returns-else-not-may_lap : goal.returns-else-not-may_lap
returns-else-not-may_lap g c =
    let K = g.N.Cost.CostKind.kind in
    let n = g.N.Network.meaning c.args.net.now in
    let now = searched g.N.Cost.CostKind.kind n.nodes (shown n) c.args.flow.now c.args.prices.now c.tame.new.prices c.reach.new.prices c.tame.ensures.ready c.tame.ensures.eased c.reach.ensures.prices in
    let r = c.lap.ensures in
    record {
      ready = record { fitting = now.ready.fitting; few = now.ready.few; priced = now.ready.priced; bounded = now.ready.bounded; long = r.long ∙ now.ready.long; small = r.small };
      eased = now.eased;
      ends = (r, refl);
      keeps = λ k. absurd (wanted_out K g.met.N.Cost.CostKind.lawful _ (shown n) c.args.flow.now c.tame.new.prices c.args.i c.in-Some.choice.step c.in-Some.choice.source c.in-Some.ensures (kilter_kept K g.met.N.Cost.CostKind.lawful n.nodes (shown n) c.args.flow.now c.args.prices.now c.tame.new.prices c.requires.ready.fitting c.requires.ready.long c.tame.ensures.signs c.args.i k));
      spends = ((λ _. c.if-not-may_lap.false), (λ e. absurd cc));
    }
