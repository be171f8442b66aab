use Rattle.std.proofs.Common.{length, Err, sym, ap, ◌∙◌, subst, arith}
use Rattle.std.proofs.lemmas.Result.{err_from_is_err_and}
use Rattle.std.proofs.lemmas.Bool.{ltb-true}
use Rattle.networks.specs.Nets.{shown}
use Rattle.flows.specs.searching.Fits.{Fitting}
use Rattle.labels.specs.Good.{node_at, place_of}
use Rattle.reach.specs.Rounds.{EndsWith, Advanced}
use Rattle.reach.proofs.Rounding.{rounding_start, rounding_small, rounding_labelled, rounding_advanced, repriced_here, repriced_after}
use Rattle.labels.proofs.Trails.{sought_there}
use Rattle.reach.proofs.rounds.reach.Goals as goal

pub rounds-init : goal.rounds-init
rounds-init g c = rounding_start g.met.N.Cost.CostKind.lawful c.requires.tame c.requires.searching

pub invariant_of-view : goal.invariant_of-view
invariant_of-view g c = record {
  long = c.requires.searching.long;
  fitting = subst (λ n. Fitting g.N.Cost.CostKind.kind n (shown (g.N.Network.meaning c.args.net.now))) (sym c.rounds.invariant.held.long) c.requires.searching.fitting;
  moderate = λ k h. omega (arith, rounding_small g.met.N.Cost.CostKind.lawful c.requires.tame c.rounds.invariant k h);
}

pub returns-then-label : goal.returns-then-label
returns-then-label g c =
    let now = rounding_labelled g.met.N.Cost.CostKind.lawful c.requires.tame c.rounds.invariant c.label.ensures.good c.label.ensures.grown in
    record {
      prices = repriced_here g.met.N.Cost.CostKind.lawful c.requires.tame now;
      ends = record {
        good = now.good;
        reached = ltb-true 0 (place_of c.label.new.labels c.args.chosen.node) (sym c.label.ensures.found ∙ c.if-label.true);
        wanted = now.wanted;
      };
    }

pub advance-requires-clause-searching : goal.advance-requires-clause-searching
advance-requires-clause-searching g c =
    let now = rounding_labelled g.met.N.Cost.CostKind.lawful c.requires.tame c.rounds.invariant c.label.ensures.good c.label.ensures.grown in
    record {
      fitting = subst (λ n. Fitting g.N.Cost.CostKind.kind n (shown (g.N.Network.meaning c.args.net.now))) (sym c.rounds.invariant.held.long) c.requires.searching.fitting;
      long = c.requires.searching.long;
      good = now.good;
      wanted = now.wanted;
    }

pub rounds-preserved : goal.rounds-preserved
rounds-preserved g c =
    let now = rounding_labelled g.met.N.Cost.CostKind.lawful c.requires.tame c.rounds.invariant c.label.ensures.good c.label.ensures.grown in
    let done = subst (Advanced g.N.Cost.CostKind.kind (shown (g.N.Network.meaning c.args.net.now)) c.args.flow.now c.rounds.prices c.advance.new.prices c.args.chosen c.label.new.labels c.advance.new.labels) c.in_ok-advance.was c.advance.ensures in
    rounding_advanced g.met.N.Cost.CostKind.lawful c.requires.tame now done

pub returns-in_err-advance : goal.returns-in_err-advance
returns-in_err-advance g c =
    let now = rounding_labelled g.met.N.Cost.CostKind.lawful c.requires.tame c.rounds.invariant c.label.ensures.good c.label.ensures.grown in
    let done = subst (Advanced g.N.Cost.CostKind.kind (shown (g.N.Network.meaning c.args.net.now)) c.args.flow.now c.rounds.prices c.advance.new.prices c.args.chosen c.label.new.labels c.advance.new.labels) c.in_err-advance.was c.advance.ensures in
    let p = err_from_is_err_and c.from_residual.result c.from_residual.ensures.1 in
    record {
      prices = repriced_after g.met.N.Cost.CostKind.lawful c.requires.tame now done;
      ends = subst (EndsWith g.N.Cost.CostKind.kind (shown (g.N.Network.meaning c.args.net.now)) c.args.flow.now c.advance.new.prices c.args.chosen c.advance.new.labels) (sym (p.1 ∙ ap Err p.2)) done.ends;
    }

pub invariant_of-label-clause-sought : goal.invariant_of-label-clause-sought
invariant_of-label-clause-sought g c =
    let K = g.N.Cost.CostKind.kind in
    let arcs = shown (g.N.Network.meaning c.args.net.now) in
    let fitting = subst (λ n. Fitting K n arcs) (sym c.rounds.invariant.held.long) c.requires.searching.fitting in
    sought_there K (length c.rounds.prices) arcs c.args.flow.now c.rounds.prices c.args.chosen (node_at c.rounds.labels 0) fitting c.rounds.invariant.wanted
