use Rattle.std.proofs.Common.{sym, refl, ap, ◌∙◌}
use Rattle.networks.specs.Answers.{answer}
use Rattle.layers.proofs.Closed.{take_stop_lower, taken_lower, take_upper}
use Rattle.layers.proofs.closing.ClosingCostNetwork.take_out.Goals as goal

pub returns-then-not-is_lower : goal.returns-then-not-is_lower
returns-then-not-is_lower g c =
    let t = c.args.self.now in
    let r = take_upper g.N.Network.meaning g.N.Cost.CostKind.kind.zero t c.args.layer c.args.a (sym c.is_lower.ensures ∙ c.if-not-is_lower.true) in
    record { answers = ap (λ o. answer o c.args.a) r.0; leaves = r.1; same_references = refl }

pub returns : goal.returns
returns g c =
    let t = c.args.self.now in
    let low = sym c.is_lower.ensures ∙ c.if-not-is_lower.false in
    record {
      answers = c.take_out.ensures.answers ∙ ap (λ o. answer o c.args.a) (take_stop_lower g.N.Network.meaning g.N.Cost.CostKind.kind.zero t c.args.layer c.args.a low);
      leaves = taken_lower g.N.Network.meaning g.N.Cost.CostKind.kind.zero t c.args.layer c.args.a low _ c.take_out.ensures.leaves;
      same_references = c.take_out.ensures.same_references;
    }
