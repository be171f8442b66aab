use Rattle.std.proofs.Common.{Some, sym, refl, ap, ◌∙◌}
use Rattle.networks.specs.Answers.{answer_back}
use Rattle.layers.specs.Closings.{is_lower}
use Rattle.layers.proofs.Closed.{back_stop_lower, handed_lower, back_none}
use Rattle.layers.proofs.closing.ClosingCostNetwork.hand_back.Goals as goal

pub returns-then-not-is_lower : goal.returns-then-not-is_lower
returns-then-not-is_lower g c =
    let t = c.args.self.now in
    let n = g.N.Network.meaning t.below in
    let tag = c.args.tag in
    let high = ap (is_lower n) (sym c.arc-a.ensures) ∙ sym c.is_lower.ensures ∙ c.if-not-is_lower.true in
    let r = back_none g.N.Network.meaning g.N.Cost.CostKind.kind.zero t c.args.layer tag.arc high in
    record { answers = ap (λ a. answer_back (Some (12, a)) tag) c.arc-a.ensures ∙ ap (λ o. answer_back o tag) r.0; leaves = r.1; same_references = refl }

pub returns : goal.returns
returns g c =
    let t = c.args.self.now in
    let n = g.N.Network.meaning t.below in
    let tag = c.args.tag in
    let low = ap (is_lower n) (sym c.arc-a.ensures) ∙ sym c.is_lower.ensures ∙ c.if-not-is_lower.false in
    record {
      answers = c.hand_back.ensures.answers ∙ ap (λ o. answer_back o tag) (back_stop_lower g.N.Network.meaning g.N.Cost.CostKind.kind.zero t c.args.layer tag.arc low);
      leaves = handed_lower g.N.Network.meaning g.N.Cost.CostKind.kind.zero t c.args.layer tag.arc low _ c.hand_back.ensures.leaves;
      same_references = c.hand_back.ensures.same_references;
    }
