use Rattle.std.proofs.Common.{Some, refl, ap, ◌∙◌, arith}
use Rattle.layers.proofs.Closed.{lies, recost_stop_lower, recosted_lower, recost_entry, recost_large, recost_return}
use Rattle.layers.proofs.closing.ClosingCostNetwork.recost.Goals as goal

pub returns-in-Lower : goal.returns-in-Lower
returns-in-Lower g c =
    let t = c.args.self.now in
    let at = lies g.N.Network.meaning g.N.Cost.CostKind.kind.zero t c.args.a (c.in_ok-ok_or.ensures.ok_part ∙ ap Some c.in-Lower.is) c.part.ensures in
    let size = g.N.Cost.CostKind.kind.size in
    record {
      answers = c.recost.ensures.answers ∙ (recost_stop_lower g.N.Network.meaning g.N.Cost.CostKind.kind.zero t at.0 c.args.a at.1 size c.args.c);
      leaves = recosted_lower g.N.Network.meaning g.N.Cost.CostKind.kind.zero t at.0 c.args.a at.1 size _ c.args.c c.recost.ensures.leaves;
      same_references = c.recost.ensures.same_references;
    }

pub returns-in-Own : goal.returns-in-Own
returns-in-Own g c =
    let t = c.args.self.now in
    let at = lies g.N.Network.meaning g.N.Cost.CostKind.kind.zero t c.args.a (c.in_ok-ok_or.ensures.ok_part ∙ ap Some c.in-Own.is) c.part.ensures in
    let r = recost_entry g.N.Network.meaning g.N.Cost.CostKind.kind.zero t at.0 c.args.a _ at.1.0 at.1.1 g.N.Cost.CostKind.kind.size c.args.c in
    record { answers = r.0; leaves = r.1; same_references = refl }

pub returns-in-Back : goal.returns-in-Back
returns-in-Back g c =
    let t = c.args.self.now in
    let at = lies g.N.Network.meaning g.N.Cost.CostKind.kind.zero t c.args.a (c.in_ok-ok_or.ensures.ok_part ∙ ap Some c.in-Back.is) c.part.ensures in
    let r = recost_large g.N.Network.meaning g.N.Cost.CostKind.kind.zero t at.0 c.args.a at.1 g.N.Cost.CostKind.kind.size c.args.c (omega (arith, c.size.ensures)) in
    record { answers = r.0; leaves = r.1; same_references = refl }

pub returns-in-Back-2 : goal.returns-in-Back-2
returns-in-Back-2 g c =
    let t = c.args.self.now in
    let at = lies g.N.Network.meaning g.N.Cost.CostKind.kind.zero t c.args.a (c.in_ok-ok_or.ensures.ok_part ∙ ap Some c.in-Back-2.is) c.part.ensures in
    let r = recost_return g.N.Network.meaning g.N.Cost.CostKind.kind.zero t at.0 c.args.a at.1 g.N.Cost.CostKind.kind.size c.args.c (omega (arith, c.size.ensures)) in
    record { answers = r.0; leaves = r.1; same_references = refl }
