use Rattle.std.proofs.Common.{Some, refl, ap, ◌∙◌}
use Rattle.layers.proofs.Closed.{lies, rebound_stop_lower, rebounded_lower, rebound_entry, rebound_return}
use Rattle.layers.proofs.closing.ClosingCostNetwork.rebound.Goals as goal

pub returns-in-Lower : goal.returns-in-Lower
returns-in-Lower g c =
    let t = c.args.self.now in
    let at = lies g.N.Network.meaning g.N.Cost.CostKind.kind.zero t c.args.a (c.in_ok-ok_or.ensures.ok_part ∙ ap Some c.in-Lower.is) c.part.ensures in
    record {
      answers = c.rebound.ensures.answers ∙ (rebound_stop_lower g.N.Network.meaning g.N.Cost.CostKind.kind.zero t at.0 c.args.a at.1);
      leaves = rebounded_lower g.N.Network.meaning g.N.Cost.CostKind.kind.zero t at.0 c.args.a at.1 _ c.args.b.lo c.args.b.hi c.rebound.ensures.leaves;
      same_references = c.rebound.ensures.same_references;
    }

pub returns-in-Own : goal.returns-in-Own
returns-in-Own g c =
    let t = c.args.self.now in
    let at = lies g.N.Network.meaning g.N.Cost.CostKind.kind.zero t c.args.a (c.in_ok-ok_or.ensures.ok_part ∙ ap Some c.in-Own.is) c.part.ensures in
    let r = rebound_entry g.N.Network.meaning g.N.Cost.CostKind.kind.zero t at.0 c.args.a c.in-Own.i at.1.0 at.1.1 _ c.deref_mut.result.now c.deref_mut.ensures.value c.args.b in
    record { answers = r.0; leaves = r.1; same_references = refl }

pub returns-in-Back : goal.returns-in-Back
returns-in-Back g c =
    let t = c.args.self.now in
    let at = lies g.N.Network.meaning g.N.Cost.CostKind.kind.zero t c.args.a (c.in_ok-ok_or.ensures.ok_part ∙ ap Some c.in-Back.is) c.part.ensures in
    let r = rebound_return g.N.Network.meaning g.N.Cost.CostKind.kind.zero t at.0 c.args.a at.1 c.args.b in
    record { answers = r.0; leaves = r.1; same_references = refl }
