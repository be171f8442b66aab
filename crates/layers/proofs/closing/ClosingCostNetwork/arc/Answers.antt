use Rattle.std.proofs.Common.{Some, ap, ◌∙◌}
use Rattle.layers.specs.Closings.{entry_arc}
use Rattle.layers.proofs.Closed.{lies, arc_lower, arc_read, arc_return}
use Rattle.layers.proofs.closing.ClosingCostNetwork.arc.Goals as goal

pub returns-in-Lower : goal.returns-in-Lower
returns-in-Lower g c =
    let t = c.args.self.now in
    let at = lies g.N.Network.meaning g.N.Cost.CostKind.kind.zero t c.args.a (ap Some c.in-Lower.is) c.in_ok-part.ensures in
    c.arc.ensures ∙ arc_lower g.N.Network.meaning g.N.Cost.CostKind.kind.zero t at.0 c.args.a at.1

pub returns-in-Own : goal.returns-in-Own
returns-in-Own g c =
    let t = c.args.self.now in
    let at = lies g.N.Network.meaning g.N.Cost.CostKind.kind.zero t c.args.a (ap Some c.in-Own.is) c.in_ok-part.ensures in
    ap Some (c.as_arc.ensures ∙ ap (entry_arc c.nodes.result c.zero.result) c.index-deref-i.is) ∙ arc_read g.N.Network.meaning g.N.Cost.CostKind.kind.zero t at.0 c.args.a c.in-Own.i at.1.0 at.1.1 c.index-deref-i.result c.nodes.result c.zero.result c.deref.result.now c.nodes.ensures c.zero.ensures c.deref.ensures.0

pub returns-in-Back : goal.returns-in-Back
returns-in-Back g c =
    let t = c.args.self.now in
    let at = lies g.N.Network.meaning g.N.Cost.CostKind.kind.zero t c.args.a (ap Some c.in-Back.is) c.in_ok-part.ensures in
    ap Some c.return_arc.ensures ∙ arc_return g.N.Network.meaning g.N.Cost.CostKind.kind.zero t at.0 c.args.a at.1
