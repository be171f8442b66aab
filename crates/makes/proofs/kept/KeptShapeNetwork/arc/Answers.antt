use Rattle.std.proofs.Common.{Some, ap, ◌∙◌}
use Rattle.makes.specs.Bases.{place_of}
use Rattle.makes.proofs.KeptRows.{arc_absent, kept_arc}
use Rattle.makes.proofs.kept.KeptShapeNetwork.arc.Goals as goal

pub returns-in_err-i : goal.returns-in_err-i
returns-in_err-i g c =
    let t = c.args.self.now in
    c.from_residual.ensures ∙ arc_absent g.R.ArcRow.arc_of t c.args.a (c.in_err-i.ensures ∙ ap (λ m. place_of m c.args.a) c.shown.ensures)

pub returns : goal.returns
returns g c =
    let t = c.args.self.now in
    ap Some c.as_arc.ensures ∙ kept_arc g.R.ArcRow.arc_of t c.args.a c.in_ok-i.i (c.in_ok-i.ensures ∙ ap (λ m. place_of m c.args.a) c.shown.ensures) c.index-self-i.result
