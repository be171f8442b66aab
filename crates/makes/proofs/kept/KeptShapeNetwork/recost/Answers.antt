use Rattle.std.proofs.Common.{◌≤◌, length, Err, refl, ap, ◌∙◌, arith}
use Rattle.std.specs.Option.{unwrap_or}
use Rattle.std.proofs.lemmas.Result.{err_from_is_err_and}
use Rattle.networks.specs.Limits.{cost_limit}
use Rattle.networks.specs.Answers.{refusal}
use Rattle.makes.specs.Bases.{place_of, shown_rows}
use Rattle.makes.proofs.Counted.{found}
use Rattle.makes.proofs.KeptRows.{recost_absent, recost_large, recost_granted, kept_recost}
use Rattle.makes.proofs.kept.KeptShapeNetwork.recost.Goals as goal

pub returns-in_err-i : goal.returns-in_err-i
returns-in_err-i g c =
    let p = err_from_is_err_and c.from_residual.result c.from_residual.ensures.1 in
    let r = recost_absent g.R.ArcRow.arc_of c.args.self.now c.args.a _ c.in_err-i.ensures g.R.Cost.CostKind.kind.size c.args.c in
    record { answers = ap refusal (p.1 ∙ ap Err p.2) ∙ r.0; leaves = r.1; same_references = refl }

pub returns-then-size-gt-COST_LIMIT-clause-answers : goal.returns-then-size-gt-COST_LIMIT-clause-answers
returns-then-size-gt-COST_LIMIT-clause-answers g c =
    let t = c.args.self.now in
    let at = found (place_of (length (shown_rows t)) c.args.a) c.args.a c.in_ok-i.i c.in_ok-i.ensures in
    recost_large (g.R.ArcRow.arc_of t.shape) (unwrap_or t.nodes 0) (shown_rows t) c.args.a c.in_ok-i.i at (g.met.R.ArcRow.loose t.shape c.args.a) g.R.Cost.CostKind.kind.size c.args.c (omega (arith, c.size.ensures))

pub returns : goal.returns
returns g c =
    let t = c.args.self.now in
    let f = g.R.ArcRow.arc_of in
    let at = found (place_of (length (shown_rows t)) c.args.a) c.args.a c.in_ok-i.i c.in_ok-i.ensures in
    let loose = g.met.R.ArcRow.loose t.shape c.args.a in
    let size = g.R.Cost.CostKind.kind.size in
    let small : size c.args.c ≤ cost_limit = omega (arith, c.size.ensures) in
    let old = c.index-self-i.result in
    record {
      answers = recost_granted (f t.shape) (unwrap_or t.nodes 0) (shown_rows t) c.args.a c.in_ok-i.i at loose size c.args.c small old;
      leaves = kept_recost f t c.args.a c.in_ok-i.i at loose size c.args.c small old c.recost.result (c.recost.ensures t.shape c.args.a);
      same_references = refl;
    }
