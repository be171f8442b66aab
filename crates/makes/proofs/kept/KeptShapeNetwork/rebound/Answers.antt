use Rattle.std.proofs.Common.{length, Err, refl, ap, ◌∙◌}
use Rattle.std.specs.Option.{unwrap_or}
use Rattle.std.proofs.lemmas.Result.{err_from_is_err_and}
use Rattle.networks.specs.Answers.{refusal}
use Rattle.makes.specs.Bases.{place_of, shown_rows}
use Rattle.makes.proofs.Counted.{found}
use Rattle.makes.proofs.KeptRows.{rebound_absent, rebound_granted, kept_rebound}
use Rattle.makes.proofs.kept.KeptShapeNetwork.rebound.Goals as goal

pub returns-in_err-i : goal.returns-in_err-i
returns-in_err-i g c =
    let p = err_from_is_err_and c.from_residual.result c.from_residual.ensures.1 in
    let r = rebound_absent g.R.ArcRow.arc_of c.args.self.now c.args.a _ c.in_err-i.ensures c.args.b.lo c.args.b.hi in
    record { answers = ap refusal (p.1 ∙ ap Err p.2) ∙ r.0; leaves = r.1; same_references = refl }

pub returns : goal.returns
returns g c =
    let t = c.args.self.now in
    let f = g.R.ArcRow.arc_of in
    let at = found (place_of (length (shown_rows t)) c.args.a) c.args.a c.in_ok-i.i c.in_ok-i.ensures in
    let free = g.met.R.ArcRow.free t.shape c.args.a in
    let old = c.index-self-i.result in
    record {
      answers = rebound_granted (f t.shape) (unwrap_or t.nodes 0) (shown_rows t) c.args.a c.in_ok-i.i at free old;
      leaves = kept_rebound f t c.args.a c.in_ok-i.i at free c.args.b.lo c.args.b.hi old c.rebound.result (c.rebound.ensures t.shape c.args.a);
      same_references = refl;
    }
