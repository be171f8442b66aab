use Rattle.std.proofs.Common.{Ok, arith}
use Rattle.std.proofs.lemmas.Result.{err_from_is_err_and}
use Rattle.files.proofs.Rows.{row_passed, row_fault}
use Rattle.files.proofs.tables.check_rows.Goals as goal

pub returns-in_err-read_arc : goal.returns-in_err-read_arc
returns-in_err-read_arc g c =
    let p = err_from_is_err_and c.from_residual.result c.from_residual.ensures.1 in
    rw (p.1, p.2) (row_fault g.C.FileCost.numbers _ c.args.header.arcs c.loop.counter (λ ys r. Ok (tt, r)) _ _ _ _ (omega arith) c.in_err-read_arc.ensures c.loop.invariant)

pub loop-preserved : goal.loop-preserved
loop-preserved g c =
    row_passed g.C.FileCost.numbers _ c.args.header.arcs c.loop.counter _ _ _ _ (omega arith) c.in_ok-read_arc.ensures c.loop.invariant
