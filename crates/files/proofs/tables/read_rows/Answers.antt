use Rattle.std.proofs.Common.{◌++◌, length, take, Ok, arith}
use Rattle.std.proofs.lemmas.List.{take_more_set}
use Rattle.std.proofs.lemmas.Result.{err_from_is_err_and}
use Rattle.files.proofs.Rows.{row_put, row_fault}
use Rattle.files.proofs.tables.read_rows.Goals as goal

pub returns-in_err-row : goal.returns-in_err-row
returns-in_err-row g c =
    let p = err_from_is_err_and c.from_residual.result c.from_residual.ensures.1 in
    let i = c.loop-row.row-index in
    rw (p.1, p.2) (row_fault g.C.FileCost.numbers _ (length c.args.rows.now) i (λ ys r. Ok (take i c.loop-row.rows ++ ys, r)) _ _ _ _ (omega arith) c.in_err-row.ensures c.loop-row.invariant)

pub loop-row-preserved : goal.loop-row-preserved
loop-row-preserved g c =
    let i = c.loop-row.row-index in
    let x = c.in_ok-row.field-0 in
    rw (take_more_set c.loop-row.rows i x (omega arith))
    (row_put g.C.FileCost.numbers _ (length c.args.rows.now) i _ x _ _ _ (omega arith) c.in_ok-row.ensures c.loop-row.invariant)
