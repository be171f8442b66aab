use Rattle.std.proofs.Common.{◌≡◌, ◌-◌, length, take}
use Rattle.files.specs.Tables.{rows_in}
use Rattle.files.proofs.Rows.{put}
use Rattle.files.proofs.tables.read_rows.Given as goal

abbrev pub invariant-loop-row : goal.invariant-loop-row
invariant-loop-row g l = put (take l.row-index l.rows) (rows_in g.C.FileCost.numbers l.header.nodes (length l.fn.rows - l.row-index) l.cursor) ≡ rows_in g.C.FileCost.numbers l.header.nodes (length l.fn.rows) l.fn.cursor
