use Rattle.std.proofs.Common.{◌≡◌, ◌-◌}
use Rattle.files.specs.Tables.{rows_in, passed}
use Rattle.files.proofs.tables.check_rows.Given as goal

abbrev pub invariant-loop : goal.invariant-loop
invariant-loop g l = passed (rows_in g.C.FileCost.numbers l.header.nodes (l.header.arcs - l.counter) l.cursor) ≡ passed (rows_in g.C.FileCost.numbers l.header.nodes l.header.arcs l.fn.cursor)
