use Rattle.std.proofs.Common.{sym, ap, ◌∙◌, length}
use Rattle.files.specs.Tables.{counts, shown_header, table_in}
use Rattle.planner.proofs.Filed.{not_read, read_settled}
use Rattle.planner.proofs.settling.settle_file.Goals as goal

pub returns-in-Ok : goal.returns-in-Ok
returns-in-Ok g c =
    let K = g.C.CostKind.kind in
    let t = g.C.FileCost.numbers in
    read_settled K c.args.flow.now c.args.needs.now c.args.prices.now c.args.marks.now c.args.rows.now (table_in t (length c.args.rows.now) c.args.text.now) (counts c.in-Ok.header) c.read_table.new.rows _ c.told.result c.settle_once-settled.result _ (ap shown_header (sym c.in-Ok.is) ∙ c.read_table.ensures.is) c.read_table.ensures.leaves c.new-net.ensures.shows c.settle_once-settled.ensures c.told.ensures

pub returns-in-Err : goal.returns-in-Err
returns-in-Err g c =
    let K = g.C.CostKind.kind in
    let t = g.C.FileCost.numbers in
    not_read K c.args.flow.now c.args.needs.now c.args.prices.now c.args.marks.now c.args.rows.now (table_in t (length c.args.rows.now) c.args.text.now) c.in-Err.stop (ap shown_header (sym c.in-Err.is) ∙ c.read_table.ensures.is)
