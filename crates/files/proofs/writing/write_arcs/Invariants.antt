-- The lines that are left make the text whole.
use Rattle.std.proofs.Common.{◌≡◌, ◌≤◌, length, drop, map}
use Rattle.std.specs.List.{flat_map}
use Rattle.networks.specs.Limits.{most_counted}
use Rattle.networks.specs.Nets.{shown}
use Rattle.makes.specs.Tables.{table_net}
use Rattle.files.specs.Texts.{arc_text, row_of, net_rows}
use Rattle.files.specs.Sheets.{inked}
use Rattle.files.specs.Pens.{sheet}
use Rattle.files.proofs.writing.write_arcs.Given as goal

abbrev pub invariant-loop-arc : goal.invariant-loop-arc
invariant-loop-arc g l =
    let t = g.C.FileCost.numbers in
    let left = l.arc-iterator in
    (length l.pen.out.now ≤ most_counted) × (l.pen.out.ghost_name ≡ l.fn.pen.out.ghost_name)
    × (inked (flat_map (arc_text t) (map row_of (drop left.given (shown (table_net left.net.now))))) (sheet l.pen)
    ≡ inked (flat_map (arc_text t) (net_rows (table_net l.table))) (sheet l.fn.pen))
