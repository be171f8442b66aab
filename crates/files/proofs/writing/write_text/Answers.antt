-- The first line and those of the arcs.
use Rattle.std.proofs.Common.{◌≡◌, ℕ, ◌++◌, min, length, ap, ap₂, ◌∙◌, arith, rules}
use Rattle.std.specs.List.{flat_map}
use Rattle.networks.specs.Limits.{most_counted}
use Rattle.makes.specs.Tables.{table_net}
use Rattle.files.specs.Tables.{Counts}
use Rattle.files.specs.Texts.{header_text, arc_text, net_rows, net_text}
use Rattle.files.specs.Sheets.{over}
use Rattle.files.proofs.Overlaid.{inked_both}
use Rattle.files.proofs.writing.write_text.Goals as goal

same_counts : (a b d x y z : ℕ) → a ≡ x → b ≡ y → d ≡ z → (let h : Counts = record { nodes = a; arcs = b; tiers = d } in h) ≡ record { nodes = x; arcs = y; tiers = z }
same_counts a b d x y z e f g = ap₂ (λ n m. record { nodes = n; arcs = m; tiers = d }) e f ∙ ap (λ k. record { nodes = x; arcs = y; tiers = k }) g

pub returns-clause-answers : goal.returns-clause-answers
returns-clause-answers g c =
    let t = g.C.FileCost.numbers in
    let n = table_net c.args.table.now in
    let e = inked_both _ _ c.args.out.now _ _ _ (omega arith) c.new-pen.ensures.is c.write_header.ensures.is c.write_arcs.ensures.is in
    c.count.ensures ∙ e.0 ∙ ap (λ h. min (length (header_text h ++ flat_map (arc_text t) (net_rows n))) most_counted) (same_counts _ _ _ _ _ _ c.nodes.ensures c.arcs.ensures c.tiers.ensures)

pub returns-clause-leaves : goal.returns-clause-leaves
returns-clause-leaves g c =
    let t = g.C.FileCost.numbers in
    let n = table_net c.args.table.now in
    let out = c.args.out.now in
    let e = inked_both _ _ out _ _ _ (omega arith) c.new-pen.ensures.is c.write_header.ensures.is c.write_arcs.ensures.is in
    let whole : c.write_arcs.new.pen.out.now ≡ over out 0 (net_text t n) = e.1 ∙ ap (λ h. over out 0 (header_text h ++ flat_map (arc_text t) (net_rows n))) (same_counts _ _ _ _ _ _ c.nodes.ensures c.arcs.ensures c.tiers.ensures) in
    let name = c.write_arcs.ensures.same_reference ∙ c.write_header.ensures.same_reference ∙ c.new-pen.ensures.same_reference in
    search (rules, whole, name)
