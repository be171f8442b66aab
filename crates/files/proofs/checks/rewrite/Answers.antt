-- What is written back, and that nothing stops it.
use Rattle.std.proofs.Common.{◌≡◌, ℕ, List, ◌++◌, length, drop_of_length-le, Some, None, Ok, Err, Result, Option, refl, ap, ap₂, ◌∙◌, append-nil, arith}
use Rattle.std.proofs.lemmas.Result.{err_from_is_err_and}
use Rattle.networks.specs.declared.stops.Stop.{Stop}
use Rattle.networks.specs.Answers.{Told, answer, said, unless}
use Rattle.networks.specs.Nets.{Net}
use Rattle.makes.specs.declared.table.Row.{Row}
use Rattle.makes.specs.Tables.{rows_net}
use Rattle.files.specs.declared.header.Header.{Header}
use Rattle.files.specs.declared.faults.ReadStop.{ReadStop}
use Rattle.files.specs.Kinds.{Tiers}
use Rattle.files.specs.Tables.{Counts, counts, shown_rows, table_in, header_of}
use Rattle.files.specs.Sheets.{written}
use Rattle.files.specs.Texts.{net_text}
use Rattle.files.specs.Stopping.{write_stop}
use Rattle.files.specs.Spelling.{Spells}
use Rattle.files.proofs.Laws.{text_again}
use Rattle.files.proofs.checks.rewrite.Goals as goal

whole : (text old : List ℕ) → length old ≡ length text → written text old ≡ text
whole text old l = ap (λ z. text ++ z) (drop_of_length-le old (omega arith)) ∙ append-nil text

was_read : {C : Type 0} (h : Header) (text : List ℕ) (o : Result (Counts × List (Row C)) ReadStop) → Ok (counts h) ≡ header_of o → Ok text ≡ shown_rows text o
was_read h text (Ok y) e = refl
was_read h text (Err x) e = absurd cc

not_read : {C : Type 0} (s : ReadStop) (text : List ℕ) (o : Result (Counts × List (Row C)) ReadStop) → Err s ≡ header_of o → Err s ≡ shown_rows text o
not_read s text (Ok y) e = absurd cc
not_read s text (Err x) e = cc

granted : (s : Stop) (k : ℕ) (o : Option Told) → o ≡ None → said (Err s) ≡ answer o k → ⊥
granted s k None p e = cc
granted s k (Some x) p e = cc

pub returns-in_err-nodes : goal.returns-in_err-nodes
returns-in_err-nodes g c =
    let p = err_from_is_err_and c.from_residual.result c.from_residual.ensures.1 in
    ap (shown_rows c.args.out.now) (p.1 ∙ ap Err p.2) ∙ not_read _ c.args.text.now (table_in g.C.FileCost.numbers (length c.args.rows.now) c.args.text.now) c.in_err-nodes.ensures.is

-- nothing stops the table of the rows that were read, and its text is the file
wrote : {C : Type 0} (size : C → ℕ) (t : Tiers C) (h : Header) (rows : List (Row C)) (text old : List ℕ) (n : Net C) → n ≡ rows_net h.nodes h.arcs rows → Spells size t (counts h) rows text → length old ≡ length text
    → (write_stop size t n (length old) ≡ None) × (unless (write_stop size t n (length old)) old (written (net_text t n) old) ≡ text)
wrote size t h rows text old n e s l =
    let both = text_again size t (counts h) rows text n (length old) s e l in
    (both.1, ap₂ (λ o z. unless o old (written z old)) both.1 both.0 ∙ whole text old l)

pub returns-in_err-write_table : goal.returns-in_err-write_table
returns-in_err-write_table g c =
    let w = wrote g.C.CostKind.kind.size g.C.FileCost.numbers c.in_ok-nodes.field-0 _ c.args.text.now c.args.out.now _ c.new-table.ensures.shows c.in_ok-nodes.ensures.spelled c.requires in
    absurd (granted _ _ _ w.0 c.in_err-write_table.ensures.answers)

pub returns : goal.returns
returns g c =
    let w = wrote g.C.CostKind.kind.size g.C.FileCost.numbers c.in_ok-nodes.field-0 _ c.args.text.now c.args.out.now _ c.new-table.ensures.shows c.in_ok-nodes.ensures.spelled c.requires in
    ap Ok (c.write_table.ensures.leaves ∙ w.1) ∙ was_read c.in_ok-nodes.field-0 c.args.text.now (table_in g.C.FileCost.numbers (length c.args.rows.now) c.args.text.now) c.in_ok-nodes.ensures.is
