-- The same bytes, or the line of a refusal.
use Rattle.std.proofs.Common.{◌≡◌, ℕ, List, length, Ok, Err, Result, sym, ap, ◌∙◌, take_at, rules}
use Rattle.std.proofs.lemmas.Result.{IfOk-weaker}
use Rattle.makes.specs.declared.table.Row.{Row}
use Rattle.files.specs.declared.faults.ReadStop.{ReadStop}
use Rattle.files.specs.Faults.{refusal_line}
use Rattle.files.specs.Tables.{Counts, shown_rows, table_in}
use Rattle.files.specs.Checks.{checked}
use Rattle.files.proofs.checks.check_table.Goals as goal

in_order : {C : Type 0} (new text : List ℕ) (o : Result (Counts × List (Row C)) ReadStop) → Ok new ≡ shown_rows text o → new ≡ checked text o
in_order new text (Ok y) e = cc
in_order new text (Err x) e = absurd cc

refused : {C : Type 0} (s : ReadStop) (text : List ℕ) (o : Result (Counts × List (Row C)) ReadStop) → Err s ≡ shown_rows text o → refusal_line s ≡ checked text o
refused s text (Ok y) e = absurd cc
refused s text (Err x) e = let i : s ≡ x = cc in ap refusal_line i

pub returns-in-Ok : goal.returns-in-Ok
returns-in-Ok g c =
    let t = g.C.FileCost.numbers in
    let text = c.args.text.now in
    let new = c.rewrite.new.out in
    let rows : length c.deref_mut.result.now ≡ c.args.arcs = search rules in
    let long : length new ≡ c.in_ok-out.out.len = search rules in
    take_at new _ c.in_ok-out.out.len long
    ∙ in_order new text (table_in t c.args.arcs text) (ap (shown_rows new) (sym c.in-Ok.is) ∙ c.rewrite.ensures ∙ ap (λ n. shown_rows text (table_in t n text)) rows)

pub returns : goal.returns
returns g c =
    let t = g.C.FileCost.numbers in
    let text = c.args.text.now in
    let rows : length c.deref_mut.result.now ≡ c.args.arcs = search rules in
    let line = refused c.in-Err.stop text (table_in t c.args.arcs text) (ap (shown_rows c.rewrite.new.out) (sym c.in-Err.is) ∙ c.rewrite.ensures ∙ ap (λ n. shown_rows text (table_in t n text)) rows) in
    IfOk-weaker c.refusal.result _ _ (λ out e. e ∙ line) c.refusal.ensures
