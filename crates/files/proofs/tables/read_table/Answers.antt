-- The laws, for the rows that the call leaves.
use Rattle.std.proofs.Common.{◌≡◌, ℕ, ◌≤◌, List, ◌++◌, length, take, drop, None, Ok, Err, Result, sym, refl, ap, ◌∙◌, subst, take_at}
use Rattle.std.specs.Prelude.{IfOk}
use Rattle.flows.specs.Stops.{open_stop}
use Rattle.makes.specs.declared.table.Row.{Row}
use Rattle.makes.specs.Tables.{rows_net}
use Rattle.files.specs.declared.header.Header.{Header}
use Rattle.files.specs.declared.faults.ReadStop.{ReadStop}
use Rattle.files.specs.Kinds.{Tiers, TierLaws, Sized}
use Rattle.files.specs.Tables.{Counts, counts, shown_header, table_in, header_of, rows_after}
use Rattle.files.specs.Stopping.{no_flow}
use Rattle.files.specs.Spelling.{Spells}
use Rattle.files.proofs.Laws.{ordered, opens, was_spelled, is_read}
use Rattle.files.proofs.tables.read_table.Goals as goal

module _ {C : Type 0} (size : C → ℕ) (t : Tiers C) (laws : TierLaws t) (sized : Sized size t) (text : List ℕ) (old new : List (Row C)) (r : Result Header ReadStop)
    (is : shown_header r ≡ header_of (table_in t (length old) text)) (leaves : new ≡ rows_after old (table_in t (length old) text)) where
  -- the counts and the rows that were read
  spelled : IfOk r (λ h. Spells size t (counts h) (take h.arcs new) text)
  spelled = go r (table_in t (length old) text) refl is leaves
    where
      go : (r : Result Header ReadStop) (o : Result (Counts × List (Row C)) ReadStop) → table_in t (length old) text ≡ o → shown_header r ≡ header_of o → new ≡ rows_after old o → IfOk r (λ h. Spells size t (counts h) (take h.arcs new) text)
      go (Ok h) (Ok y) p e f =
          let i : counts h ≡ y.0 = cc in
          let s = was_spelled size t laws sized (length old) text y p in
          let l : length y.1 ≡ h.arcs = (ordered size y.0 y.1 s.orderly.unstopped).rows_are ∙ sym (ap (λ z. z.arcs) i) in
          let rows : take h.arcs new ≡ y.1 = ap (take h.arcs) f ∙ take_at y.1 (drop (length y.1) old) h.arcs l in
          subst (λ z. Spells size t z (take h.arcs new) text) (sym i) (subst (λ z. Spells size t y.0 z text) (sym rows) s)
      go (Ok h) (Err x) p e f = absurd cc
      go (Err x) o p e f = tt

  again : (h : Counts) (xs : List (Row C)) → h.arcs ≤ length old → Spells size t h xs text → (shown_header r ≡ Ok h) × (new ≡ xs ++ drop h.arcs old)
  again h xs l s =
      let o : table_in t (length old) text ≡ Ok (h, xs) = ap (table_in t (length old)) s.text_is ∙ is_read size t laws sized (length old) h xs s.orderly l in
      (is ∙ ap header_of o, leaves ∙ ap (rows_after old) o ∙ ap (λ n. xs ++ drop n old) (ordered size h xs s.orderly.unstopped).rows_are)

opened : {C : Type 0} (size : C → ℕ) (t : Tiers C) (text : List ℕ) (new : List (Row C)) (r : Result Header ReadStop) → IfOk r (λ h. Spells size t (counts h) (take h.arcs new) text)
    → IfOk r (λ h. open_stop size (rows_net h.nodes h.arcs (take h.arcs new)) (no_flow h.arcs) h.nodes h.nodes h.nodes ≡ None)
opened size t text new (Ok h) s = opens size (counts h) (take h.arcs new) s.orderly
opened size t text new (Err x) s = s

pub returns-clause-spelled : goal.returns-clause-spelled
returns-clause-spelled g c = spelled g.C.CostKind.kind.size g.C.FileCost.numbers g.met.C.FileCost.written g.met.C.FileCost.sized c.args.text.now c.args.rows.now c.read_file.new.rows c.read_file.result c.read_file.ensures.is c.read_file.ensures.leaves

pub returns-clause-again : goal.returns-clause-again
returns-clause-again g c = again g.C.CostKind.kind.size g.C.FileCost.numbers g.met.C.FileCost.written g.met.C.FileCost.sized c.args.text.now c.args.rows.now c.read_file.new.rows c.read_file.result c.read_file.ensures.is c.read_file.ensures.leaves

pub returns-clause-opens : goal.returns-clause-opens
returns-clause-opens g c = opened g.C.CostKind.kind.size g.C.FileCost.numbers c.args.text.now c.read_file.new.rows c.read_file.result
    (spelled g.C.CostKind.kind.size g.C.FileCost.numbers g.met.C.FileCost.written g.met.C.FileCost.sized c.args.text.now c.args.rows.now c.read_file.new.rows c.read_file.result c.read_file.ensures.is c.read_file.ensures.leaves)
