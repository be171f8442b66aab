-- The text for a network file: a refusal, or the answer of one settle of the network that stands in it.
use Rattle.std.specs.Prelude.{◌≡◌, ℕ, ◌+◌, List, replicate, take, ℤ, pos, Ok, Err, Result}
use Rattle.costs.specs.Kinds.{Kind}
use Rattle.costs.specs.Models.{plain_kind, two_tier_kind}
use Rattle.networks.specs.declared.stops.Stop.{Stop}
use Rattle.makes.specs.declared.table.Row.{Row}
use Rattle.makes.specs.Tables.{rows_net}
use Rattle.search.specs.declared.settling.Answer.{Answer}
use Rattle.runs.specs.States.{State, state}
use Rattle.files.specs.declared.faults.FileFault.{FileFault}
use Rattle.files.specs.declared.faults.ReadStop.{ReadStop}
use Rattle.files.specs.declared.faults.ReadStop.TheVariants as read
use Rattle.files.specs.Kinds.{Tiers, plain_tiers, two_tiers}
use Rattle.files.specs.Tables.{Counts, counts_of, table_in, rows_after, most_bytes}
use Rattle.planner.specs.Once.{SettlesOnce}
use Rattle.planner.specs.Texts.{refusal_line, cost_text, answer_text}

-- a stop of the plan is told as one of reading
abbrev pub as_read : {C : Type 0} → Result (Answer C) Stop → Result (Answer C) ReadStop
as_read (Ok a) = Ok a
as_read (Err s) = Err (read.Stop s)

-- the plan of a file's rows before it is opened: no arc carries anything, and needs, prices and marks are zero
abbrev pub begun : {C : Type 0} → Kind C → Counts → List (Row C) → State C
begun K h rows = state (rows_net h.nodes h.arcs rows) (replicate h.arcs (pos 0)) (replicate h.nodes (pos 0)) (replicate h.nodes K.zero) (replicate h.nodes 0)

-- a plan settled once, with a budget of 2,000,000 laps for each arc; the answer, and the flow and the marks left
pub record Settled {C : Type 0} (K : Kind C) (arcs : ℕ) (found : State C) (r : Result (Answer C) ReadStop) (flow : List ℤ) (marks : List ℕ) : Type 0 where
  pub answer : Result (Answer C) Stop
  pub left : State C
  pub settles : SettlesOnce K arcs found answer left
  pub told : r ≡ as_read answer
  pub flow_is : flow ≡ left.tables.flow
  pub marks_are : marks ≡ left.tables.marks

-- what came of a table in the lent rows: why it could not be read, or its plan settled once
abbrev pub SettledFile : {C : Type 0} → Kind C → (List (Row C) → ℕ → ℕ → State C) → List (Row C) → Result (Counts × List (Row C)) ReadStop → Result (Answer C) ReadStop → List ℤ → List ℕ → Type 0
SettledFile K found lent (Err s) r flow marks = r ≡ Err s
SettledFile K found lent (Ok x) r flow marks = Settled K x.0.arcs (found (rows_after lent (Ok x)) x.0.nodes x.0.arcs) r flow marks

-- the text is the answer of one settle of these rows, from no flow and at zero prices
pub record Tells {C : Type 0} (K : Kind C) (t : Tiers C) (h : Counts) (rows : List (Row C)) (text : List ℕ) : Type 0 where
  pub answer : Result (Answer C) Stop
  pub left : State C
  pub settles : SettlesOnce K h.arcs (begun K h rows) answer left
  pub says : text ≡ answer_text (cost_text t) (as_read answer) left.tables.flow left.tables.marks

-- the text by what was read of the table: why it could not be read, or the answer
abbrev pub TableText : {C : Type 0} → Kind C → Tiers C → Result (Counts × List (Row C)) ReadStop → List ℕ → Type 0
TableText K t (Err s) text = text ≡ refusal_line s
TableText K t (Ok x) text = Tells K t x.0 x.1 text

-- the text by the first line: why it is not in order, or that of a table with costs of one number or of two
abbrev pub TextBy : List ℕ → Result Counts FileFault → List ℕ → Type 0
TextBy file (Err fault) text = text ≡ refusal_line (read.Fault fault)
TextBy file (Ok h) text =
    (h.tiers ≡ 1 → TableText plain_kind plain_tiers (table_in plain_tiers h.arcs file) text)
    × (h.tiers ≡ 2 → TableText two_tier_kind two_tiers (table_in two_tiers h.arcs file) text)

-- the text for a file
abbrev pub FileText : List ℕ → List ℕ → Type 0
FileText file text = TextBy file (counts_of file) text

-- what is read of so many bytes: all of them, or one more than a file may have
abbrev pub part_read : List ℕ → List ℕ
part_read bytes = take (most_bytes + 1) bytes
