-- A network file: its first line, and the lines of its arcs.
use Rattle.std.specs.Prelude.{ℕ, zero, suc, cond, List, [], ◌∷◌, ◌++◌, length, drop, Ok, Err, codes, Result, ◌==◌, nat_le}
use Rattle.networks.specs.Limits.{most_nodes, most_arcs}
use Rattle.networks.specs.declared.stops.Stop.TheVariants.{Lengths}
use Rattle.makes.specs.declared.table.Row.{Row}
use Rattle.files.specs.declared.faults.FileFault.{FileFault}
use Rattle.files.specs.declared.faults.FileFault.TheVariants.{Line, After, Long}
use Rattle.files.specs.declared.faults.ReadStop.{ReadStop}
use Rattle.files.specs.declared.faults.ReadStop.TheVariants.{Fault, Stop}
use Rattle.files.specs.declared.header.Header.{Header}
use Rattle.files.specs.Kinds.{Tiers}
use Rattle.files.specs.Arcs.{arc_in}
use Rattle.lines.specs.Readings.{Reading, Outcome, start_of, then}
use Rattle.lines.specs.Lines.{expects, starts, finishes, count_in}

-- the most bytes of a file that a program takes
abbrev pub most_bytes : ℕ
most_bytes = 65536

-- the counts of a first line
pub record Counts : Type 0 where
  pub nodes : ℕ
  pub arcs : ℕ
  pub tiers : ℕ

abbrev pub counts : Header → Counts
counts h = record { nodes = h.nodes; arcs = h.arcs; tiers = h.tiers }

abbrev pub shown_header : {E : Type 0} → Result Header E → Result Counts E
shown_header (Ok h) = Ok (counts h)
shown_header (Err e) = Err e

-- the counts of the first line, with tiers from the least to the most
abbrev pub header_in : ℕ → ℕ → Reading → Outcome Counts
header_in least most r = then (starts (codes "net") r) (λ _ s. then (count_in (codes "nodes") 1 most_nodes s) (λ nodes u.
    then (expects (codes " ") u) (λ _ v. then (count_in (codes "arcs") 0 most_arcs v) (λ arcs w.
    then (expects (codes " ") w) (λ _ x. then (count_in (codes "tiers") least most x) (λ tiers y.
    then (finishes y) (λ _ z. Ok (record { nodes = nodes; arcs = arcs; tiers = tiers }, z))))))))

-- a line fault is a fault of the file
abbrev pub in_file : {A : Type 0} → Outcome A → Result A FileFault
in_file (Ok m) = Ok m.0
in_file (Err e) = Err (Line e.0)

-- the counts of a file, with tiers 1 or 2; too many bytes are told first
abbrev pub counts_of : List ℕ → Result Counts FileFault
counts_of xs = cond (nat_le (length xs) most_bytes) (in_file (header_in 1 2 (start_of xs))) (Err Long)

-- the rows of so many lines
abbrev pub rows_in : {C : Type 0} → Tiers C → ℕ → ℕ → Reading → Outcome (List (Row C))
rows_in t nodes zero r = Ok ([], r)
rows_in t nodes (suc k) r = then (arc_in t nodes r) (λ x s. then (rows_in t nodes k s) (λ xs u. Ok (x ∷ xs, u)))

-- whether there is an answer
abbrev pub granted : {A E : Type 0} → Result A E → Result (Unit {0}) E
granted (Ok x) = Ok tt
granted (Err e) = Err e

-- the lines looked at, and no row read
abbrev pub passed : {A : Type 0} → Outcome A → Outcome (Unit {0})
passed m = then m (λ _ r. Ok (tt, r))

abbrev pub shown_rows : {A B E : Type 0} → A → Result B E → Result A E
shown_rows rows (Ok x) = Ok rows
shown_rows rows (Err e) = Err e

-- no byte stands after the last line
abbrev pub kept : {A : Type 0} → Outcome A → Result A FileFault
kept (Ok m) = cond (length m.1.rest == 0) (Ok m.0) (Err (After m.1.spot.line))
kept (Err e) = Err (Line e.0)

-- the rows of all lines after the first
abbrev pub body_in : {C : Type 0} → Tiers C → Counts → Reading → Result (List (Row C)) FileFault
body_in t h r = kept (rows_in t h.nodes h.arcs r)

abbrev pub in_read : {A : Type 0} → Result A FileFault → Result A ReadStop
in_read (Ok x) = Ok x
in_read (Err e) = Err (Fault e)

abbrev pub with_counts : {C : Type 0} → Counts → Result (List (Row C)) ReadStop → Result (Counts × List (Row C)) ReadStop
with_counts h (Ok rows) = Ok (h, rows)
with_counts h (Err e) = Err e

-- the counts and the rows of a file, with room for so many rows
abbrev pub roomed : {C : Type 0} → Tiers C → ℕ → Outcome Counts → Result (Counts × List (Row C)) ReadStop
roomed t room (Ok m) = cond (nat_le m.0.arcs room) (with_counts m.0 (in_read (body_in t m.0 m.1))) (Err (Stop Lengths))
roomed t room (Err e) = Err (Fault (Line e.0))

abbrev pub table_in : {C : Type 0} → Tiers C → ℕ → List ℕ → Result (Counts × List (Row C)) ReadStop
table_in t room xs = roomed t room (header_in t.count t.count (start_of xs))

abbrev pub header_of : {C : Type 0} → Result (Counts × List (Row C)) ReadStop → Result Counts ReadStop
header_of (Ok x) = Ok x.0
header_of (Err e) = Err e

-- the lent rows after the call: the rows that were read, and those past them as they were; or all as they were
abbrev pub rows_after : {C : Type 0} → List (Row C) → Result (Counts × List (Row C)) ReadStop → List (Row C)
rows_after old (Ok x) = x.1 ++ drop (length x.1) old
rows_after old (Err e) = old
