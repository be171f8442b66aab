-- The text of a check: of a file in order its own text again, of any other the line of its refusal.
use Rattle.std.specs.Prelude.{ℕ, if◌then◌else◌, List, Ok, Err, Result, ◌==◌}
use Rattle.makes.specs.declared.table.Row.{Row}
use Rattle.files.specs.declared.faults.FileFault.{FileFault}
use Rattle.files.specs.declared.faults.ReadStop.{ReadStop}
use Rattle.files.specs.declared.faults.ReadStop.TheVariants.{Fault}
use Rattle.files.specs.Faults.{refusal_line}
use Rattle.files.specs.Kinds.{plain_tiers, two_tiers}
use Rattle.files.specs.Tables.{Counts, table_in}

-- by what was read of its table
abbrev pub checked : {C : Type 0} → List ℕ → Result (Counts × List (Row C)) ReadStop → List ℕ
checked file (Ok x) = file
checked file (Err s) = refusal_line s

-- by what was read of its first line
abbrev pub check_text : List ℕ → Result Counts FileFault → List ℕ
check_text file (Ok h) =
    if h.tiers == 2 then checked file (table_in two_tiers h.arcs file) else checked file (table_in plain_tiers h.arcs file)
check_text file (Err f) = refusal_line (Fault f)
