-- The line, the place and the cause that each fault of a file is told by.
use Rattle.std.specs.Prelude.{ℕ, List, ◌++◌, decimal, codes, Some, None, Option}
use Rattle.networks.specs.declared.stops.Stop.{Stop}
use Rattle.networks.specs.Stops.{stop_text}
use Rattle.tokens.specs.declared.spots.Cause.{Cause}
use Rattle.tokens.specs.declared.spots.Cause.TheVariants.{Byte, Number, NotDue, End, Range, Bounds}
use Rattle.files.specs.declared.faults.FileFault.{FileFault}
use Rattle.files.specs.declared.faults.FileFault.TheVariants.{Line, After, Long}
use Rattle.files.specs.declared.faults.ReadStop.{ReadStop}
use Rattle.files.specs.declared.faults.ReadStop.TheVariants as read

-- the numbers of the causes that stand in a line
abbrev pub cause_number : Cause → ℕ
cause_number Byte = 1
cause_number Number = 2
cause_number NotDue = 3
cause_number End = 4
cause_number Range = 6
cause_number (Bounds s) = 7

-- line, place and cause
abbrev pub told : FileFault → ℕ × ℕ × ℕ
told (Line f) = (f.spot.line, f.spot.place, cause_number f.cause)
told (After line) = (line, 1, 5)
told Long = (1, 1, 8)

-- as it is printed
abbrev pub fault_text : FileFault → List ℕ
fault_text e = decimal (told e).0 ++ codes " " ++ decimal (told e).1 ++ codes " " ++ decimal (told e).2

abbrev pub refusal_text : ReadStop → List ℕ
refusal_text (read.Fault e) = codes "13 " ++ fault_text e
refusal_text (read.Stop s) = stop_text s

-- the line that a program prints of a refusal
abbrev pub refusal_line : ReadStop → List ℕ
refusal_line s = codes "(refused " ++ refusal_text s ++ codes ")\n"

-- the stop that a cause carries
abbrev pub stop_of : Cause → Option Stop
stop_of Byte = None
stop_of Number = None
stop_of NotDue = None
stop_of End = None
stop_of Range = None
stop_of (Bounds s) = Some s

abbrev pub stop_in : FileFault → Option Stop
stop_in (Line f) = stop_of f.cause
stop_in (After line) = None
stop_in Long = None
