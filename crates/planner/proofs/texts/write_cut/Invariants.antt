use Rattle.std.proofs.Common.{◌≡◌, ◌+◌, ◌*◌, ◌≤◌, ◌++◌, length, drop}
use Rattle.std.specs.String.{string_bytes, string_len, string_capacity}
use Rattle.planner.specs.Texts.{cut_lines}
use Rattle.planner.proofs.texts.write_cut.Given as goal

abbrev pub invariant-loop-i : goal.invariant-loop-i
invariant-loop-i l = record {
  written : string_bytes l.out ++ cut_lines (l.i + 1) (drop l.i l.marks) ≡ string_bytes l.initial.out ++ cut_lines 1 l.marks;
  room : string_len l.out + 40 * length l.marks ≤ string_capacity l.out + 40 * l.i;
}
