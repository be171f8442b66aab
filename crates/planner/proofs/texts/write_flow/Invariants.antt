use Rattle.std.proofs.Common.{◌≡◌, ◌+◌, ◌*◌, ◌≤◌, ◌++◌, length, drop}
use Rattle.std.specs.String.{string_bytes, string_len, string_capacity}
use Rattle.planner.specs.Texts.{flow_lines}
use Rattle.planner.proofs.texts.write_flow.Given as goal

abbrev pub invariant-loop-i : goal.invariant-loop-i
invariant-loop-i l = record {
  written : string_bytes l.out ++ flow_lines (l.i + 1) (drop l.i l.flow) ≡ string_bytes l.initial.out ++ flow_lines 1 l.flow;
  room : string_len l.out + 40 * length l.flow ≤ string_capacity l.out + 40 * l.i;
}
