use Rattle.std.proofs.Common.{◌≡◌, ◌+◌, ◌*◌, ◌^◌, ◌≤◌, drop}
use Rattle.tokens.specs.Tokens.{decimal}
use Rattle.tokens.proofs.scan.magnitude.Given as goal

abbrev pub invariant-loop-b : goal.invariant-loop-b
invariant-loop-b l = (l.v + 23 ≤ 23 * 10 ^ l.b-index) × (decimal l.v (drop l.b-index l.digits) ≡ decimal 0 l.digits)
