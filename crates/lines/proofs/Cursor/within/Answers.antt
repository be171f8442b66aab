-- A number in its range, or outside it.
use Rattle.std.proofs.Common.{rules, tests}
use Rattle.lines.proofs.Cursor.within.Goals as goal

pub returns-then-not-contains-clause-is : goal.returns-then-not-contains-clause-is
returns-then-not-contains-clause-is c = rw (← c.in_ok-number.ensures) (search (rules, tests))

pub returns-clause-is : goal.returns-clause-is
returns-clause-is c = rw (← c.in_ok-number.ensures) (search (rules, tests))
