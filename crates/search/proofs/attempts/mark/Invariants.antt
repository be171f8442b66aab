use Rattle.std.proofs.Common.{◌≡◌, ℕ, ◌+◌, ◌<◌, cond, length, get_or}
use Rattle.reach.specs.Scans.{is_labelled}
use Rattle.search.proofs.attempts.mark.Given as goal

abbrev pub invariant-loop-i : goal.invariant-loop-i
invariant-loop-i l = (length l.marks ≡ length l.initial.marks) × ((k : ℕ) → k < l.i → get_or l.marks k 0 ≡ cond (is_labelled l.labels (k + 1)) 1 0)
