use Rattle.std.proofs.Common.{◌≡◌, ℕ, ◌≤◌, Bool, get_or}
use Rattle.flows.specs.searching.Prices.{Tells, Raised}
use Rattle.flows.proofs.pricing.raise.Given as goal

abbrev pub invariant-loop-i : goal.invariant-loop-i
invariant-loop-i g l =
    let K = g.C.CostKind.kind in
    let old = l.initial.prices in
    ((inside : ℕ → Bool) → Tells (goal.F-post g l.is_inside) l.i inside → Raised K l.i l.by inside old l.prices)
    × ((k : ℕ) → l.i ≤ k → get_or l.prices k K.zero ≡ get_or old k K.zero)
