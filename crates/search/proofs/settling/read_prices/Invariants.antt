use Rattle.std.proofs.Common.{◌≡◌, ℕ, ◌<◌, ◌≤◌, length, get_or}
use Rattle.flows.specs.Settles.{read_price_as}
use Rattle.search.proofs.settling.read_prices.Given as goal

abbrev pub invariant-loop-p : goal.invariant-loop-p
invariant-loop-p g l =
    let K = g.C.CostKind.kind in
    (length l.prices ≡ length l.initial.prices) ×
    ((k : ℕ) → k < l.p-index → get_or l.prices k K.zero ≡ read_price_as K l.limit (get_or l.initial.prices k K.zero)) ×
    ((k : ℕ) → l.p-index ≤ k → get_or l.prices k K.zero ≡ get_or l.initial.prices k K.zero)
