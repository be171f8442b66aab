use Rattle.std.proofs.Common.{◌≡◌, ◌≤◌, length}
use Rattle.networks.specs.Nets.{shown}
use Rattle.flows.specs.Flows.{EachArc}
use Rattle.flows.specs.Kilter.{InKilter}
use Rattle.flows.specs.searching.Prices.{SignsKept}
use Rattle.search.specs.Going.{Going}
use Rattle.search.proofs.seek.seek.Given as goal

abbrev pub invariant-loop-i : goal.invariant-loop-i
invariant-loop-i g l =
    let K = g.N.Cost.CostKind.kind in
    let n = g.N.Network.meaning l.net in
    Going K n.nodes (shown n) l.initial.flow l.i l.laps l.flow l.prices × (l.laps ≤ l.budget) × (l.marks ≡ l.initial.marks) × (length l.flow ≡ length l.initial.flow) ×
    (EachArc (InKilter K l.initial.prices) (shown n) l.initial.flow → (l.laps ≡ 0) × (l.flow ≡ l.initial.flow) × SignsKept K (shown n) l.initial.prices l.prices)
