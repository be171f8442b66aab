use Rattle.std.proofs.Common.{◌≡◌, ◌-◌, ◌≤◌, List, length, ℤ}
use Rattle.networks.specs.Nets.{shown}
use Rattle.search.specs.Ready.{Ready}
use Rattle.search.specs.Going.{KilterAt, Going}
use Rattle.search.proofs.seek.bring_in.Given as goal

abbrev pub invariant-loop-laps : goal.invariant-loop-laps
invariant-loop-laps g l =
    let K = g.N.Cost.CostKind.kind in
    let n = g.N.Network.meaning l.net in
    Ready K n.nodes (shown n) l.flow l.prices × (l.laps ≤ l.budget) × (l.marks ≡ l.initial.marks) × (length l.flow ≡ length l.initial.flow) ×
    ((found : List ℤ) → Going K n.nodes (shown n) found l.i l.initial.laps l.initial.flow l.initial.prices → Going K n.nodes (shown n) found l.i l.laps l.flow l.prices) ×
    (KilterAt K (shown n) l.initial.flow l.initial.prices l.i → (l.laps ≡ l.initial.laps) × (l.flow ≡ l.initial.flow) × (l.prices ≡ l.initial.prices))

abbrev pub decreases-loop-laps : goal.decreases-loop-laps
decreases-loop-laps g l = l.budget - l.laps
