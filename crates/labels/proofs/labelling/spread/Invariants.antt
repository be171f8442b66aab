use Rattle.std.proofs.Common.{◌≡◌, ℕ, ◌<◌, drop}
use Rattle.networks.specs.Nets.{shown}
use Rattle.labels.specs.Good.{Good, Grown, Followed}
use Rattle.labels.proofs.labelling.spread.Given as goal

abbrev pub invariant-loop-i : goal.invariant-loop-i
invariant-loop-i g l =
    let arcs = shown (g.N.Network.meaning l.aim.view.net.now) in
    let left = l.i-iterator.iter in
    (drop left.given (shown (g.N.Network.meaning left.net.now)) ≡ drop l.i-iterator.count arcs) ×
    Good g.N.Cost.CostKind.kind arcs l.aim.view.flow.now l.aim.view.prices.now l.aim.chosen.arc l.labels × Grown l.initial.labels l.labels ×
    ((i : ℕ) → i < l.i-iterator.count → (i ≡ l.aim.chosen.arc → ⊥) → Followed g.N.Cost.CostKind.kind arcs l.aim.view.flow.now l.aim.view.prices.now l.labels l.at i)
