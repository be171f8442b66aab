use Rattle.std.proofs.Common.{◌≡◌, ℕ, ◌+◌, ◌<◌, length, get_or, pos}
use Rattle.networks.specs.Nets.{shown}
use Rattle.flows.specs.Flows.{imbalance}
use Rattle.flows.proofs.balances.imbalances.Given as goal

abbrev pub invariant-loop-i : goal.invariant-loop-i
invariant-loop-i g l =
    let arcs = shown (g.N.Network.meaning l.net) in
    (length l.needs ≡ length l.initial.needs) × ((k : ℕ) → k < l.i → get_or l.needs k (pos 0) ≡ imbalance arcs l.flow (k + 1))
