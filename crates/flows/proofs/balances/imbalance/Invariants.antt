use Rattle.std.proofs.Common.{◌≡◌, ◌+◌, ◌*◌, ◌≤◌, length, drop, ◌+ℤ◌, nat_abs}
use Rattle.networks.specs.Nets.{shown}
use Rattle.flows.specs.Flows.{imbalance}
use Rattle.flows.proofs.balances.imbalance.Given as goal

abbrev pub invariant-loop-arc : goal.invariant-loop-arc
invariant-loop-arc g l =
    let arcs = drop l.arc-iterator.a.given (shown (g.N.Network.meaning l.arc-iterator.a.net.now)) in
    let flow = l.arc-iterator.b.rest.now in
    (nat_abs l.sum + 4294967296 * length flow ≤ 4398046511104) × (l.sum +ℤ imbalance arcs flow l.node ≡ imbalance (shown (g.N.Network.meaning l.net)) l.flow l.node)
