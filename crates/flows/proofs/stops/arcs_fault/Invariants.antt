use Rattle.std.proofs.Common.{◌≡◌, ◌+◌, drop}
use Rattle.networks.specs.Nets.{shown}
use Rattle.flows.specs.Stops.{arcs_stop}
use Rattle.flows.proofs.stops.arcs_fault.Given as goal

abbrev pub invariant-loop-i : goal.invariant-loop-i
invariant-loop-i g l =
    let n = g.N.Network.meaning l.net in
    let size = g.N.Cost.CostKind.kind.size in
    let left = l.i-iterator.iter in
    arcs_stop size n.nodes (l.i-iterator.count + 1) (drop left.a.given (shown (g.N.Network.meaning left.a.net.now))) left.b.rest.now ≡ arcs_stop size n.nodes 1 (shown n) l.flow
