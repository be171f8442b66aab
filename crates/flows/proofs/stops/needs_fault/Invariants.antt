use Rattle.std.proofs.Common.{◌≡◌, ◌+◌, drop}
use Rattle.networks.specs.Nets.{shown}
use Rattle.flows.specs.Stops.{needs_stop}
use Rattle.flows.proofs.stops.needs_fault.Given as goal

abbrev pub invariant-loop-i : goal.invariant-loop-i
invariant-loop-i g l =
    let arcs = shown (g.N.Network.meaning l.net) in
    needs_stop arcs l.flow (l.i + 1) (drop l.i l.needs) ≡ needs_stop arcs l.flow 1 l.needs
