use Rattle.std.proofs.Common.{◌≡◌, ◌+◌, drop}
use Rattle.networks.specs.Nets.{shown}
use Rattle.flows.specs.Passing.{kilter_stop}
use Rattle.flows.proofs.passing.kilter_fault.Given as goal

abbrev pub invariant-loop-i : goal.invariant-loop-i
invariant-loop-i g l =
    let arcs = shown (g.N.Network.meaning l.view.net.now) in
    let K = g.N.Cost.CostKind.kind in
    kilter_stop K l.view.prices.now (l.i + 1) (drop l.i arcs) (drop l.i l.view.flow.now) ≡ kilter_stop K l.view.prices.now 1 arcs l.view.flow.now
