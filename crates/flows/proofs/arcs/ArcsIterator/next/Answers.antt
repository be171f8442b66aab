use Rattle.std.proofs.Common.{rules, arith}
use Rattle.std.proofs.lemmas.List.{drop_all}
use Rattle.networks.specs.Nets.{shown}
use Rattle.networks.proofs.Shown.{length_shown}
use Rattle.flows.proofs.Turns.{next_first}
use Rattle.flows.proofs.arcs.ArcsIterator.next.Goals as goal

pub returns-then-self-clause-steps : goal.returns-then-self-clause-steps
returns-then-self-clause-steps g c =
    let s = c.args.self.now in
    let n = g.N.Network.meaning s.net.now in
    let none = drop_all s.given (shown n) (omega (arith, length_shown n, s.counted)) in (none, none)

pub returns-clause-steps : goal.returns-clause-steps
returns-clause-steps g c =
    let s = c.args.self.now in
    next_first (g.N.Network.meaning s.net.now) s.given c.arc.result (omega (arith, s.counted)) c.arc.ensures

pub returns-clause-goes : goal.returns-clause-goes
returns-clause-goes g c =
    let s = c.args.self.now in
    let h = next_first (g.N.Network.meaning s.net.now) s.given c.arc.result (omega (arith, s.counted)) c.arc.ensures in
    search rules
