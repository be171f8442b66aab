use Rattle.std.proofs.Common.{sym, ◌∙◌, arith}
use Rattle.networks.proofs.Shown.{arc_is, length_shown}
use Rattle.flows.proofs.Turns.{arc_there}
use Rattle.flows.proofs.views.View.arc.Goals as goal

pub unwrap-requires : goal.unwrap-requires
unwrap-requires g c =
    let n = g.N.Network.meaning c.args.self.now.net.now in
    arc_there n c.args.i c.arc.result (omega (arith, length_shown n, c.requires, c.args.self.now.long)) c.arc.ensures

pub returns : goal.returns
returns g c =
    let is = arc_is (g.N.Network.meaning c.args.self.now.net.now) c.args.i c.unwrap.result (sym c.unwrap.ensures ∙ c.arc.ensures) in
    record { is = is; fit = c.args.self.now.fitting c.args.i c.unwrap.result is }
