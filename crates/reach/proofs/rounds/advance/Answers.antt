use Rattle.std.proofs.Common.{length, subst}
use Rattle.networks.specs.Nets.{shown}
use Rattle.labels.specs.Good.{node_at}
use Rattle.labels.proofs.Trails.{sought_there}
use Rattle.reach.specs.Scans.{Scanned}
use Rattle.reach.proofs.Turning.{open_room, open_done}
use Rattle.reach.proofs.rounds.advance.Goals as goal

pub link-requires-clause-room : goal.link-requires-clause-room
link-requires-clause-room g c =
    let ripe = subst (Scanned g.N.Cost.CostKind.kind (shown (g.N.Network.meaning c.args.net.now)) c.args.flow.now c.args.prices.now c.args.chosen.arc c.args.labels.now _) c.in-Break.is c.look_round.ensures in
    open_room c.requires.searching c.requires.few ripe c.arc.ensures.is

pub returns-in-Break : goal.returns-in-Break
returns-in-Break g c =
    let ripe = subst (Scanned g.N.Cost.CostKind.kind (shown (g.N.Network.meaning c.args.net.now)) c.args.flow.now c.args.prices.now c.args.chosen.arc c.args.labels.now _) c.in-Break.is c.look_round.ensures in
    open_done c.requires.searching c.requires.few ripe c.arc.ensures.is c.link.new.labels c.link.ensures

pub invariant_of-aim-2-clause-sought : goal.invariant_of-aim-2-clause-sought
invariant_of-aim-2-clause-sought g c =
    sought_there g.N.Cost.CostKind.kind (length c.args.prices.now) (shown (g.N.Network.meaning c.args.net.now)) c.args.flow.now c.args.prices.now c.args.chosen (node_at c.args.labels.now 0) c.requires.searching.fitting c.requires.searching.wanted
