use Rattle.networks.specs.Nets.{hand_back_stop}
use Rattle.networks.proofs.Keeping.{as_it_was}
use Rattle.networks.proofs.ring.TagRing.hand_back.Goals as goal

pub returns-in-Err-clause-ring : goal.returns-in-Err-clause-ring
returns-in-Err-clause-ring g c =
    as_it_was (hand_back_stop (g.N.Network.meaning c.args.net.now) c.args.layer) c.args.self.now.places c.take.new.self.places c.args.a c.in-Some.at c.in_ok-tag.tag c.in-Err.tag _
    c.in-Some.ensures c.in_ok-tag.ensures.answers c.take.ensures.leaves c.in-Err.ensures.answers
