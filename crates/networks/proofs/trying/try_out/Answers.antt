use Rattle.std.proofs.Common.{◌≡◌, Ok, ap, ◌∙◌}
use Rattle.networks.specs.Answers.{refusal}
use Rattle.networks.proofs.Back.{as_before, handed}
use Rattle.networks.proofs.trying.try_out.Given as given
use Rattle.networks.proofs.trying.try_out.Goals as goal
use Rattle.networks.proofs.trying.try_out.Goals.{After-hand_back}

-- the tag that was just given is never refused
granted : (g : given.Over) (c : After-hand_back g) → c.hand_back.result ≡ Ok tt
granted g c =
    let h = c.in_ok-tag.ensures in
    handed (g.N.Network.meaning c.args.net.now) (g.N.Network.meaning c.take_out.new.self) c.args.layer c.args.a c.in_ok-tag.tag h.answers h.leaves c.hand_back.result c.hand_back.ensures.answers

pub map_err-requires : goal.map_err-requires
map_err-requires g c e is _ = let ok = granted g (goal.at.map_err-requires g c).After-hand_back in cc

pub returns : goal.returns
returns g c =
    let h = c.in_ok-tag.ensures in
    let r = as_before (g.N.Network.meaning c.args.net.now) (g.N.Network.meaning c.take_out.new.self) c.args.layer c.args.a c.in_ok-tag.tag h.answers h.leaves (g.N.Network.meaning c.hand_back.new.self) c.hand_back.ensures.leaves in
    record { answers = ap refusal (rw (granted g (goal.at.returns g c).After-hand_back) at c.map_err.ensures.cases) ∙ r.0; same = r.1; same_references = c.hand_back.ensures.same_references ∙ h.same_references }
