use Rattle.std.proofs.Common.{refl, ap, ◌∙◌, rules}
use Rattle.networks.specs.Nets.{relocked, take_out_stop, hand_back_stop, relined}
use Rattle.networks.specs.Rings.{has_room, keeps}
use Rattle.runs.specs.Events.{asked, came}
use Rattle.plans.proofs.Stepping.{ring_take_out_keeps, ring_hand_back_keeps}
use Rattle.plans.proofs.Making.{done_is, plain_makes, ring_makes}
use Rattle.plans.proofs.listing.make.Goals as goal

pub returns-in-Rebound-clause-makes : goal.returns-in-Rebound-clause-makes
returns-in-Rebound-clause-makes g c = plain_makes (ap (asked c.args.offers.now) c.in-Rebound.is) _ (ap came c.into-in-Rebound.ensures ∙ done_is c.rebound.result) refl (c.rebound.ensures.keeps _)

pub returns-in-Recost-clause-makes : goal.returns-in-Recost-clause-makes
returns-in-Recost-clause-makes g c = plain_makes (ap (asked c.args.offers.now) c.in-Recost.is) _ (ap came c.into-in-Recost.ensures ∙ done_is c.recost.result) refl (c.recost.ensures.keeps _)

pub returns-in-TakeOut-clause-makes : goal.returns-in-TakeOut-clause-makes
returns-in-TakeOut-clause-makes g c =
    let n = g.N.Network.meaning c.args.net.now in
    let l = c.in-TakeOut.layer in
    let a = c.in-TakeOut.arc in
    ring_makes (relocked n l (relined 0 a)) c.args.tags.now.places (take_out_stop n l a) refl (ap (asked c.args.offers.now) c.in-TakeOut.is) (has_room c.args.tags.now.places) c.take_out.result c.map.result (search (rules, done_is)) c.take_out.ensures.answers c.take_out.ensures.network c.take_out.ensures.ring (λ s e. (s, e))
    (λ x so left. ring_take_out_keeps _ g.met.N.Cost.CostKind.lawful _ _ _ _ x so left _)

pub returns-in-HandBack-clause-makes : goal.returns-in-HandBack-clause-makes
returns-in-HandBack-clause-makes g c =
    let n = g.N.Network.meaning c.args.net.now in
    let l = c.in-HandBack.layer in
    let a = c.in-HandBack.arc in
    ring_makes (relocked n l (relined a 0)) c.args.tags.now.places (hand_back_stop n l a) refl (ap (asked c.args.offers.now) c.in-HandBack.is) (keeps c.args.tags.now.places a) c.hand_back.result c.map-in-HandBack.result (search (rules, done_is)) c.hand_back.ensures.answers c.hand_back.ensures.network c.hand_back.ensures.ring (λ s e. (s, e))
    (λ x so left. ring_hand_back_keeps _ g.met.N.Cost.CostKind.lawful _ _ _ _ x so left _)
