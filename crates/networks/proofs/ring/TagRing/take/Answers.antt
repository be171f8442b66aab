use Rattle.std.proofs.Common.{◌≡◌, true, get_or, Some, None, rules}
use Rattle.networks.specs.Rings.{holds, keeps, tag_of}
use Rattle.networks.proofs.Keeping.{found, held_there}
use Rattle.networks.proofs.ring.TagRing.take.Goals as goal

pub returns-clause-answers : goal.returns-clause-answers
returns-clause-answers g c =
    let xs = c.args.self.now.places in
    let a = c.args.a in
    let there : get_or xs c.in_ok-at.at None ≡ Some (tag_of a) = held_there a xs c.in_ok-at.at None c.in_ok-at.ensures in
    let kept : keeps xs a ≡ true = (found (holds a) xs c.in_ok-at.at c.in_ok-at.ensures).0 in
    let given : c.take.result ≡ Some (tag_of a) = search (rules, there) in
    rw kept given
