use Rattle.std.proofs.Common.{cond, ltb, length, Some, None, sym, ap, ◌∙◌, rules, tests}
use Rattle.std.proofs.lemmas.Iterator.{YieldsList-from_slice}
use Rattle.std.proofs.lemmas.Iterator.Search.{position_from_yields_List}
use Rattle.networks.specs.Rings.{holds}
use Rattle.networks.proofs.Keeping.{is_first}
use Rattle.networks.proofs.ring.tag_place.Goals as goal

pub returns : goal.returns
returns c =
    let xs = c.args.places.now in
    position_from_yields_List (holds c.args.a) _ _ _ c.position.ensures.ran (YieldsList-from_slice xs (cc)) (λ y b q k. search (rules, tests))
    ∙ ap (λ n. cond (ltb n (length xs)) (Some n) None) (sym (is_first (holds c.args.a) xs))
