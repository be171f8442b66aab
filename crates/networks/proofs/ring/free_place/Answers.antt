use Rattle.std.proofs.Common.{cond, ltb, length, Some, None, sym, ap, ◌∙◌, rules, tests}
use Rattle.std.proofs.lemmas.Iterator.{YieldsList-from_slice}
use Rattle.std.proofs.lemmas.Iterator.Search.{position_from_yields_List}
use Rattle.networks.specs.Rings.{is_free}
use Rattle.networks.proofs.Keeping.{is_first}
use Rattle.networks.proofs.ring.free_place.Goals as goal

pub returns : goal.returns
returns c =
    let xs = c.args.places.now in
    position_from_yields_List is_free _ _ _ c.position.ensures.ran (YieldsList-from_slice xs (cc)) (λ y b q k. search (rules, tests))
    ∙ ap (λ n. cond (ltb n (length xs)) (Some n) None) (sym (is_first is_free xs))
