use Rattle.std.proofs.Common.{◌≡◌, suc, ◌+◌, cond, eqb, ltb, length, Some, None, sym, refl, ap, ◌∙◌, arith, rules, tests}
use Rattle.std.proofs.lemmas.Iterator.{YieldsList-from_slice}
use Rattle.std.proofs.lemmas.Iterator.Search.{position_from_yields_List}
use Rattle.std.proofs.lemmas.List.Recursion.{is_position_or_len}
use Rattle.networks.specs.Nets.{place}
use Rattle.networks.proofs.lockout.line_of.Goals as goal

pub returns : goal.returns
returns c =
    let x = c.args.x in
    let xs = c.args.lines.now in
    position_from_yields_List (λ y. eqb y x) _ _ _ c.position.ensures.ran (YieldsList-from_slice xs (cc)) (λ y b q k. search (rules, tests))
    ∙ ap (λ n. cond (ltb n (length xs)) (Some n) None) (sym (is_position_or_len (place x) (λ y. eqb y x) refl (λ y ys. let e : suc (place x ys) ≡ 1 + place x ys = omega arith in ap (cond (eqb y x) 0) e) xs))
