use Rattle.std.proofs.Common.{◌≡◌, Bool, true, false, cond, eqb, map, length, Some, None, rules, refl, ap, ◌∙◌}
use Rattle.std.proofs.lemmas.List.{length-map}
use Rattle.std.proofs.lemmas.Bool.{eqb-true}
use Rattle.networks.specs.Answers.{Told, unless}
use Rattle.networks.specs.Nets.{rebounded}
use Rattle.makes.specs.Bases.{base_net, unfit_net}
use Rattle.makes.specs.Tables.{row_arc, rows_net}
use Rattle.makes.proofs.Held.{held, rebounded_counts}
use Rattle.layers_tests.proofs.lent.rebound_first.Goals as goal

so : (b : Bool) (s : Told) → cond b None (Some s) ≡ None → b ≡ true
so true s e = refl
so false s e = cc

pub returns : goal.returns
returns c fit =
    let xs = c.args.rows.now in
    let lo = c.args.b.lo in
    let hi = c.args.b.hi in
    let k = c.rebound.new.self in
    let net = rows_net 2 2 xs in
    let two : length xs ≡ 2 = eqb-true (length xs) 2 (so (eqb (length xs) 2) (2, 0) fit) in
    let shown : net ≡ base_net 2 (map row_arc xs) = ap (λ s. unless s unfit_net (base_net 2 (map row_arc xs))) fit in
    let counts = rebounded_counts net 1 lo hi in
    let means = c.rebound.ensures.leaves ∙ ap (λ m. rebounded m 1 lo hi) c.new-table.ensures.shows in
    let h = held 2 2 refl (rebounded net 1 lo hi) (counts.0 ∙ ap (λ m. m.nodes) shown) (counts.1 ∙ ap (λ m. length m.arcs) shown ∙ length-map xs row_arc ∙ two) k.nodes k.rows.now means in
    search (rules, h)
