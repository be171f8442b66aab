use Rattle.std.proofs.Common.{◌≡◌, length, Some, Err, sym, ap, ◌∙◌, subst}
use Rattle.std.specs.Option.{ok_or}
use Rattle.std.specs.Result.{result_ok}
use Rattle.std.proofs.lemmas.Result.{err_from_is_err_and}
use Rattle.networks.specs.Nets.{shown}
use Rattle.reach.specs.declared.rounds.Over.TheVariants.{Cut}
use Rattle.reach.specs.Rounds.{Advanced}
use Rattle.reach.proofs.Turning.{cut_done, kilter_small, kilter_done, label_small, label_short, label_node, label_near, label_room, label_done}
use Rattle.labels.specs.Good.{node_at}
use Rattle.labels.proofs.Trails.{sought_there}
use Rattle.reach.proofs.rounds.change.Goals as goal

pub returns-in_err-by : goal.returns-in_err-by
returns-in_err-by g c =
    let K = g.N.Cost.CostKind.kind in
    let arcs = shown (g.N.Network.meaning c.args.net.now) in
    let none = c.ok_or.ensures.ok_part ∙ ap result_ok c.in_err-by.was in
    let p = err_from_is_err_and c.from_residual.result c.from_residual.ensures.1 in
    let cut : Err c.in_err-by.field-0.0 ≡ Err Cut = sym c.in_err-by.was ∙ c.ok_or.ensures.value ∙ ap (λ o. ok_or o Cut) none in
    let is : c.in_err-by.field-0.0 ≡ Cut = let k = cut in cc in
    subst (Advanced K arcs c.args.flow.now c.args.prices.now c.args.prices.now c.args.chosen c.args.labels.now c.args.labels.now) (sym (p.1 ∙ ap Err (p.2 ∙ is)))
    (cut_done g.met.N.Cost.CostKind.lawful c.requires.searching c.requires.moderate c.requires.sought c.requires.sighted c.next_rise.ensures none)

pub raise-requires-clause-small : goal.raise-requires-clause-small
raise-requires-clause-small g c =
    let is = c.ok_or.ensures.ok_part ∙ ap result_ok c.in_ok-by.was ∙ ap Some c.in-Kilter.is in
    kilter_small g.met.N.Cost.CostKind.lawful c.requires.searching c.requires.moderate c.requires.sought c.requires.sighted c.next_rise.ensures is

pub arc-arc-requires : goal.arc-arc-requires
arc-arc-requires g c =
    let is = c.ok_or.ensures.ok_part ∙ ap result_ok c.in_ok-by.was ∙ ap Some c.in-Label.is in
    label_short g.met.N.Cost.CostKind.lawful c.requires.searching c.requires.moderate c.requires.sought c.requires.sighted c.next_rise.ensures is

pub raise-requires-in-Label-clause-small : goal.raise-requires-in-Label-clause-small
raise-requires-in-Label-clause-small g c =
    let is = c.ok_or.ensures.ok_part ∙ ap result_ok c.in_ok-by.was ∙ ap Some c.in-Label.is in
    label_small g.met.N.Cost.CostKind.lawful c.requires.searching c.requires.moderate c.requires.sought c.requires.sighted c.next_rise.ensures is

pub link-requires-clause-near : goal.link-requires-clause-near
link-requires-clause-near g c =
    let is = c.ok_or.ensures.ok_part ∙ ap result_ok c.in_ok-by.was ∙ ap Some c.in-Label.is in
    label_near g.met.N.Cost.CostKind.lawful c.requires.searching c.requires.moderate c.requires.sought c.requires.sighted c.next_rise.ensures is _ c.raise-in-Label.ensures.long c.raise-in-Label.ensures.raised c.requires.few c.arc-arc.ensures.is

pub link-requires-clause-node : goal.link-requires-clause-node
link-requires-clause-node g c =
    let is = c.ok_or.ensures.ok_part ∙ ap result_ok c.in_ok-by.was ∙ ap Some c.in-Label.is in
    label_node g.met.N.Cost.CostKind.lawful c.requires.searching c.requires.moderate c.requires.sought c.requires.sighted c.next_rise.ensures is _ c.raise-in-Label.ensures.long c.raise-in-Label.ensures.raised c.requires.few c.arc-arc.ensures.is

pub link-requires-clause-room : goal.link-requires-clause-room
link-requires-clause-room g c =
    let is = c.ok_or.ensures.ok_part ∙ ap result_ok c.in_ok-by.was ∙ ap Some c.in-Label.is in
    label_room g.met.N.Cost.CostKind.lawful c.requires.searching c.requires.moderate c.requires.sought c.requires.sighted c.next_rise.ensures is _ c.raise-in-Label.ensures.long c.raise-in-Label.ensures.raised c.requires.few c.arc-arc.ensures.is

pub returns-in-Kilter : goal.returns-in-Kilter
returns-in-Kilter g c =
    let is = c.ok_or.ensures.ok_part ∙ ap result_ok c.in_ok-by.was ∙ ap Some c.in-Kilter.is in
    kilter_done g.met.N.Cost.CostKind.lawful c.requires.searching c.requires.moderate c.requires.sought c.requires.sighted c.next_rise.ensures is c.raise.ensures.long c.raise.ensures.raised

pub returns-in-Label : goal.returns-in-Label
returns-in-Label g c =
    let is = c.ok_or.ensures.ok_part ∙ ap result_ok c.in_ok-by.was ∙ ap Some c.in-Label.is in
    label_done g.met.N.Cost.CostKind.lawful c.requires.searching c.requires.moderate c.requires.sought c.requires.sighted c.next_rise.ensures is _ c.raise-in-Label.ensures.long c.raise-in-Label.ensures.raised c.requires.few c.arc-arc.ensures.is c.link.new.labels c.link.ensures

pub invariant_of-aim-2-clause-sought : goal.invariant_of-aim-2-clause-sought
invariant_of-aim-2-clause-sought g c =
    sought_there g.N.Cost.CostKind.kind (length c.args.prices.now) (shown (g.N.Network.meaning c.args.net.now)) c.args.flow.now c.args.prices.now c.args.chosen (node_at c.args.labels.now 0) c.requires.searching.fitting c.requires.searching.wanted
