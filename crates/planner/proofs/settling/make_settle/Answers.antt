use Rattle.std.proofs.Common.{Ok, ap, ◌∙◌, arith}
use Rattle.networks.specs.declared.ring.TagRing.{TagRing}
use Rattle.networks.specs.Rings.{free_of_tags}
use Rattle.runs.specs.declared.calls.Outcome.TheVariants.{Done}
use Rattle.runs.specs.States.{state}
use Rattle.planner.proofs.Made.{listed, ring_stays, first_not_done, settles_once}
use Rattle.planner.proofs.settling.make_settle.Goals as goal

pub answer_of-requires : goal.answer_of-requires
answer_of-requires g c =
    let found = state (g.N.Network.meaning c.args.net.now) c.args.flow.now c.args.needs.now c.args.prices.now c.args.marks.now in
    let left = state (g.N.Network.meaning c.run.new.net) c.run.new.flow c.run.new.needs c.run.new.prices c.run.new.marks in
    let made = listed g.N.Cost.CostKind.kind c.args.arcs found left c.new-tags.result.places c.run.new.tags.places Done c.run.new.outcomes c.args.calls.now c.args.outcomes.now (Ok c.in_ok-run.field-0) c.requires.one c.requires.room c.in_ok-run.ensures.runs in
    first_not_done g.N.Cost.CostKind.kind c.args.arcs found left c.new-tags.result.places c.run.new.tags.places Done c.run.new.outcomes c.in_ok-run.field-0 made c.index-outcomes-0.result c.index-outcomes-0.is

pub drop-tags-requires-2 : goal.drop-tags-requires-2
drop-tags-requires-2 g c =
    let found = state (g.N.Network.meaning c.args.net.now) c.args.flow.now c.args.needs.now c.args.prices.now c.args.marks.now in
    let left = state (g.N.Network.meaning c.run.new.net) c.run.new.flow c.run.new.needs c.run.new.prices c.run.new.marks in
    let made = listed g.N.Cost.CostKind.kind c.args.arcs found left c.new-tags.result.places c.run.new.tags.places Done c.run.new.outcomes c.args.calls.now c.args.outcomes.now (Ok c.in_ok-run.field-0) c.requires.one c.requires.room c.in_ok-run.ensures.runs in
    (omega arith, ap free_of_tags (ring_stays g.N.Cost.CostKind.kind c.args.arcs found left c.new-tags.result.places c.run.new.tags.places Done c.run.new.outcomes (Ok c.in_ok-run.field-0) made ∙ ap (λ (t : TagRing 0). t.places) c.new-tags.ensures))

pub returns : goal.returns
returns g c =
    let found = state (g.N.Network.meaning c.args.net.now) c.args.flow.now c.args.needs.now c.args.prices.now c.args.marks.now in
    let left = state (g.N.Network.meaning c.run.new.net) c.run.new.flow c.run.new.needs c.run.new.prices c.run.new.marks in
    let made = listed g.N.Cost.CostKind.kind c.args.arcs found left c.new-tags.result.places c.run.new.tags.places Done c.run.new.outcomes c.args.calls.now c.args.outcomes.now (Ok c.in_ok-run.field-0) c.requires.one c.requires.room c.in_ok-run.ensures.runs in
    settles_once g.N.Cost.CostKind.kind c.args.arcs found left c.new-tags.result.places c.run.new.tags.places Done c.run.new.outcomes c.in_ok-run.field-0 made c.index-outcomes-0.result c.index-outcomes-0.is c.answer_of.result c.answer_of.ensures
