use Rattle.networks.specs.Nets.{shown}
use Rattle.std.proofs.Common.{is_some, ◌∷◌, length, arith, sym, ap, ◌∙◌, subst, w32, SFits, to_z, of_z, rules}
use Rattle.std.specs.List.{AllByRecursion}
use Rattle.std.proofs.lemmas.Int.{to_z-of_z}
use Rattle.flows.specs.Laps.{sent}
use Rattle.labels.specs.Ways.{Moving, FitsIn, LeastRoom, Steady}
use Rattle.labels.proofs.Trails.{sought_there, labelled_within, sought_place, all_moving, steady, gone}
use Rattle.std.proofs.lemmas.Bool.{lt-ltb}
use Rattle.labels.specs.Good.{place_of}
use Rattle.labels.proofs.More.{is_placed}
use Rattle.labels.proofs.laps.lap.Goals as goal

pub place-requires : goal.place-requires
place-requires g c =
    let arcs = shown (g.N.Network.meaning c.args.net.now) in
    let there = sought_there g.N.Cost.CostKind.kind _ arcs c.args.flow.now c.args.prices.now c.args.chosen _ c.requires.searching.fitting c.requires.searching.wanted in
    (there.0, labelled_within _ c.args.labels.now c.args.chosen.node c.requires.searching.good.whole c.requires.reached)

pub trace-steps-requires : goal.trace-steps-requires
trace-steps-requires g c =
    let good = c.requires.searching.good in
    let arcs = shown (g.N.Network.meaning c.args.net.now) in
    let there = sought_place g.N.Cost.CostKind.kind arcs c.args.flow.now c.args.prices.now c.args.chosen c.args.labels.now c.unwrap.result c.requires.searching.fitting good c.requires.searching.wanted (sym c.place.ensures ∙ c.unwrap.ensures) in
    record { back = λ k l m. (good.linked k l m).earlier; few = good.whole.few; place = there.0 }

pub least_room-amount-requires-clause-some : goal.least_room-amount-requires-clause-some
least_room-amount-requires-clause-some g c = omega (arith, ap length (c.as_slice.ensures.value ∙ c.trace-steps.ensures.1))

pub least_room-amount-requires-clause-moving : goal.least_room-amount-requires-clause-moving
least_room-amount-requires-clause-moving g c =
    let K = g.N.Cost.CostKind.kind in
    let arcs = shown (g.N.Network.meaning c.args.net.now) in
    let ls = c.args.labels.now in
    let k = c.unwrap.result in
    let there = sought_place K arcs c.args.flow.now c.args.prices.now c.args.chosen ls k c.requires.searching.fitting c.requires.searching.good c.requires.searching.wanted (sym c.place.ensures ∙ c.unwrap.ensures) in
    let t = c.trace-steps.ensures in
    subst (AllByRecursion (Moving K arcs c.args.flow.now c.args.prices.now)) (sym (c.as_slice.ensures.value ∙ t.1))
    (all_moving K g.met.N.Cost.CostKind.lawful arcs c.args.flow.now c.args.prices.now c.requires.searching.fitting c.args.chosen ls c.requires.searching.good k there.0 there.1 t.0 t.2 c.requires.searching.long c.requires.small c.requires.searching.wanted)

pub send-requires : goal.send-requires
send-requires g c =
    let K = g.N.Cost.CostKind.kind in
    let arcs = shown (g.N.Network.meaning c.args.net.now) in
    let s = c.args.chosen in
    let ls = c.args.labels.now in
    let k = c.unwrap.result in
    let there = sought_place K arcs c.args.flow.now c.args.prices.now c.args.chosen ls k c.requires.searching.fitting c.requires.searching.good c.requires.searching.wanted (sym c.place.ensures ∙ c.unwrap.ensures) in
    let t = c.trace-steps.ensures in
    let x = c.least_room-amount.result in
    let f : SFits w32 c.least_room-amount.result = search rules in
    subst (λ z. Steady (to_z w32 (of_z w32 x)) z c.args.flow.now) (sym (c.as_slice-2.ensures.value ∙ t.1)) (subst (λ z. Steady z (s ∷ t.0) c.args.flow.now) (sym (to_z-of_z w32 x f))
    (steady K g.met.N.Cost.CostKind.lawful arcs c.args.flow.now c.args.prices.now c.requires.searching.fitting s ls c.requires.searching.good k there.0 there.1 t.0 t.2 c.requires.searching.long c.requires.small c.requires.searching.wanted
    x c.least_room-amount.ensures.low (subst (AllByRecursion (FitsIn K arcs c.args.flow.now c.args.prices.now x)) (c.as_slice.ensures.value ∙ t.1) c.least_room-amount.ensures.least.fits)).0)

pub returns : goal.returns
returns g c =
    let K = g.N.Cost.CostKind.kind in
    let arcs = shown (g.N.Network.meaning c.args.net.now) in
    let s = c.args.chosen in
    let ls = c.args.labels.now in
    let k = c.unwrap.result in
    let there = sought_place K arcs c.args.flow.now c.args.prices.now c.args.chosen ls k c.requires.searching.fitting c.requires.searching.good c.requires.searching.wanted (sym c.place.ensures ∙ c.unwrap.ensures) in
    let t = c.trace-steps.ensures in
    let x = c.least_room-amount.result in
    let f : SFits w32 c.least_room-amount.result = search rules in
    gone K g.met.N.Cost.CostKind.lawful arcs c.args.flow.now c.args.prices.now c.requires.searching.fitting s ls c.requires.searching.good k there.0 there.1 t.0 t.2 c.requires.searching.long c.requires.small c.requires.searching.wanted
    x c.send.new.flow c.least_room-amount.ensures.low (subst (λ z. LeastRoom K arcs c.args.flow.now c.args.prices.now z x) (c.as_slice.ensures.value ∙ t.1) c.least_room-amount.ensures.least)
    (c.send.ensures ∙ ap (λ z. sent z c.as_slice-2.result.now c.args.flow.now) (to_z-of_z w32 x f) ∙ ap (λ z. sent x z c.args.flow.now) (c.as_slice-2.ensures.value ∙ t.1))

pub unwrap-requires : goal.unwrap-requires
unwrap-requires g c =
    let ls = c.args.labels.now in
    let n = c.args.chosen.node in
    ap is_some c.place.ensures ∙ is_placed ls n ∙ lt-ltb 0 (place_of ls n) c.requires.reached
