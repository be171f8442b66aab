use Rattle.networks.specs.Nets.{shown}
use Rattle.std.proofs.Common.{◌≡◌, ◌<◌, ◌⊎◌, ◌∷◌, length, pos, rules, subst, sym, arith, w32, SFits}
use Rattle.std.proofs.lemmas.Int.{to_z-of_z}
use Rattle.std.specs.List.{Any, AllByRecursion}
use Rattle.flows.specs.searching.Fits.{Small}
use Rattle.labels.specs.Ways.{RoomIs, Moving, FitsIn}
use Rattle.flows.proofs.Turns.{held_same}
use Rattle.labels.proofs.Rooming.{left_all, least_turns, least_met}
use Rattle.labels.proofs.laps.least_room.Goals as goal

pub fold-requires-clause-callable : goal.fold-requires-clause-callable
fold-requires-clause-callable g c =
    let v = c.args.view.now in
    let P = Moving g.N.Cost.CostKind.kind (shown (g.N.Network.meaning v.net.now)) v.flow.now v.prices.now in
    record {
      at = λ xs t q x u y f s.
          let h = held_same _ xs _ _ f (λ p q x h. search rules) in
          let m : AllByRecursion P (x.now ∷ u.rest.now) = subst (AllByRecursion P) s (left_all P xs c.iter.result t y (subst (AllByRecursion P) (sym c.iter.ensures.rest) c.requires.moving)) in
          λ κs r n b w o κt l. subst (λ z. Small z.0.now.flow.now × (x.now.arc < length z.0.now.flow.now)) (sym h) (c.requires.small, omega (arith, m.0.0, v.long));
    }

pub returns : goal.returns
returns g c =
    let v = c.args.view.now in
    let K = g.N.Cost.CostKind.kind in
    let arcs = shown (g.N.Network.meaning v.net.now) in
    let (xs, f, (u, (t, yields, none)), folds) = c.fold.ensures.ran in
    let fits : SFits w32 c.fold.result = search rules in
    let r = least_turns K arcs v.flow.now v.prices.now _ xs c.iter.result t _ (f, _) yields none.0 folds (λ p q x o h. (search rules, λ a at. search rules))
    (subst (AllByRecursion (Moving K arcs v.flow.now v.prices.now)) (sym c.iter.ensures.rest) c.requires.moving) (omega arith) in
    let least = least_met K (length v.prices.now) arcs v.flow.now v.prices.now c.args.steps.now c.fold.result v.fitting c.requires.small c.requires.some c.requires.moving
    (subst (AllByRecursion (FitsIn K arcs v.flow.now v.prices.now c.fold.result)) c.iter.ensures.rest r.2)
    (subst (λ z. (c.fold.result ≡ pos 2000000) ⊎ Any (λ y. RoomIs K arcs v.flow.now v.prices.now y c.fold.result) z) c.iter.ensures.rest r.3) in
    record { low = simp to_z-of_z r.0; high = simp to_z-of_z r.1; least = simp to_z-of_z least }
