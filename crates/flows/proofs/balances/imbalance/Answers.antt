use Rattle.std.proofs.Common.{length, sym, ap, ◌∙◌, arith, w32, w64, SFits, rules}
use Rattle.std.proofs.lemmas.Int.{to_z-of_z}
use Rattle.flows.proofs.Turns.{none_left}
use Rattle.flows.proofs.Balancing.{balance_more, balance_all}
use Rattle.flows.proofs.balances.imbalance.Goals as goal

pub loop-arc-preserved : goal.loop-arc-preserved
loop-arc-preserved g c =
    let next = c.in-Some.ensures.steps in
    let f : SFits w32 c.in-Some.f.now = search rules in
    let a : SFits w64 c.part.result = search rules in
    let b : SFits w64 c.part-in-loop-arc.result = search rules in
    let r : SFits w64 c.balanced-sum.result = search rules in
    let z : SFits w64 c.loop-arc.sum = search rules in
    let p = simp to_z-of_z at c.part.ensures.value in
    let q = simp to_z-of_z at c.part-in-loop-arc.ensures.value in
    let v = simp to_z-of_z at c.balanced-sum.ensures.value in
    let d = c.balanced-sum.ensures.bound in
    simp to_z-of_z (
      omega (arith, ap length next.1, c.loop-arc.invariant.0, d),
      balance_more c.args.node c.in-Some.arc c.in-Some.f.now _ c.balanced-sum.result c.part.result c.part-in-loop-arc.result next.0 next.1 v p q ∙ c.loop-arc.invariant.1,
    )

pub returns : goal.returns
returns g c = sym (balance_all c.args.node _ _ _ (none_left _ _ c.in-None.ensures.steps)) ∙ c.loop-arc.invariant.1
