use Rattle.std.proofs.Common.{length, arith, w64, SFits, rules}
use Rattle.std.proofs.lemmas.Int.{to_z-of_z}
use Rattle.networks.specs.Nets.{shown}
use Rattle.flows.proofs.Balancing.{need_fits}
use Rattle.flows.proofs.Needing.{imbalances_all}
use Rattle.flows.proofs.balances.imbalances.Goals as goal

pub overflow_cast-written : goal.overflow_cast-written
overflow_cast-written g c =
    let wide : SFits w64 c.imbalance.result = search rules in
    simp to_z-of_z (need_fits _ (shown (g.N.Network.meaning c.args.net.now)) c.args.flow.now c.imbalance.result c.imbalance.ensures c.requires.few c.requires.small)

pub loop-i-preserved : goal.loop-i-preserved
loop-i-preserved g c =
    let wide : SFits w64 c.imbalance.result = search rules in
    let narrow = need_fits _ (shown (g.N.Network.meaning c.args.net.now)) c.args.flow.now c.imbalance.result c.imbalance.ensures c.requires.few c.requires.small in
    simp to_z-of_z (search rules)

pub returns : goal.returns
returns g c = imbalances_all (shown (g.N.Network.meaning c.args.net.now)) c.args.flow.now c.loop-i.needs (length c.args.needs.now) c.loop-i.invariant.0 (λ k h. c.loop-i.invariant.1 k (omega arith))
