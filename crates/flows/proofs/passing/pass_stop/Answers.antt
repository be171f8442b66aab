use Rattle.std.proofs.Common.{length, sym, ap, ◌∙◌, subst, rules}
use Rattle.networks.specs.Nets.{shown}
use Rattle.networks.specs.Answers.{refusal}
use Rattle.networks.proofs.Shown.{length_shown}
use Rattle.flows.specs.searching.Fits.{Fitting}
use Rattle.flows.proofs.Fitted.{no_stop}
use Rattle.flows.proofs.Passes.{prices_small}
use Rattle.flows.proofs.passing.pass_stop.Goals as goal

pub invariant_of-kilter_fault : goal.invariant_of-kilter_fault
invariant_of-kilter_fault g c =
    let K = g.N.Cost.CostKind.kind in
    let n = g.N.Network.meaning c.args.net.now in
    let ps = c.args.prices.now in
    let p = no_stop K n c.args.flow.now c.args.needs.now (length ps) (length c.args.marks.now) (sym c.first_stop.ensures ∙ ap refusal c.in_ok-first_stop.was) in
    record {
      long = p.flow_long ∙ sym (length_shown n);
      fitting = subst (λ z. Fitting K z (shown n)) (sym p.prices_long) p.fits;
      moderate = prices_small K 1 ps K.zero (sym c.prices_fault.ensures ∙ ap refusal c.in_ok-prices_fault.was);
    }
