use Rattle.std.proofs.Common.{◌≡◌, ◌-◌, ◌*◌, ◌^◌, ◌<◌, subst, cond, map, length, Ok, sym, ap, ◌∙◌, arith, rules}
use Rattle.std.proofs.lemmas.Bool.{cond-true, cond-false}
use Rattle.networks.specs.Nets.{shown}
use Rattle.networks.specs.Answers.{refusal}
use Rattle.networks.proofs.Shown.{length_shown}
use Rattle.flows.specs.Flows.{EachArc}
use Rattle.flows.specs.Kilter.{InKilter, largest}
use Rattle.flows.specs.Settles.{read_price_as, prices_read}
use Rattle.flows.proofs.Fitted.{no_stop}
use Rattle.search.specs.declared.guard.Restore.{Restore}
use Rattle.search.specs.Settling.{restored, is_none_answer, tables}
use Rattle.search.proofs.Opening.{some_limit, going_start}
use Rattle.search.proofs.Answering.{small_prices, answers_left, ended_ready}
use Rattle.search.proofs.Keeping.{read_at, kept_by}
use Rattle.search.proofs.Wording.{settled_by, words_follow}
use Rattle.search.proofs.settling.settle.Goals.{then-not-is_none, else-not-is_none}
use Rattle.search.proofs.settling.settle.Goals as goal

pub overflow_mul-most : goal.overflow_mul-most
overflow_mul-most g c =
    let K = g.N.Cost.CostKind.kind in
    let n = g.N.Network.meaning c.args.net.now in
    let ps = c.args.prices.now in
    let p = no_stop K n c.args.flow.now c.args.needs.now (length ps) (length c.args.marks.now) (sym c.first_stop.ensures ∙ ap refusal c.in_ok-first_stop.was) in
    let l = some_limit K g.met.N.Cost.CostKind.lawful n c.args.flow.now c.args.needs.now (length ps) (length c.args.marks.now) p (length ps) p.prices_long in
    let e = ap (λ z. (length ps - 1) * z) c.largest_cost.ensures in
    let h : (length ps - 1) * c.largest_cost.result < 2 ^ 64 = omega (arith, l, e) in
    search rules

pub search-answer-requires : goal.search-answer-requires
search-answer-requires g c =
    let K = g.N.Cost.CostKind.kind in
    let n = g.N.Network.meaning c.args.net.now in
    let ps = c.args.prices.now in
    let p = no_stop K n c.args.flow.now c.args.needs.now (length ps) (length c.args.marks.now) (sym c.first_stop.ensures ∙ ap refusal c.in_ok-first_stop.was) in
    let l = some_limit K g.met.N.Cost.CostKind.lawful n c.args.flow.now c.args.needs.now (length ps) (length c.args.marks.now) p (length ps) p.prices_long in
    let e = ap (λ z. (length ps - 1) * z) c.largest_cost.ensures in
    record {
      going = going_start K g.met.N.Cost.CostKind.lawful n c.args.flow.now c.args.needs.now (length ps) (length c.args.marks.now) p ps c.read_prices.new.prices _ p.prices_long c.read_prices.auto.prices (omega (arith, l, e)) (read_at K _ ps c.read_prices.new.prices c.read_prices.ensures);
      few = omega (arith, p.flow_long, p.few_arcs);
      marks = c.clear.auto.marks ∙ p.marks_long;
    }

pub returns : goal.returns
returns g c =
    let K = g.N.Cost.CostKind.kind in
    let laws = g.met.N.Cost.CostKind.lawful in
    let n = g.N.Network.meaning c.args.net.now in
    let flow = c.args.flow.now in
    let needs' = c.args.needs.now in
    let ps = c.args.prices.now in
    let marks = c.args.marks.now in
    let none = sym c.first_stop.ensures ∙ ap refusal c.in_ok-first_stop.was in
    let p = no_stop K n flow needs' (length ps) (length marks) none in
    let a = c.search-answer.result in
    let f = c.search-answer.new.flow in
    let qs = c.search-answer.new.prices in
    let rs = c.tidy.new.prices in
    let after = c.search-answer.new.marks in
    let ready = ended_ready K n.nodes (shown n) flow (length flow) c.args.budget f qs c.clear.new.marks after a c.search-answer.ensures.ended in
    let left : c.drop-guard.new.self.0 ≡ cond (is_none_answer a) flow f = elim c.if-not-is_none.branch [
      | then-not-is_none w ↦ c.drop-guard.ensures ∙ ap (λ (r : Restore). restored r.saved r.flow.now) w.guard-is ∙ sym (cond-false _ _ _ (sym c.is_none.ensures ∙ w.if-not-is_none.true))
      | else-not-is_none w ↦ c.drop-guard.ensures ∙ ap (λ (r : Restore). restored r.saved r.flow.now) w.guard-is ∙ c.save.ensures ∙ sym (cond-true _ _ _ (sym c.is_none.ensures ∙ w.if-not-is_none.false))
    ] in
    let answers = answers_left K laws n.nodes (shown n) flow f qs rs c.tidy.ensures c.args.budget needs' ps marks c.clear.new.marks after p.needs_long (p.flow_long ∙ sym (length_shown n)) p.meets c.search-answer.auto.flow c.clear.ensures a c.drop-guard.new.self.0 c.search-answer.ensures.ended c.search-answer.ensures.total left in
    let read = c.read_prices.ensures ∙ ap (λ z. map (read_price_as K z) ps) (ap (λ z. (length ps - 1) * z) c.largest_cost.ensures ∙ ap (λ z. (z - 1) * largest K (shown n)) p.prices_long) in
    let kept = λ (k : EachArc (InKilter K (prices_read K n.nodes (shown n) ps)) (shown n) flow).
    kept_by K laws n.nodes (shown n) flow needs' f c.drop-guard.new.self.0 ps c.read_prices.new.prices qs rs marks after a read
    (c.search-answer.ensures.keeps (subst (λ z. EachArc (InKilter K z) (shown n) flow) (sym read) k)) c.search-answer.ensures.total c.tidy.ensures left in
    let settled = settled_by K n c.args.budget flow needs' ps marks a c.drop-guard.new.self.0 rs after answers (small_prices K laws n.nodes (shown n) flow f qs rs c.tidy.ensures ready.priced) kept (c.tidy.auto.prices ∙ c.search-answer.auto.prices ∙ c.read_prices.auto.prices) (c.search-answer.auto.marks ∙ c.clear.auto.marks) in
    record { stops = sym none; settles = settled; words = words_follow K laws n c.args.budget (tables flow needs' ps marks) (Ok a) _ none settled }
