use Rattle.std.proofs.Common.{◌≡◌, drop, rules, None, sym, ap, ◌∙◌, ap₂}
use Rattle.costs.specs.Kinds.{sums}
use Rattle.networks.specs.Nets.{shown}
use Rattle.flows.specs.Flows.{running_total, added}
use Rattle.flows.proofs.Turns.{none_left}
use Rattle.flows.proofs.RunningTotals.{running_turns, running_end, total_within}
use Rattle.flows.proofs.totals.checked_total.Goals as goal

pub returns : goal.returns
returns g c =
    let K = g.N.Cost.CostKind.kind in
    let n = g.N.Network.meaning c.args.net.now in
    let (xs, o, f, a, (t, yields, last), folds, ends) = c.try_fold.ensures.ran in
    let whole = running_turns (sums K) (λ s. drop s.given (shown (g.N.Network.meaning s.net.now))) _ xs c.zip.result t _ (f, a) yields folds (λ p q x h. search rules) in
    let rest = running_end (sums K) (drop t.a.given (shown (g.N.Network.meaning t.a.net.now))) t.b.rest.now a c.try_fold.result o _ _ _ _ last ends (none_left _ _) (λ q. q)
    (λ x u v. let out : added (sums K) a x.0.cost x.1.now ≡ None = search rules in ((x.0, x.1.now), _, v.5, u.0, u.1, out)) in
    let arcs = ap (λ s. drop s.given (shown (g.N.Network.meaning s.net.now))) c.zip.ensures.first ∙ c.arcs_of.ensures in
    let e : c.try_fold.result ≡ running_total (sums K) K.zero (shown n) c.args.flow.now = sym (whole ∙ rest) ∙ ap₂ (λ z xs. running_total (sums K) z xs c.zip.result.b.rest.now) c.zero.ensures arcs ∙ ap (running_total (sums K) K.zero (shown n)) c.zip.ensures.second.0 in
    record { running = e; within = λ few fit small. e ∙ total_within K g.met.N.Cost.CostKind.lawful n.nodes (shown n) c.args.flow.now few fit small }
