use Rattle.std.proofs.Common.{◌∷◌, length, drop, None, sym, ap, ◌∙◌, subst, rules}
use Rattle.std.specs.List.{AllByRecursion}
use Rattle.networks.specs.Nets.{shown}
use Rattle.flows.specs.searching.Fits.{Fit}
use Rattle.flows.proofs.ArcSums.{all_from}
use Rattle.flows.proofs.Turns.{left_all, held_same}
use Rattle.tidy.specs.Picks.{nearest_of}
use Rattle.tidy.proofs.Order.{nearest_turns}
use Rattle.tidy.proofs.picks.Marked.nearest.Goals as goal

pub fold-requires-clause-callable : goal.fold-requires-clause-callable
fold-requires-clause-callable g c =
    let v = c.args.self.now in
    let P = Fit g.N.Cost.CostKind.kind (length v.prices.now) in
    let all : AllByRecursion P (shown (g.N.Network.meaning v.net.now)) = all_from P _ v.fitting in
    record {
      at = λ xs t q x u y f s.
          let h = held_same _ xs _ _ f (λ i j x h. search rules) in
          let m : AllByRecursion P (x ∷ drop u.given (shown (g.N.Network.meaning u.net.now))) = subst (AllByRecursion P) s (left_all (λ s. drop s.given (shown (g.N.Network.meaning s.net.now))) P xs c.arcs_of.result t y (subst (AllByRecursion P) (sym c.arcs_of.ensures) all)) in
          λ κs r n b w o. subst (λ z. Fit g.N.Cost.CostKind.kind (length z.0.now.prices.now) x) (sym h) m.0;
    }

pub returns : goal.returns
returns g c =
    let v = c.args.self.now in
    let K = g.N.Cost.CostKind.kind in
    let (xs, f, (u, (t, yields, none)), folds) = c.fold.ensures.ran in
    nearest_turns K v.prices.now v.marks.now (λ s. drop s.given (shown (g.N.Network.meaning s.net.now))) _ xs c.arcs_of.result t _ (f, _) yields none.0 folds (λ p q x o h. (search rules, search rules))
    ∙ ap (nearest_of K v.prices.now v.marks.now None) c.arcs_of.ensures
