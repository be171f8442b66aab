-- The nearest of the slacks.
use Rattle.std.proofs.Common.{◌≡◌, Bool, true, false, cond, List, [], ◌∷◌, Some, None, Option, sym, refl, ap, ◌∙◌, subst, arith}
use Rattle.std.specs.List.{AllByRecursion, FoldsTo}
use Rattle.std.specs.Iterator.{Yields, YieldsFirst}
use Rattle.networks.specs.declared.network.Arc.{Arc}
use Rattle.costs.specs.Kinds.{Kind, Laws}
use Rattle.flows.specs.searching.Prices.{nearer}
use Rattle.flows.proofs.Nearer.{nearer_total, nearer_trans, nearer_refl}
use Rattle.tidy.specs.declared.picks.Pick.{Pick}
use Rattle.tidy.specs.Picks.{slack_of, chosen, nearest_of}

module _ {C : Type 0} (K : Kind C) (laws : Laws K) where
  module _ (p : Pick C) where
    -- p is as near as what was the best, and as one more
    both : (best s : Option (Pick C)) → ((b : Pick C) → chosen K best s ≡ Some b → nearer K p.far b.far ≡ true) →
        ((b : Pick C) → best ≡ Some b → nearer K p.far b.far ≡ true) × ((q : Pick C) → s ≡ Some q → nearer K p.far q.far ≡ true)
    both best None h = (h, λ q e. cc)
    both None (Some q) h = ((λ b e. cc), h)
    both (Some b) (Some q) h = go (nearer K b.far q.far) refl h
      where
        go : (t : Bool) → nearer K b.far q.far ≡ t → ((x : Pick C) → cond t (Some b) (Some q) ≡ Some x → nearer K p.far x.far ≡ true) →
            ((x : Pick C) → Some b ≡ Some x → nearer K p.far x.far ≡ true) × ((x : Pick C) → Some q ≡ Some x → nearer K p.far x.far ≡ true)
        go true e h = (h, λ x i. let s : q ≡ x = cc in nearer_trans K laws p.far b.far x.far (h b refl) (subst (λ z. nearer K b.far z.far ≡ true) s e))
        go false e h = ((λ x i. let s : b ≡ x = cc in nearer_trans K laws p.far q.far x.far (h q refl) (subst (λ z. nearer K q.far z.far ≡ true) s (nearer_total K laws b.far q.far e))), h)

    module _ (ps : List C) (ms : List Bool) where
      -- the change p .far passes no slack
      abbrev Allows : Arc C → Type 0
      Allows a = (q : Pick C) → slack_of K ps ms a ≡ Some q → nearer K p.far q.far ≡ true

      fold_nearest : (arcs : List (Arc C)) (best : Option (Pick C)) → nearest_of K ps ms best arcs ≡ Some p →
          ((b : Pick C) → best ≡ Some b → nearer K p.far b.far ≡ true) × AllByRecursion Allows arcs
      fold_nearest [] best h = ((λ b e. let s : p ≡ b = cc in subst (λ z. nearer K p.far z.far ≡ true) s (nearer_refl K laws p.far)), tt)
      fold_nearest (a ∷ rest) best h =
          let next = fold_nearest rest (chosen K best (slack_of K ps ms a)) h in
          let here = both best (slack_of K ps ms a) next.0 in
          (here.0, (here.1, next.1))

      pub nearest_allows : (arcs : List (Arc C)) → nearest_of K ps ms None arcs ≡ Some p → AllByRecursion Allows arcs
      nearest_allows arcs h = (fold_nearest arcs None h).1

      -- what holds of the slack of each arc holds of the nearest
      one_of : (Q : Pick C → Type 0) (best s : Option (Pick C)) → ((b : Pick C) → best ≡ Some b → Q b) → ((q : Pick C) → s ≡ Some q → Q q) → (b : Pick C) → chosen K best s ≡ Some b → Q b
      one_of Q best None h k = h
      one_of Q None (Some q) h k = k
      one_of Q (Some b) (Some q) h k = go (nearer K b.far q.far)
        where
          go : (t : Bool) (x : Pick C) → cond t (Some b) (Some q) ≡ Some x → Q x
          go true = h
          go false = k

      pub nearest_is : (Q : Pick C → Type 0) (arcs : List (Arc C)) (best : Option (Pick C)) → ((b : Pick C) → best ≡ Some b → Q b) →
          AllByRecursion (λ a. (q : Pick C) → slack_of K ps ms a ≡ Some q → Q q) arcs → nearest_of K ps ms best arcs ≡ Some p → Q p
      nearest_is Q [] best h t e = h p e
      nearest_is Q (a ∷ rest) best h (k, ks) e = nearest_is Q rest (chosen K best (slack_of K ps ms a)) (one_of Q best (slack_of K ps ms a) h k) ks e

  -- none is nearest: no arc has a slack
  pub nearest_none : (ps : List C) (ms : List Bool) (arcs : List (Arc C)) (best : Option (Pick C)) → nearest_of K ps ms best arcs ≡ None → (best ≡ None) × AllByRecursion (λ a. slack_of K ps ms a ≡ None) arcs
  nearest_none ps ms [] best h = (h, tt)
  nearest_none ps ms (a ∷ rest) best h =
      let next = nearest_none ps ms rest (chosen K best (slack_of K ps ms a)) h in
      let here = neither best (slack_of K ps ms a) next.0 in
      (here.0, (here.1, next.1))
    where
      neither : (best s : Option (Pick C)) → chosen K best s ≡ None → (best ≡ None) × (s ≡ None)
      neither best None h = (h, refl)
      neither None (Some q) h = grind arith
      neither (Some b) (Some q) h = grind arith

-- the arcs in turn, each chosen from
pub nearest_turns : {C F S : Type 0} (K : Kind C) (ps : List C) (ms : List Bool) (left : S → List (Arc C)) (turn : F × Option (Pick C) → Arc C → F × Option (Pick C) → Type 0) (xs : List (Arc C)) (s t : S) (p q : F × Option (Pick C)) →
    Yields (YieldsFirst left) s xs t → left t ≡ [] → FoldsTo turn p xs q → ((i j : F × Option (Pick C)) (x : Arc C) → i.0 ≡ p.0 → turn i x j → (j.0 ≡ p.0) × (j.1 ≡ chosen K i.1 (slack_of K ps ms x))) → q.1 ≡ nearest_of K ps ms p.1 (left s)
nearest_turns K ps ms left turn [] s t p q y none f tells = ap (λ z. z.1) (sym f) ∙ sym (ap (nearest_of K ps ms p.1) (ap left y ∙ none))
nearest_turns K ps ms left turn (x ∷ xs) s t p q (j, a, y) none (i, b, f) tells =
    let told = tells p i x refl b in
    nearest_turns K ps ms left turn xs j t i q y none f (λ k l z o h. let r = tells k l z (o ∙ told.0) h in (r.0 ∙ sym told.0, r.1))
    ∙ ap (λ z. nearest_of K ps ms z (left j)) told.1 ∙ sym (ap (nearest_of K ps ms p.1) a)
