-- Chains that meet no node twice go over no arc twice; the order of the steps does not matter to the flow.
use Rattle.std.proofs.Common.{◌≡◌, ℕ, zero, suc, Bool, true, false, cond, ◌⊎◌, List, [], ◌∷◌, map, get_or, set, ℤ, pos, ◌+ℤ◌, neg_ℤ, sym, refl, ap, ◌∙◌, subst, inl, inr, arith}
use borrow.Author.Differences.{ints}
use Rattle.std.specs.List.{AllByRecursion}
use Rattle.networks.specs.declared.network.Arc.{Arc}
use Rattle.flows.specs.declared.steps.Step.{Step}
use Rattle.networks.specs.Nets.{IsAt}
use Rattle.flows.specs.Laps.{near, far, Leads, first, Chain, Apart, sent}
use Rattle.flows.proofs.ArcSums.{same_at}

abbrev added : List ℤ → ℕ → ℤ → List ℤ
added fs i y = set fs i (get_or fs i (pos 0) +ℤ y)

added_comm : (fs : List ℤ) (i j : ℕ) (y z : ℤ) → added (added fs i y) j z ≡ added (added fs j z) i y
added_comm [] i j y z = refl
added_comm (f ∷ fs) zero zero y z = ap (λ k. k ∷ fs) (turned f y z)
  where
    turned : (f y z : ℤ) → (f +ℤ y) +ℤ z ≡ (f +ℤ z) +ℤ y
    turned f y z = omega (arith, ints)
added_comm (f ∷ fs) zero (suc j) y z = refl
added_comm (f ∷ fs) (suc i) zero y z = refl
added_comm (f ∷ fs) (suc i) (suc j) y z = ap (λ k. f ∷ k) (added_comm fs i j y z)

-- a step before the others, taken after them
pub sent_late : (x : ℤ) (s : Step) (rest : List Step) (fs : List ℤ) → sent x (s ∷ rest) fs ≡ added (sent x rest fs) s.arc (cond s.along x (neg_ℤ x))
sent_late x s [] fs = refl
sent_late x s (t ∷ rest) fs =
    ap (λ gs. sent x rest gs) (added_comm fs s.arc t.arc (cond s.along x (neg_ℤ x)) (cond t.along x (neg_ℤ x))) ∙ sent_late x s rest (added fs t.arc (cond t.along x (neg_ℤ x)))

module _ {C : Type 0} (arcs : List (Arc C)) where
  -- two steps over one arc set out from the same node, or the second goes back
  one_arc : (s t : Step) (m k : ℕ) → Leads arcs s m → Leads arcs t k → s.arc ≡ t.arc → (s.node ≡ t.node) ⊎ ((m ≡ t.node) × (k ≡ s.node))
  one_arc s t m k (a, at, p, q) (b, bt, u, v) e =
      go s.along t.along p q (ap (λ z. near z t.along) same ∙ u) (ap (λ z. far z t.along) same ∙ v)
    where
      same : a ≡ b
      same = same_at arcs t.arc a b (subst (λ i. IsAt arcs i a) e at) bt

      go : (x y : Bool) → near a x ≡ s.node → far a x ≡ m → near a y ≡ t.node → far a y ≡ k → (s.node ≡ t.node) ⊎ ((m ≡ t.node) × (k ≡ s.node))
      go true true p q u v = inl (sym p ∙ u)
      go true false p q u v = inr (sym q ∙ u, sym v ∙ p)
      go false true p q u v = inr (sym q ∙ u, sym v ∙ p)
      go false false p q u v = inl (sym p ∙ u)

  far_apart : (s : Step) (m : ℕ) → Leads arcs s m → (rest : List Step) (end : ℕ) → Chain arcs rest end → AllByRecursion (λ n. ¬ (s.node ≡ n)) (map (λ t. t.node) rest) → AllByRecursion (λ n. ¬ (m ≡ n)) (map (λ t. t.node) rest) → AllByRecursion (λ j. ¬ (s.arc ≡ j)) (map (λ t. t.arc) rest)
  far_apart s m lead [] end c p q = tt
  far_apart s m lead (t ∷ rest) end (c, cs) (p, ps) (q, qs) = ((λ e. go (one_arc s t m (first rest end) lead c e)), far_apart s m lead rest end cs ps qs)
    where
      go : (s.node ≡ t.node) ⊎ ((m ≡ t.node) × (first rest end ≡ s.node)) → ⊥
      go (inl e) = p e
      go (inr (e, _)) = q e

  next_apart : (s : Step) (rest : List Step) (end : ℕ) → Leads arcs s (first rest end) → Chain arcs rest end → Apart (map (λ t. t.node) (s ∷ rest)) →
      ((t : Step) → rest ≡ t ∷ [] → ¬ ((s.arc ≡ t.arc) × (end ≡ s.node))) → AllByRecursion (λ j. ¬ (s.arc ≡ j)) (map (λ t. t.arc) rest)
  next_apart s [] end lead c ap' two = tt
  next_apart s (t ∷ []) end lead (c, cs) ((p, ps), (q, qs)) two = ((λ e. go e (one_arc s t t.node end lead c e)), tt)
    where
      go : s.arc ≡ t.arc → (s.node ≡ t.node) ⊎ ((t.node ≡ t.node) × (end ≡ s.node)) → ⊥
      go e (inl n) = p n
      go e (inr (_, n)) = two t refl (e, n)
  next_apart s (t ∷ (r ∷ rest)) end lead (c, cs) ((p, (pr, ps)), (q, qs)) two = ((λ e. go (one_arc s t t.node r.node lead c e)), far_apart s t.node lead (r ∷ rest) end cs (pr, ps) q)
    where
      go : (s.node ≡ t.node) ⊎ ((t.node ≡ t.node) × (r.node ≡ s.node)) → ⊥
      go (inl n) = p n
      go (inr (_, n)) = pr (sym n)

  -- a chain that meets no node twice and does not come back goes over no arc twice
  open_apart : (steps : List Step) (end : ℕ) → Chain arcs steps end → Apart (map (λ t. t.node) steps) → AllByRecursion (λ n. ¬ (end ≡ n)) (map (λ t. t.node) steps) → Apart (map (λ t. t.arc) steps)
  open_apart [] end c n h = tt
  open_apart (s ∷ rest) end (c, cs) (n, ns) (h, hs) = (next_apart s rest end c cs (n, ns) (λ t _ both. h both.1), open_apart rest end cs ns hs)

  -- nor does a closed one, but for one arc there and back
  pub lap_apart : (s : Step) (rest : List Step) → Chain arcs (s ∷ rest) s.node → Apart (map (λ t. t.node) (s ∷ rest)) → ((t : Step) → rest ≡ t ∷ [] → ¬ (s.arc ≡ t.arc)) → Apart (map (λ t. t.arc) (s ∷ rest))
  lap_apart s rest (c, cs) (n, ns) two = (next_apart s rest s.node c cs (n, ns) (λ t e both. two t e both.0), open_apart rest s.node cs ns n)
