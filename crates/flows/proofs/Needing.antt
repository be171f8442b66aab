-- The imbalances of a flow as needs.
use Rattle.std.proofs.Common.{◌≡◌, ℕ, zero, suc, ◌+◌, ◌-◌, ◌<◌, ◌≤◌, List, length, get_or, ℤ, pos, sym, refl, ap, ◌∙◌, subst, ⊎_elim, arith}
use Rattle.std.proofs.lemmas.List.{same_lists, get_or_default}
use Rattle.std.proofs.lemmas.Bool.{cases_eq}
use Rattle.networks.specs.declared.network.Arc.{Arc}
use Rattle.flows.specs.Flows.{imbalance, imbalances_from, SameImbalances, Meets}

module _ {C : Type 0} where
  -- one for each node
  pub imbalances_long : (arcs : List (Arc C)) (f : List ℤ) (k n : ℕ) → length (imbalances_from k n arcs f) ≡ n
  imbalances_long arcs f k zero = refl
  imbalances_long arcs f k (suc n) = ap suc (imbalances_long arcs f (suc k) n)

  -- the need at each place
  pub imbalances_at : (arcs : List (Arc C)) (f : List ℤ) (k n m : ℕ) → k ≤ m → m < k + n → imbalance arcs f m ≡ get_or (imbalances_from k n arcs f) (m - k) (pos 0)
  imbalances_at arcs f k zero m l h = absurd (omega arith)
  imbalances_at arcs f k (suc n) m l h = ⊎_elim
      (λ (q : m ≡ k). let z : m - k ≡ 0 = omega arith in ap (imbalance arcs f) q ∙ sym (ap (λ i. get_or (imbalances_from k (suc n) arcs f) i (pos 0)) z))
      (λ (q : m ≡ k → ⊥). let z : m - k ≡ suc (m - suc k) = omega arith in imbalances_at arcs f (suc k) n m (omega arith) (omega arith) ∙ sym (ap (λ i. get_or (imbalances_from k (suc n) arcs f) i (pos 0)) z)) (cases_eq m k)

  -- a flow with the same imbalances has these needs
  pub imbalances_meet : (N : ℕ) (arcs : List (Arc C)) (f g : List ℤ) → SameImbalances N arcs f g → Meets arcs (imbalances_from 1 N arcs f) g
  imbalances_meet N arcs f g same n l h =
      let m : n ≤ N = subst (λ z. n ≤ z) (imbalances_long arcs f 1 N) h in
      sym (same n l m) ∙ imbalances_at arcs f 1 N n l (omega arith)

  -- a table of that length whose places hold the imbalances
  pub imbalances_all : (arcs : List (Arc C)) (f xs : List ℤ) (n : ℕ) → length xs ≡ n → ((k : ℕ) → k < n → get_or xs k (pos 0) ≡ imbalance arcs f (k + 1)) → xs ≡ imbalances_from 1 n arcs f
  imbalances_all arcs f xs n l at = same_lists xs (imbalances_from 1 n arcs f) (l ∙ sym (imbalances_long arcs f 1 n)) (λ k d h.
      let z : (k + 1) - 1 ≡ k = omega arith in
      get_or_default xs k d (pos 0) h ∙ at k (omega arith) ∙ imbalances_at arcs f 1 n (k + 1) (omega arith) (omega arith) ∙ ap (λ i. get_or (imbalances_from 1 n arcs f) i (pos 0)) z ∙
      get_or_default (imbalances_from 1 n arcs f) k (pos 0) d (omega (arith, imbalances_long arcs f 1 n)))
