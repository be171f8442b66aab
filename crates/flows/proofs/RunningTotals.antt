-- A running total where nothing is left to add, and within the limits.
use Rattle.std.proofs.Common.{◌≡◌, ℕ, suc, ◌+◌, ◌*◌, ◌≤◌, ◌⊎◌, List, [], ◌∷◌, length, ℤ, Iter, Some, None, Option, sym, refl, ap, ap₂, ◌∙◌, arith}
use Rattle.std.proofs.lemmas.Bool.{le-leb, cond-true}
use Rattle.std.specs.Prelude.{MatchOption}
use Rattle.std.specs.Iterator.{Yields, YieldsFirst}
use Rattle.std.specs.Iterator.Adapters.{zip_steps}
use Rattle.std.specs.declared.iter.Zip.{Zip}
use Rattle.std.specs.List.{FoldsTo}
use denote.Ref.{Bor}
use Rattle.costs.specs.Kinds.{Kind, Sums, Laws, sums, answered, size_limit}
use Rattle.networks.specs.declared.network.Arc.{Arc}
use Rattle.flows.specs.searching.Fits.{Fitting, Small}
use Rattle.flows.specs.Flows.{total, and_then, added, running_total}
use Rattle.flows.proofs.Group.{assoc, left, right, size_zero}
use Rattle.flows.proofs.Totalling.{size_multiple}
use Rattle.flows.proofs.Turns.{at_none}

module _ {C : Type 0} (S : Sums C) where
  -- no arc is left, or no flow
  pub running_all : (arcs : List (Arc C)) (flow : List ℤ) (s : C) → (arcs ≡ []) ⊎ (length flow ≡ 0) → running_total S s arcs flow ≡ Some s
  running_all arcs flow s = at_none (running_total S s) (Some s) (λ fs. refl) (λ x xs. refl) arcs flow

module _ {C : Type 0} (K : Kind C) (laws : Laws K) where
  in_range : (c : C) → K.size c ≤ size_limit → answered K.size c ≡ Some c
  in_range c h = cond-true _ _ _ (le-leb (K.size c) size_limit h)

  running_within : (N : ℕ) (arcs : List (Arc C)) (flow : List ℤ) (s : C) → Fitting K N arcs → Small flow → K.size s + 1000000000000 * length flow ≤ size_limit → running_total (sums K) s arcs flow ≡ Some (K.plus s (total (sums K) arcs flow))
  running_within N [] fs s fit small h = ap Some (sym (right K laws s))
  running_within N (a ∷ rest) [] s fit small h = ap Some (sym (right K laws s))
  running_within N (a ∷ rest) (f ∷ fs) s fit small h =
      let p : C = K.times f a.cost in
      let t : C = K.plus s p in
      let b = size_multiple K laws f a.cost (small 0) (fit 0 a (omega arith, refl)).cost in
      let c = laws.adds.size_plus s p in
      let one : added (sums K) s a.cost f ≡ Some t = ap (λ o. and_then o (λ q. answered K.size (K.plus s q))) (in_range p (omega (arith, b))) ∙ in_range t (omega (arith, b, c)) in
      ap (λ o. and_then o (λ more. running_total (sums K) more rest fs)) one ∙ running_within N rest fs t (λ i x is. fit (suc i) x (omega (arith, is.0), is.1)) (λ i. small (suc i)) (omega (arith, b, c))
      ∙ ap Some (assoc K laws s p (total (sums K) rest fs))

  -- flows of at most 1,024 arcs within the limits have a total
  pub total_within : (N : ℕ) (arcs : List (Arc C)) (flow : List ℤ) → length flow ≤ 1024 → Fitting K N arcs → Small flow → running_total (sums K) K.zero arcs flow ≡ Some (total (sums K) arcs flow)
  total_within N arcs flow few fit small = running_within N arcs flow K.zero fit small (omega (arith, size_zero K laws)) ∙ ap Some (left K laws (total (sums K) arcs flow))

-- turns over arcs and flows, of which each adds one arc more
pub running_turns : {C A F : Type 0} (K : Sums C) (left : A → List (Arc C)) (turn : F × C → Arc C × Bor ℤ → F × C → Type 0) (xs : List (Arc C × Bor ℤ)) (s t : Zip A (Iter ℤ)) (p q : F × C) →
    Yields (zip_steps (YieldsFirst left) (λ i r j. MatchOption r ((length i.rest.now ≡ 0) × (j ≡ i)) (λ (x : Bor ℤ). i.rest.now ≡ x.now ∷ j.rest.now))) s xs t → FoldsTo turn p xs q → ((p q : F × C) (x : Arc C × Bor ℤ) → turn p x q → added K p.1 x.0.cost x.1.now ≡ Some q.1) →
    running_total K p.1 (left s.a) s.b.rest.now ≡ running_total K q.1 (left t.a) t.b.rest.now
running_turns K left turn [] s t p q y f adds = ap₂ (λ z w. running_total K z.1 (left w.a) w.b.rest.now) f y
running_turns K left turn (x ∷ xs) s t p q (j, a, y) (i, b, f) adds =
    ap₂ (running_total K p.1) a.0 a.1 ∙ ap (λ o. and_then o (λ m. running_total K m (left j.a) j.b.rest.now)) (adds p i x b) ∙ running_turns K left turn xs j t i q y f adds

-- no arc is left, or no flow; or the next product or sum leaves the range
pub running_end : {C X : Type 0} (K : Sums C) (arcs : List (Arc C)) (flow : List ℤ) (a : C) (r : Option C) (o : Option X) (P Q : Type 0) (U V : X → Type 0) → MatchOption o P U → MatchOption o Q V → (P → (arcs ≡ []) ⊎ (length flow ≡ 0)) → (Q → r ≡ Some a) →
    ((x : X) → U x → V x → (y : Arc C × ℤ) × (rest : List (Arc C) × List ℤ) × (r ≡ None) × (arcs ≡ y.0 ∷ rest.0) × (flow ≡ y.1 ∷ rest.1) × (added K a y.0.cost y.1 ≡ None)) → running_total K a arcs flow ≡ r
running_end K arcs flow a r None P Q U V p q none whole broken = running_all K arcs flow a (none p) ∙ sym (whole q)
running_end K arcs flow a r (Some x) P Q U V u v none whole broken =
    let (y, rest, e, da, df, out) = broken x u v in
    ap₂ (running_total K a) da df ∙ ap (λ o. and_then o (λ m. running_total K m rest.0 rest.1)) out ∙ sym e
