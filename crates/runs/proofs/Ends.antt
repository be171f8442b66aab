-- Arcs with the same ends: whatever their bounds and costs, they give the same imbalances.
use Rattle.std.proofs.Common.{◌≡◌, ℕ, zero, suc, Bool, true, false, cond, eqb, List, [], ◌∷◌, length, set, ℤ, pos, ◌+ℤ◌, ◌-ℤ◌, Some, sym, refl, ap, ◌∙◌, ap₂}
use Rattle.std.specs.List.{slice_get}
use Rattle.networks.specs.declared.network.Arc.{Arc}
use Rattle.networks.specs.Nets.{Lock, is_out, shown_arc, shown_from}
use Rattle.flows.specs.Flows.{imbalance, leaving, entering, sum_arcs}
use Rattle.runs.specs.Runs.{SameEnds}

module _ {C : Type 0} where
  pub ends_refl : (xs : List (Arc C)) → SameEnds xs xs
  ends_refl [] = tt
  ends_refl (x ∷ xs) = (refl, refl, ends_refl xs)

  pub ends_trans : (xs ys zs : List (Arc C)) → SameEnds xs ys → SameEnds ys zs → SameEnds xs zs
  ends_trans [] [] [] p q = tt
  ends_trans [] [] (z ∷ zs) p q = q
  ends_trans [] (y ∷ ys) zs p q = absurd p
  ends_trans (x ∷ xs) [] zs p q = absurd p
  ends_trans (x ∷ xs) (y ∷ ys) [] p q = absurd q
  ends_trans (x ∷ xs) (y ∷ ys) (z ∷ zs) (a, b, p) (c, d, q) = (a ∙ c, b ∙ d, ends_trans xs ys zs p q)

  pub ends_long : (xs ys : List (Arc C)) → SameEnds xs ys → length ys ≡ length xs
  ends_long [] [] p = refl
  ends_long [] (y ∷ ys) p = absurd p
  ends_long (x ∷ xs) [] p = absurd p
  ends_long (x ∷ xs) (y ∷ ys) (a, b, p) = ap suc (ends_long xs ys p)

  -- one arc replaced by one with its ends
  pub ends_set : (xs : List (Arc C)) (i : ℕ) (x y : Arc C) → slice_get xs i ≡ Some x → x.from ≡ y.from → x.to ≡ y.to → SameEnds xs (set xs i y)
  ends_set [] i x y e p q = tt
  ends_set (z ∷ zs) zero x y e p q = let s : z ≡ x = cc in (ap (λ w. w.from) s ∙ p, ap (λ w. w.to) s ∙ q, ends_refl zs)
  ends_set (z ∷ zs) (suc i) x y e p q = (refl, refl, ends_set zs i x y e p q)

  -- being out changes no end
  shown_ends : (b c : Bool) (x y : Arc C) → x.from ≡ y.from → x.to ≡ y.to → ((shown_arc b x).from ≡ (shown_arc c y).from) × ((shown_arc b x).to ≡ (shown_arc c y).to)
  shown_ends true true x y p q = (p, q)
  shown_ends true false x y p q = (p, q)
  shown_ends false true x y p q = (p, q)
  shown_ends false false x y p q = (p, q)

  pub ends_shown : (k : ℕ) (os ps : List Lock) (xs ys : List (Arc C)) → SameEnds xs ys → SameEnds (shown_from k os xs) (shown_from k ps ys)
  ends_shown k os ps [] [] e = tt
  ends_shown k os ps [] (y ∷ ys) e = absurd e
  ends_shown k os ps (x ∷ xs) [] e = absurd e
  ends_shown k os ps (x ∷ xs) (y ∷ ys) (p, q, e) =
      let s = shown_ends (is_out os k) (is_out ps k) x y p q in
      (s.0, s.1, ends_shown (suc k) os ps xs ys e)

  leaving_same : (n : ℕ) (xs ys : List (Arc C)) (fs : List ℤ) → SameEnds xs ys → sum_arcs (leaving n) ys fs ≡ sum_arcs (leaving n) xs fs
  leaving_same n [] [] fs e = refl
  leaving_same n [] (y ∷ ys) fs e = absurd e
  leaving_same n (x ∷ xs) [] fs e = absurd e
  leaving_same n (x ∷ xs) (y ∷ ys) [] e = refl
  leaving_same n (x ∷ xs) (y ∷ ys) (f ∷ fs) (p, q, e) = ap₂ ◌+ℤ◌ (ap (λ m. cond (eqb m n) f (pos 0)) (sym p)) (leaving_same n xs ys fs e)

  entering_same : (n : ℕ) (xs ys : List (Arc C)) (fs : List ℤ) → SameEnds xs ys → sum_arcs (entering n) ys fs ≡ sum_arcs (entering n) xs fs
  entering_same n [] [] fs e = refl
  entering_same n [] (y ∷ ys) fs e = absurd e
  entering_same n (x ∷ xs) [] fs e = absurd e
  entering_same n (x ∷ xs) (y ∷ ys) [] e = refl
  entering_same n (x ∷ xs) (y ∷ ys) (f ∷ fs) (p, q, e) = ap₂ ◌+ℤ◌ (ap (λ m. cond (eqb m n) f (pos 0)) (sym q)) (entering_same n xs ys fs e)

  pub imbalance_same : (xs ys : List (Arc C)) (fs : List ℤ) (n : ℕ) → SameEnds xs ys → imbalance ys fs n ≡ imbalance xs fs n
  imbalance_same xs ys fs n e = ap₂ ◌-ℤ◌ (leaving_same n xs ys fs e) (entering_same n xs ys fs e)
