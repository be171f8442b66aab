-- What stands in a list that counts from 1.
use Rattle.std.proofs.Common.{◌≡◌, ℕ, zero, suc, ◌+◌, ◌-◌, ◌<◌, List, [], ◌∷◌, length, drop, set, Some, None, sym, refl, ap, ◌∙◌, arith}
use Rattle.std.specs.List.{slice_get}
use Rattle.std.specs.Option.{option_map}
use Rattle.std.proofs.lemmas.List.{drop_more}
use Rattle.std.proofs.lemmas.Bool.{cond-false, ne_eqb}
use Rattle.networks.specs.Nets.{numbered, mapped_from, IsAt}

pub nth_at : {X : Type 0} (xs : List X) (i : ℕ) (x : X) → Some x ≡ slice_get xs i → IsAt xs i x
nth_at [] i x e = cc
nth_at (y ∷ ys) zero x e = (omega arith, cc)
nth_at (y ∷ ys) (suc i) x e = let r = nth_at ys i x e in (omega (arith, r.0), r.1)

pub nth_none : {X : Type 0} (xs : List X) (i : ℕ) → i < length xs → None ≡ slice_get xs i → ⊥
nth_none [] i h e = omega arith
nth_none (x ∷ xs) zero h e = cc
nth_none (x ∷ xs) (suc i) h e = nth_none xs i (omega arith) e

-- the number after i is at place i
pub numbered_next : {X : Type 0} (xs : List X) (i : ℕ) → numbered xs (i + 1) ≡ slice_get xs i
numbered_next xs i = let e : i + 1 - 1 ≡ i = omega arith in cond-false _ _ _ (ne_eqb (i + 1) 0 (λ p. omega arith)) ∙ ap (slice_get xs) e

-- there is an item at a place within the list
pub item_at : {X : Type 0} (xs : List X) (i : ℕ) → i < length xs → X
item_at [] i h = absurd (omega arith)
item_at (x ∷ xs) i h = x

-- ---- a list turned into another, each item by its number

module _ {X Y : Type 0} (f : ℕ → X → Y) where
  pub nth_mapped : (k : ℕ) (xs : List X) (i : ℕ) → slice_get (mapped_from f k xs) i ≡ option_map (f (k + i)) (slice_get xs i)
  nth_mapped k [] i = refl
  nth_mapped k (x ∷ rest) zero = let e : k ≡ k + 0 = omega arith in ap (λ a. Some (f a x)) e
  nth_mapped k (x ∷ rest) (suc i) = let e : suc k + i ≡ k + suc i = omega arith in nth_mapped (suc k) rest i ∙ ap (λ a. option_map (f a) (slice_get rest i)) e

  -- an item written is its image replaced
  pub set_mapped : (k : ℕ) (xs : List X) (i : ℕ) (x : X) → mapped_from f k (set xs i x) ≡ set (mapped_from f k xs) i (f (k + i) x)
  set_mapped k [] i x = refl
  set_mapped k (y ∷ rest) zero x = let e : k ≡ k + 0 = omega arith in ap (λ a. f a x ∷ mapped_from f (suc k) rest) e
  set_mapped k (y ∷ rest) (suc i) x = let e : suc k + i ≡ k + suc i = omega arith in ap (λ ys. f k y ∷ ys) (set_mapped (suc k) rest i x ∙ ap (λ a. set (mapped_from f (suc k) rest) i (f a x)) e)

  pub length_mapped : (k : ℕ) (xs : List X) → length (mapped_from f k xs) ≡ length xs
  length_mapped k [] = refl
  length_mapped k (x ∷ rest) = ap suc (length_mapped (suc k) rest)

-- ---- loops

-- what stands at place i is the first of the rest
pub at_drop : {X : Type 0} (xs : List X) (i : ℕ) (x : X) → IsAt xs i x → drop i xs ≡ x ∷ drop (i + 1) xs
at_drop xs i x h = drop_more xs i x h.0 ∙ ap (λ y. y ∷ drop (i + 1) xs) (sym h.1)
