-- Lock-outs below, seen through a layer of more arcs: over the arcs below they are as they were, and above those they have nothing out.
use Rattle.std.proofs.Common.{◌≡◌, ℕ, suc, ◌<◌, ◌≤◌, min, Bool, true, false, cond, ◌||◌, eqb, ltb, List, [], ◌∷◌, map, length, Some, None, Option, sym, refl, ap, ◌∙◌, ap₂, arith}
use Rattle.std.specs.Option.{option_map}
use Rattle.std.proofs.lemmas.List.{length-map}
use Rattle.std.proofs.lemmas.Bool.{cond-true, lt-ltb, or_right}
use Rattle.std.proofs.lemmas.Bool.Decides.{nat_tests}
use Rattle.networks.specs.Nets.{Lock, has, lacks, out_at, is_out, lock_at, with_lock, line_stop, relined, back_stop}
use Rattle.layers.specs.Closings.{within}

-- ---- arcs below

same_test : (x n a : ℕ) → a ≤ n → ltb (min x n) a ≡ ltb x a
same_test x n a h = grind (arith, nat_tests)

module _ (n a : ℕ) (h : a ≤ n) where
  same_reach : (o : Lock) → lacks (within n o) a ≡ lacks o a
  same_reach o = ap (λ b. eqb a 0 || b) (same_test o.over n a h)

  same_out : (o : Lock) → out_at (within n o) a ≡ out_at o a
  same_out o = ap (λ b. cond b false (has a o.lines)) (same_reach o)

  pub is_out_lower : (os : List Lock) → is_out (map (within n) os) a ≡ is_out os a
  is_out_lower [] = refl
  is_out_lower (o ∷ os) = ap₂ (λ x y. cond x true y) (same_out o) (is_out_lower os)

  pub line_lower : (o : Option Lock) → line_stop a (option_map (within n) o) ≡ line_stop a o
  line_lower None = refl
  line_lower (Some o) = ap (λ b. cond b (Some (8, a)) (cond (has a o.lines) (Some (9, a)) (cond (has 0 o.lines) None (Some (11, 0))))) (same_reach o)

  pub back_lower : (o : Option Lock) → back_stop a (option_map (within n) o) ≡ back_stop a o
  back_lower None = refl
  back_lower (Some o) = ap (λ b. cond b None (Some (12, a))) (same_out o)

-- ---- arcs above those

module _ (n a : ℕ) (h : n < a) where
  beyond : (o : Lock) → lacks (within n o) a ≡ true
  beyond o = or_right (eqb a 0) _ (lt-ltb _ _ (omega arith))

  not_out : (o : Lock) → out_at (within n o) a ≡ false
  not_out o = cond-true _ _ _ (beyond o)

  pub is_out_upper : (os : List Lock) → is_out (map (within n) os) a ≡ false
  is_out_upper [] = refl
  is_out_upper (o ∷ os) = ap₂ (λ x y. cond x true y) (not_out o) (is_out_upper os)

  pub line_upper : (o : Option Lock) → line_stop a (option_map (within n) o) ≡ Some (8, a)
  line_upper None = refl
  line_upper (Some o) = cond-true _ _ _ (beyond o)

  pub back_upper : (o : Option Lock) → back_stop a (option_map (within n) o) ≡ Some (12, a)
  back_upper None = refl
  back_upper (Some o) = ap (λ b. cond b None (Some (12, a))) (not_out o)

-- ---- lock-outs by their numbers

module _ (n l : ℕ) where
  same_number : (os : List Lock) → eqb l (suc (length (map (within n) os))) ≡ eqb l (suc (length os))
  same_number os = ap (λ k. eqb l (suc k)) (length-map os (within n))

  pub lock_through : (os : List Lock) → lock_at (map (within n) os) l ≡ option_map (within n) (lock_at os l)
  lock_through [] = refl
  lock_through (o ∷ os) = ap₂ (λ b m. cond b (Some (within n o)) m) (same_number os) (lock_through os) ∙ go (eqb l (suc (length os)))
    where
      go : (b : Bool) → cond b (Some (within n o)) (option_map (within n) (lock_at os l)) ≡ option_map (within n) (cond b (Some o) (lock_at os l))
      go true = refl
      go false = refl

  pub with_through : (x y : ℕ) (os : List Lock) → map (within n) (with_lock os l (relined x y)) ≡ with_lock (map (within n) os) l (relined x y)
  with_through x y [] = refl
  with_through x y (o ∷ os) = go (eqb l (suc (length os))) ∙ ap₂ (λ b m. cond b (relined x y (within n o) ∷ map (within n) os) (within n o ∷ m)) (sym (same_number os)) (with_through x y os)
    where
      go : (b : Bool) → map (within n) (cond b (relined x y o ∷ os) (o ∷ with_lock os l (relined x y))) ≡ cond b (relined x y (within n o) ∷ map (within n) os) (within n o ∷ map (within n) (with_lock os l (relined x y)))
      go true = refl
      go false = refl
