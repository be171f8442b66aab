-- The nodes that are not inside have their old prices with one shift added; what that says of sizes.
-- It serves every search that raises the prices of the nodes not inside by one amount at a time.
use Rattle.std.proofs.Common.{◌≡◌, ℕ, ◌+◌, ◌≤◌, Bool, true, false, cond, List, sym, refl, ap, ◌∙◌, subst, arith}
use Rattle.costs.specs.Kinds.{Kind, Laws, minus}
use Rattle.flows.specs.Kilter.{price}
use Rattle.flows.specs.searching.Prices.{Raised, SmallInside}
use Rattle.flows.proofs.Group.{assoc, comm, right, back, cancel, size_minus}

-- the prices of the nodes of 1 to N that are not inside are the old ones with d added
abbrev pub Shifted : {C : Type 0} → Kind C → ℕ → List C → (ℕ → Bool) → List C → C → Type 0
Shifted K N old inside ps d = (n : ℕ) → 1 ≤ n → n ≤ N → inside n ≡ false → price K ps n ≡ K.plus (price K old n) d

-- no price has a size above b
abbrev pub SmallPrices : {C : Type 0} → Kind C → ℕ → List C → ℕ → Type 0
SmallPrices K N ps b = (n : ℕ) → 1 ≤ n → n ≤ N → K.size (price K ps n) ≤ b

module _ {C : Type 0} (K : Kind C) (laws : Laws K) (N : ℕ) (old : List C) where
  pub not_shifted : (inside : ℕ → Bool) → Shifted K N old inside old K.zero
  not_shifted inside n l h out = sym (right K laws (price K old n))

  -- more nodes inside
  pub still_shifted : (p q : ℕ → Bool) (ps : List C) (d : C) → ((n : ℕ) → q n ≡ false → p n ≡ false) → Shifted K N old p ps d → Shifted K N old q ps d
  still_shifted p q ps d fewer h n l m out = h n l m (fewer n out)

  module _ (inside : ℕ → Bool) where
    module _ (ps qs : List C) (d e : C) (shifted : Shifted K N old inside ps d) (raised : Raised K N e inside ps qs) where
      -- raised once more
      pub more_shifted : Shifted K N old inside qs (K.plus d e)
      more_shifted n l h out = raised n l h ∙ ap (λ b. cond b (price K ps n) (K.plus (price K ps n) e)) out
          ∙ ap (λ z. K.plus z e) (shifted n l h out) ∙ assoc K laws (price K old n) d e

    pub raised_inside : (ps qs : List C) (e : C) → Raised K N e inside ps qs → (n : ℕ) → 1 ≤ n → n ≤ N → inside n ≡ true → price K qs n ≡ price K ps n
    raised_inside ps qs e raised n l h i = raised n l h ∙ ap (λ b. cond b (price K ps n) (K.plus (price K ps n) e)) i

    pub raised_outside : (ps qs : List C) (e : C) → Raised K N e inside ps qs → (n : ℕ) → 1 ≤ n → n ≤ N → inside n ≡ false → price K qs n ≡ K.plus (price K ps n) e
    raised_outside ps qs e raised n l h o = raised n l h ∙ ap (λ b. cond b (price K ps n) (K.plus (price K ps n) e)) o

    -- the shift is what any price outside has changed by, so it is small where one such price is
    shift_is : (ps : List C) (d : C) (n : ℕ) → price K ps n ≡ K.plus (price K old n) d → d ≡ minus K (price K ps n) (price K old n)
    shift_is ps d n e = cancel K laws d (minus K (price K ps n) (price K old n)) (price K old n)
        (comm K laws d (price K old n) ∙ sym e ∙ sym (back K laws (price K ps n) (price K old n)))

    pub shift_small : (ps : List C) (d : C) → Shifted K N old inside ps d → (found here n : ℕ) → 1 ≤ n → n ≤ N → inside n ≡ false → SmallPrices K N old found → K.size (price K ps n) ≤ here → K.size d ≤ here + found
    shift_small ps d shifted found here n l h out small s = subst (λ z. K.size z ≤ here + found) (sym (shift_is ps d n (shifted n l h out)))
        (omega (arith, size_minus K laws (price K ps n) (price K old n), small n l h))

    -- every price is small where those inside, the old ones and the shift are
    pub all_small : (ps : List C) (d : C) → Shifted K N old inside ps d → (found near shift : ℕ) → SmallPrices K N old found → SmallInside K N inside ps near → K.size d ≤ shift → SmallPrices K N ps (near + (found + shift))
    all_small ps d shifted found near shift small near-small s n l h = go (inside n) refl
      where
        go : (b : Bool) → inside n ≡ b → K.size (price K ps n) ≤ near + (found + shift)
        go true i = omega (arith, near-small n l h i)
        go false o = subst (λ z. K.size z ≤ near + (found + shift)) (sym (shifted n l h o)) (omega (arith, laws.adds.size_plus (price K old n) d, small n l h))
