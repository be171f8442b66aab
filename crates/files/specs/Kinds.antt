-- Costs as the numbers that a file writes them by.
use Rattle.std.specs.Prelude.{◌≡◌, ℕ, ◌≤◌, max, cond, ℤ, pos, nat_lt, unsigned_abs}
use Rattle.costs.specs.declared.Plain.{Plain}
use Rattle.costs.specs.declared.TwoTier.{TwoTier}

-- how many numbers a cost has, the cost of two numbers, and the numbers of a cost
pub record Tiers (C : Type 0) : Type 0 where
  pub count : ℕ
  pub cost : ℤ → ℤ → C
  pub first : C → ℤ
  pub second : C → ℤ

-- there are 1 or 2 numbers; a cost and its numbers say the same, and with one number the second is 0
pub record TierLaws {C : Type 0} (t : Tiers C) : Type 0 where
  pub some : 1 ≤ t.count
  pub few : t.count ≤ 2
  pub whole : (c : C) → t.cost (t.first c) (t.second c) ≡ c
  pub first_is : (a b : ℤ) → t.first (t.cost a b) ≡ a
  pub second_is : (a b : ℤ) → t.second (t.cost a b) ≡ cond (nat_lt 1 t.count) b (pos 0)

-- the size of a cost is that of its largest number
abbrev pub Sized : {C : Type 0} → (C → ℕ) → Tiers C → Type 0
Sized {C} size t = (c : C) → size c ≡ max (unsigned_abs (t.first c)) (unsigned_abs (t.second c))

-- one number
abbrev pub plain_tiers : Tiers Plain
plain_tiers = record { count = 1; cost = λ a b. record { units = a }; first = λ c. c.units; second = λ c. pos 0 }

-- two numbers
abbrev pub two_tiers : Tiers TwoTier
two_tiers = record { count = 2; cost = λ a b. record { first = a; second = b }; first = λ c. c.first; second = λ c. c.second }
