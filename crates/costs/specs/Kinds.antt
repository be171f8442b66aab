-- What a cost kind is: costs that can be added, multiplied, negated and compared, each with a size.
use Rattle.std.specs.Prelude.{◌≡◌, ℕ, zero, suc, ◌+◌, ◌*◌, ◌≤◌, Bool, true, false, cond, not, ℤ, pos, negsuc, Some, None, Option, nat_le, unsigned_abs}
use Rattle.std.specs.Ordering.{partial_le, partial_lt}
use Rattle.std.specs.declared.cmp.Ordering.{Ordering}

-- what adding costs up takes: no order and no negative
pub record Sums (C : Type 0) : Type 0 where
  pub zero : C
  pub plus : C → C → C
  pub times : ℤ → C → C
  pub size : C → ℕ

-- the true operations of a kind: sums, with a negative and an order besides
pub record Kind (C : Type 0) : Type 0 where
  pub zero : C
  pub plus : C → C → C
  pub times : ℤ → C → C
  pub size : C → ℕ
  pub neg : C → C
  pub le : C → C → Bool

-- a kind without its order
abbrev pub sums : {C : Type 0} → Kind C → Sums C
sums K = record { zero = K.zero; plus = K.plus; times = K.times; size = K.size }

-- n equal costs added
abbrev pub copies : {C : Type 0} → Sums C → ℕ → C → C
copies S zero c = S.zero
copies S (suc n) c = S.plus c (copies S n c)

-- a less b
abbrev pub minus : {C : Type 0} → Kind C → C → C → C
minus K a b = K.plus a (K.neg b)

-- a is below b
abbrev pub less : {C : Type 0} → Kind C → C → C → Bool
less K a b = not (K.le b a)

-- the laws that need no order
pub record SumLaws {C : Type 0} (S : Sums C) : Type 0 where
  pub assoc : (a b c : C) → S.plus (S.plus a b) c ≡ S.plus a (S.plus b c)
  pub comm : (a b : C) → S.plus a b ≡ S.plus b a
  pub left : (a : C) → S.plus S.zero a ≡ a
  pub times_pos : (n : ℕ) (a : C) → S.times (pos n) a ≡ copies S n a
  pub size_plus : (a b : C) → S.size (S.plus a b) ≤ S.size a + S.size b
  pub size_times : (k : ℤ) (a : C) → S.size (S.times k a) ≡ unsigned_abs k * S.size a

-- all laws of a kind: the order is total, only equal costs tie, and adding one cost to both sides keeps it
pub record Laws {C : Type 0} (K : Kind C) : Type 0 where
  pub adds : SumLaws (sums K)
  pub cancels : (a : C) → K.plus a (K.neg a) ≡ K.zero
  pub times_neg : (n : ℕ) (a : C) → K.times (negsuc n) a ≡ K.neg (copies (sums K) (suc n) a)
  pub total : (a b : C) → K.le a b ≡ false → K.le b a ≡ true
  pub antisym : (a b : C) → K.le a b ≡ true → K.le b a ≡ true → a ≡ b
  pub trans : (a b c : C) → K.le a b ≡ true → K.le b c ≡ true → K.le a c ≡ true
  pub mono : (a b c : C) → K.le a b ≡ true → K.le (K.plus a c) (K.plus b c) ≡ true

-- the comparisons of a type tell the kind's order
pub record Ordered {C : Type 0} (K : Kind C) (partial_cmp : C → C → Option Ordering) : Type 0 where
  pub at_most : (a b : C) → partial_le partial_cmp a b ≡ K.le a b
  pub below : (a b : C) → partial_lt partial_cmp a b ≡ less K a b

-- the largest size that an operation answers
abbrev pub size_limit : ℕ
size_limit = 4000000000000000

-- what an operation answers for its true outcome: absent exactly when its size is above the limit
abbrev pub answered : {C : Type 0} → (C → ℕ) → C → Option C
answered size c = cond (nat_le (size c) size_limit) (Some c) None
