-- What the laws of a cost kind give.
use Rattle.std.proofs.Common.{◌≡◌, ℕ, zero, suc, ◌+◌, ◌≤◌, true, false, ℤ, pos, negsuc, ◌+ℤ◌, ◌-ℤ◌, neg_ℤ, nat_abs, ◌≤ℤ◌, sym, ap, ◌∙◌, subst, ap₂, subst₂, arith}
use lib.IntN.{+ℤ_idl, +ℤ_invl, suc_ℤ, suc_ℤ-+ℤ}
use borrow.Author.Differences.{ints}
use Rattle.costs.specs.Kinds.{Kind, Laws, sums, copies, minus}
use Rattle.flows.proofs.ArcSums.{costs, left_comm as monoid_left_comm, swap as monoid_swap}

-- a fact that holds of 0, and of k where of k + 1 and the other way, holds of every integer
by_steps : (P : ℤ → Type 0) → P (pos 0) → ((k : ℤ) → P k → P (suc_ℤ k)) → ((k : ℤ) → P (suc_ℤ k) → P k) → (k : ℤ) → P k
by_steps P z u d (pos zero) = z
by_steps P z u d (pos (suc n)) = u (pos n) (by_steps P z u d (pos n))
by_steps P z u d (negsuc zero) = d (negsuc zero) z
by_steps P z u d (negsuc (suc n)) = d (negsuc (suc n)) (by_steps P z u d (negsuc n))

module _ {C : Type 0} (K : Kind C) (laws : Laws K) where
  pub assoc : (a b c : C) → K.plus (K.plus a b) c ≡ K.plus a (K.plus b c)
  assoc = laws.adds.assoc

  pub comm : (a b : C) → K.plus a b ≡ K.plus b a
  comm = laws.adds.comm

  pub left : (a : C) → K.plus K.zero a ≡ a
  left = laws.adds.left

  pub right : (a : C) → K.plus a K.zero ≡ a
  right a = comm a K.zero ∙ left a

  pub left_comm : (a b c : C) → K.plus a (K.plus b c) ≡ K.plus b (K.plus a c)
  left_comm = monoid_left_comm (costs K laws)

  pub swap : (a b c d : C) → K.plus (K.plus a b) (K.plus c d) ≡ K.plus (K.plus a c) (K.plus b d)
  swap = monoid_swap (costs K laws)

  pub right_comm : (a b c : C) → K.plus (K.plus a b) c ≡ K.plus (K.plus a c) b
  right_comm a b c = simp (assoc, comm)

  -- b added and taken off again, and the other way
  pub undo : (a b : C) → K.plus (K.plus a b) (K.neg b) ≡ a
  undo a b = assoc a b (K.neg b) ∙ ap (K.plus a) (laws.cancels b) ∙ right a

  pub back : (a b : C) → K.plus (minus K a b) b ≡ a
  back a b = assoc a (K.neg b) b ∙ ap (K.plus a) (comm (K.neg b) b ∙ laws.cancels b) ∙ right a

  -- what is added on both sides can be left out
  pub cancel : (a b c : C) → K.plus a c ≡ K.plus b c → a ≡ b
  cancel a b c e = sym (undo a c) ∙ ap (λ x. K.plus x (K.neg c)) e ∙ undo b c

  pub cancel_left : (c a b : C) → K.plus c a ≡ K.plus c b → a ≡ b
  cancel_left c a b e = cancel a b c (comm a c ∙ e ∙ comm c b)

  pub cancel_le : (a b c : C) → K.le (K.plus a c) (K.plus b c) ≡ true → K.le a b ≡ true
  cancel_le a b c h = subst₂ (λ x y. K.le x y ≡ true) (undo a c) (undo b c) (laws.mono (K.plus a c) (K.plus b c) (K.neg c) h)

  pub le_refl : (a : C) → K.le a a ≡ true
  le_refl a = let h = laws.total a a in grind arith

  pub add_le : (a b c d : C) → K.le a b ≡ true → K.le c d ≡ true → K.le (K.plus a c) (K.plus b d) ≡ true
  add_le a b c d h k = laws.trans (K.plus a c) (K.plus b c) (K.plus b d) (laws.mono a b c h) (subst₂ (λ x y. K.le x y ≡ true) (comm c b) (comm d b) (laws.mono c d b k))

  -- a is at most b, and b is below c: a is below c
  pub below : (a b c : C) → K.le a b ≡ true → K.le c b ≡ false → K.le c a ≡ false
  below a b c h s = let t = laws.trans c a b in grind arith

  -- a is at most b, and a is above c: b is above c
  pub above : (a b c : C) → K.le a b ≡ true → K.le a c ≡ false → K.le b c ≡ false
  above a b c h s = let t = laws.trans a b c in grind arith

  pub cancel_less : (a b c : C) → K.le (K.plus b c) (K.plus a c) ≡ false → K.le b a ≡ false
  cancel_less a b c s = let t = laws.mono b a c in grind arith

  -- multiples
  pub times_zero : (a : C) → K.times (pos 0) a ≡ K.zero
  times_zero a = laws.adds.times_pos 0 a

  pub times_one : (a : C) → K.times (pos 1) a ≡ a
  times_one a = laws.adds.times_pos 1 a ∙ right a

  times_suc : (k : ℤ) (a : C) → K.times (suc_ℤ k) a ≡ K.plus a (K.times k a)
  times_suc (pos n) a = laws.adds.times_pos (suc n) a ∙ ap (K.plus a) (sym (laws.adds.times_pos n a))
  times_suc (negsuc n) a = sym (ap (K.plus a) (laws.times_neg n a) ∙ peel (copies (sums K) n a) a ∙ lower n)
    where
      peel : (x y : C) → K.plus y (K.neg (K.plus y x)) ≡ K.neg x
      peel x y = cancel (K.plus y (K.neg (K.plus y x))) (K.neg x) x
          (assoc y (K.neg (K.plus y x)) x ∙ left_comm y (K.neg (K.plus y x)) x ∙ comm (K.neg (K.plus y x)) (K.plus y x)
          ∙ laws.cancels (K.plus y x) ∙ sym (comm (K.neg x) x ∙ laws.cancels x))

      lower : (n : ℕ) → K.neg (copies (sums K) n a) ≡ K.times (suc_ℤ (negsuc n)) a
      lower zero = sym (left (K.neg K.zero)) ∙ laws.cancels K.zero ∙ sym (laws.adds.times_pos 0 a)
      lower (suc n) = sym (laws.times_neg n a)

  pub times_add : (j k : ℤ) (a : C) → K.times (j +ℤ k) a ≡ K.plus (K.times j a) (K.times k a)
  times_add j k a = by_steps (λ z. K.times (z +ℤ k) a ≡ K.plus (K.times z a) (K.times k a))
      (ap (λ z. K.times z a) (+ℤ_idl k) ∙ sym (ap (λ x. K.plus x (K.times k a)) (times_zero a) ∙ left (K.times k a)))
      (λ z h. left_side z ∙ ap (K.plus a) h ∙ sym (right_side z))
      (λ z h. cancel_left a (K.times (z +ℤ k) a) (K.plus (K.times z a) (K.times k a)) (sym (left_side z) ∙ h ∙ right_side z)) j
    where
      left_side : (z : ℤ) → K.times (suc_ℤ z +ℤ k) a ≡ K.plus a (K.times (z +ℤ k) a)
      left_side z = ap (λ y. K.times y a) (suc_ℤ-+ℤ z k) ∙ times_suc (z +ℤ k) a

      right_side : (z : ℤ) → K.plus (K.times (suc_ℤ z) a) (K.times k a) ≡ K.plus a (K.plus (K.times z a) (K.times k a))
      right_side z = ap (λ x. K.plus x (K.times k a)) (times_suc z a) ∙ assoc a (K.times z a) (K.times k a)

  pub times_plus : (k : ℤ) (a b : C) → K.times k (K.plus a b) ≡ K.plus (K.times k a) (K.times k b)
  times_plus k a b = by_steps (λ z. K.times z (K.plus a b) ≡ K.plus (K.times z a) (K.times z b))
      (times_zero (K.plus a b) ∙ sym (left K.zero) ∙ sym (ap₂ K.plus (times_zero a) (times_zero b)))
      (λ z h. times_suc z (K.plus a b) ∙ ap (K.plus (K.plus a b)) h ∙ sym (right_side z))
      (λ z h. cancel_left (K.plus a b) (K.times z (K.plus a b)) (K.plus (K.times z a) (K.times z b)) (sym (times_suc z (K.plus a b)) ∙ h ∙ right_side z)) k
    where
      right_side : (z : ℤ) → K.plus (K.times (suc_ℤ z) a) (K.times (suc_ℤ z) b) ≡ K.plus (K.plus a b) (K.plus (K.times z a) (K.times z b))
      right_side z = ap₂ K.plus (times_suc z a) (times_suc z b) ∙ swap a (K.times z a) b (K.times z b)

  -- k (a − b), with k b put back
  pub times_minus : (k : ℤ) (a b : C) → K.plus (K.times k (minus K a b)) (K.times k b) ≡ K.times k a
  times_minus k a b = sym (times_plus k (minus K a b) b) ∙ ap (K.times k) (back a b)

  -- k and −k times a cost cancel
  pub times_cancel : (k : ℤ) (a : C) → K.plus (K.times k a) (K.times (neg_ℤ k) a) ≡ K.zero
  times_cancel k a = comm (K.times k a) (K.times (neg_ℤ k) a) ∙ sym (times_add (neg_ℤ k) k a) ∙ ap (λ z. K.times z a) (+ℤ_invl k) ∙ times_zero a

  copies_up : (c : C) → K.le K.zero c ≡ true → (n : ℕ) → K.le K.zero (copies (sums K) n c) ≡ true
  copies_up c h zero = le_refl K.zero
  copies_up c h (suc n) = subst (λ x. K.le x (K.plus c (copies (sums K) n c)) ≡ true) (left K.zero) (add_le K.zero c K.zero (copies (sums K) n c) h (copies_up c h n))

  copies_down : (c : C) → K.le c K.zero ≡ true → (n : ℕ) → K.le (copies (sums K) n c) K.zero ≡ true
  copies_down c h zero = le_refl K.zero
  copies_down c h (suc n) = subst (λ x. K.le (K.plus c (copies (sums K) n c)) x ≡ true) (left K.zero) (add_le c K.zero (copies (sums K) n c) K.zero h (copies_down c h n))

  times_more : (j k : ℤ) (c : C) → j ≤ℤ k → K.plus (K.times j c) (copies (sums K) (nat_abs (k -ℤ j)) c) ≡ K.times k c
  times_more j k c h = ap (K.plus (K.times j c)) (sym (laws.adds.times_pos (nat_abs (k -ℤ j)) c)) ∙ sym (times_add j (pos (nat_abs (k -ℤ j))) c) ∙ ap (λ z. K.times z c) (omega (arith, ints))

  -- more of a cost that is not below zero is no less, more of one that is not above zero is no more
  pub times_up : (j k : ℤ) (c : C) → K.le K.zero c ≡ true → j ≤ℤ k → K.le (K.times j c) (K.times k c) ≡ true
  times_up j k c h l = subst₂ (λ x y. K.le x y ≡ true) (right (K.times j c)) (times_more j k c l)
      (add_le (K.times j c) (K.times j c) K.zero (copies (sums K) (nat_abs (k -ℤ j)) c) (le_refl (K.times j c)) (copies_up c h (nat_abs (k -ℤ j))))

  pub times_down : (j k : ℤ) (c : C) → K.le c K.zero ≡ true → j ≤ℤ k → K.le (K.times k c) (K.times j c) ≡ true
  times_down j k c h l = subst₂ (λ x y. K.le x y ≡ true) (times_more j k c l) (right (K.times j c))
      (add_le (K.times j c) (K.times j c) (copies (sums K) (nat_abs (k -ℤ j)) c) K.zero (le_refl (K.times j c)) (copies_down c h (nat_abs (k -ℤ j))))

  -- negatives and the order
  pub neg_down : (a : C) → K.le K.zero a ≡ true → K.le (K.neg a) K.zero ≡ true
  neg_down a h = cancel_le (K.neg a) K.zero a (subst₂ (λ x y. K.le x y ≡ true) (sym (comm (K.neg a) a ∙ laws.cancels a)) (sym (left a)) h)

  pub neg_up : (a : C) → K.le a K.zero ≡ true → K.le K.zero (K.neg a) ≡ true
  neg_up a h = cancel_le K.zero (K.neg a) a (subst₂ (λ x y. K.le x y ≡ true) (sym (left a)) (sym (comm (K.neg a) a ∙ laws.cancels a)) h)

  -- sizes
  pub size_zero : K.size K.zero ≡ 0
  size_zero = ap K.size (sym (times_zero K.zero)) ∙ laws.adds.size_times (pos 0) K.zero ∙ omega arith

  pub size_neg : (a : C) → K.size (K.neg a) ≡ K.size a
  size_neg a = sym (ap K.size (laws.times_neg 0 a ∙ ap K.neg (right a))) ∙ laws.adds.size_times (negsuc 0) a ∙ omega arith

  pub size_minus : (a b : C) → K.size (minus K a b) ≤ K.size a + K.size b
  size_minus a b = omega (arith, laws.adds.size_plus a (K.neg b), size_neg b)

  -- of a reduced cost, by those of the cost and the prices
  pub size_reduced : (c f t : C) → K.size (minus K (K.plus c f) t) ≤ K.size c + K.size f + K.size t
  size_reduced c f t = omega (arith, size_minus (K.plus c f) t, laws.adds.size_plus c f)
