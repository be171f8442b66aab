-- The size of what one arc's flow costs.
use Rattle.std.proofs.Common.{◌*◌, ◌≤◌, ℤ, nat_abs, mul-le-mul_left, arith}
use Rattle.costs.specs.Kinds.{Kind, Laws}

module _ {C : Type 0} (K : Kind C) (laws : Laws K) where
  pub size_multiple : (f : ℤ) (a : C) → nat_abs f ≤ 1000000 → K.size a ≤ 1000000 → K.size (K.times f a) ≤ 1000000000000
  size_multiple f a h k =
      let e = laws.adds.size_times f a in
      let p : nat_abs f * K.size a ≤ nat_abs f * 1000000 = mul-le-mul_left (nat_abs f) k in
      omega (arith, e, p)
