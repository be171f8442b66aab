-- Powers of ten.
use Rattle.std.proofs.Common.{ℕ, ◌^◌, ◌≤◌, lit<}
use native.Mathlib.Nat.{pow-le-pow_right}

pub most_tens : (i k : ℕ) → i ≤ k → 10 ^ i ≤ 10 ^ k
most_tens i k h = pow-le-pow_right (lit< tt) h
