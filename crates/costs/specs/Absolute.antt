-- Absolute values of negatives, products and sums.
use Rattle.std.specs.Prelude.{◌≡◌, zero, suc, ◌*◌, ℤ, pos, negsuc, ◌*ℤ◌, neg_ℤ, unsigned_abs, refl}

pub abs_neg : (z : ℤ) → unsigned_abs (neg_ℤ z) ≡ unsigned_abs z
abs_neg (pos zero) = refl
abs_neg (pos (suc n)) = refl
abs_neg (negsuc n) = refl

pub abs_times : (j k : ℤ) → unsigned_abs (j *ℤ k) ≡ unsigned_abs j * unsigned_abs k
abs_times (pos a) (pos b) = refl
abs_times (pos a) (negsuc b) = abs_neg (pos (a * suc b))
abs_times (negsuc a) (pos b) = abs_neg (pos (suc a * b))
abs_times (negsuc a) (negsuc b) = refl
