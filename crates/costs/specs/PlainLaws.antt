-- The laws of costs that are one whole number.
use Rattle.std.specs.Prelude.{◌≡◌, ℕ, zero, suc, pos, ◌*ℤ◌}
use Rattle.std.proofs.Common.{sym, ap, arith}
use Rattle.std.proofs.lemmas.Int.{ints}
use Rattle.costs.specs.declared.Plain.{Plain}
use Rattle.costs.specs.Models.{units, plain_kind}
use Rattle.costs.specs.Kinds.{SumLaws, Laws, sums, copies}
use Rattle.costs.specs.Absolute.{abs_times}

copies_is : (n : ℕ) (a : Plain) → (copies (sums plain_kind) n a).units ≡ pos n *ℤ a.units
copies_is zero a = omega (arith, ints)
copies_is (suc n) a = let e : (copies (sums plain_kind) n a).units ≡ pos n *ℤ a.units = copies_is n a in omega (arith, ints)

adds : SumLaws (sums plain_kind)
adds = record {
  assoc = λ a b c. ap units (omega (arith, ints));
  comm = λ a b. ap units (omega (arith, ints));
  left = λ a. ap units (omega (arith, ints));
  times_pos = λ n a. ap units (sym (copies_is n a));
  size_plus = λ a b. omega (arith, ints);
  size_times = λ k a. abs_times k a.units;
}

pub plain_laws : Laws plain_kind
plain_laws = record {
  adds = adds;
  cancels = λ a. ap units (omega (arith, ints));
  times_neg = λ n a. ap units (let e : (copies (sums plain_kind) (suc n) a).units ≡ pos (suc n) *ℤ a.units = copies_is (suc n) a in omega (arith, ints));
  total = λ a b h. sym (omega (arith, ints));
  antisym = λ a b h k. ap units (omega (arith, ints));
  trans = λ a b c h k. sym (omega (arith, ints));
  mono = λ a b c h. sym (omega (arith, ints));
}
