-- The laws of costs that are two whole numbers, of which the first decides.
use Rattle.std.specs.Prelude.{◌≡◌, ℕ, zero, suc, ◌*◌, ◌<◌, ◌≤◌, max, ◌⊎◌, pos, ◌*ℤ◌, unsigned_abs}
use Rattle.std.proofs.Common.{sym, ap, ap₂, ◌∙◌, arith, mul-le-mul_left, inl, inr}
use Rattle.std.proofs.lemmas.Bool.{cases_lt}
use Rattle.std.proofs.lemmas.Int.{ints}
use Rattle.costs.specs.declared.TwoTier.{TwoTier}
use Rattle.costs.specs.Models.{tiers, two_tier_kind}
use Rattle.costs.specs.Kinds.{SumLaws, Laws, sums, copies}
use Rattle.costs.specs.Absolute.{abs_times}

copies_is : (n : ℕ) (a : TwoTier) → copies (sums two_tier_kind) n a ≡ tiers (pos n *ℤ a.first) (pos n *ℤ a.second)
copies_is zero a = ap₂ tiers (omega (arith, ints)) (omega (arith, ints))
copies_is (suc n) a = ap (two_tier_kind.plus a) (copies_is n a) ∙ ap₂ tiers (omega (arith, ints)) (omega (arith, ints))

max_times : (k a b : ℕ) → max (k * a) (k * b) ≡ k * max a b
max_times k a b = go (cases_lt a b)
  where
    go : (a < b) ⊎ (b ≤ a) → max (k * a) (k * b) ≡ k * max a b
    go (inl h) = let w : a ≤ b = omega arith in let l : k * a ≤ k * b = mul-le-mul_left k w in let e : max a b ≡ b = omega arith in let d : max (k * a) (k * b) ≡ k * b = omega arith in d ∙ ap (λ n. k * n) (sym e)
    go (inr h) = let l : k * b ≤ k * a = mul-le-mul_left k h in let e : max a b ≡ a = omega arith in let d : max (k * a) (k * b) ≡ k * a = omega arith in d ∙ ap (λ n. k * n) (sym e)

adds : SumLaws (sums two_tier_kind)
adds = record {
  assoc = λ a b c. ap₂ tiers (omega (arith, ints)) (omega (arith, ints));
  comm = λ a b. ap₂ tiers (omega (arith, ints)) (omega (arith, ints));
  left = λ a. ap₂ tiers (omega (arith, ints)) (omega (arith, ints));
  times_pos = λ n a. sym (copies_is n a);
  size_plus = λ a b. omega (arith, ints);
  size_times = λ k a. ap₂ max (abs_times k a.first) (abs_times k a.second) ∙ max_times (unsigned_abs k) (unsigned_abs a.first) (unsigned_abs a.second);
}

pub two_tier_laws : Laws two_tier_kind
two_tier_laws = record {
  adds = adds;
  cancels = λ a. ap₂ tiers (omega (arith, ints)) (omega (arith, ints));
  times_neg = λ n a. ap₂ tiers (omega (arith, ints)) (omega (arith, ints)) ∙ ap two_tier_kind.neg (sym (copies_is (suc n) a));
  total = λ a b h. grind (arith, ints);
  antisym = λ a b h k. grind (arith, ints);
  trans = λ a b c h k. grind (arith, ints);
  mono = λ a b c h. grind (arith, ints);
}
