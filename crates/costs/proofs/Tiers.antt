-- Two answers side by side are the answer of the pair.
use Rattle.std.proofs.Common.{◌≡◌, ℤ, nat_abs, arith}
use Rattle.std.proofs.lemmas.Bool.Decides.{nat_tests}
use Rattle.costs.specs.Models.{tiers, joined, two_tier_kind}
use Rattle.costs.specs.Kinds.{answered}

pub joined_answered : (x y : ℤ) → joined (answered nat_abs x) (answered nat_abs y) ≡ answered two_tier_kind.size (tiers x y)
joined_answered x y = grind (arith, nat_tests)
