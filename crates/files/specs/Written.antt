-- The laws of the two kinds as files write them.
use Rattle.std.specs.Prelude.{refl}
use Rattle.std.proofs.Common.{arith}
use Rattle.costs.specs.Models.{plain_kind, two_tier_kind}
use Rattle.files.specs.Kinds.{TierLaws, Sized, plain_tiers, two_tiers}

pub plain_written : TierLaws plain_tiers
plain_written = record { some = omega arith; few = omega arith; whole = λ c. refl; first_is = λ a b. refl; second_is = λ a b. refl }

pub two_tier_written : TierLaws two_tiers
two_tier_written = record { some = omega arith; few = omega arith; whole = λ c. refl; first_is = λ a b. refl; second_is = λ a b. refl }

pub plain_sized : Sized plain_kind.size plain_tiers
plain_sized c = omega arith

pub two_tier_sized : Sized two_tier_kind.size two_tiers
two_tier_sized c = refl
