-- The two kinds of costs: one whole number, and two of which the first decides.
use Rattle.std.specs.Prelude.{max, true, false, cond, ℤ, pos, ◌+ℤ◌, ◌*ℤ◌, neg_ℤ, Some, None, Option, int_le, int_lt, unsigned_abs}
use Rattle.costs.specs.declared.Plain.{Plain}
use Rattle.costs.specs.declared.TwoTier.{TwoTier}
use Rattle.costs.specs.Kinds.{Kind}

abbrev pub units : ℤ → Plain
units n = record { units = n }

-- one whole number; its size is its absolute value
abbrev pub plain_kind : Kind Plain
plain_kind = record {
  zero = units (pos 0);
  plus = λ a b. units (a.units +ℤ b.units);
  times = λ k a. units (k *ℤ a.units);
  size = λ a. unsigned_abs a.units;
  neg = λ a. units (neg_ℤ a.units);
  le = λ a b. int_le a.units b.units;
}

abbrev pub tiers : ℤ → ℤ → TwoTier
tiers a b = record { first = a; second = b }

-- two tiers, if both are there
abbrev pub joined : Option ℤ → Option ℤ → Option TwoTier
joined None b = None
joined (Some a) None = None
joined (Some a) (Some b) = Some (tiers a b)

-- two whole numbers: the first decides, the second breaks ties; the size is the larger absolute value
abbrev pub two_tier_kind : Kind TwoTier
two_tier_kind = record {
  zero = tiers (pos 0) (pos 0);
  plus = λ a b. tiers (a.first +ℤ b.first) (a.second +ℤ b.second);
  times = λ k a. tiers (k *ℤ a.first) (k *ℤ a.second);
  size = λ a. max (unsigned_abs a.first) (unsigned_abs a.second);
  neg = λ a. tiers (neg_ℤ a.first) (neg_ℤ a.second);
  le = λ a b. cond (int_lt a.first b.first) true (cond (int_lt b.first a.first) false (int_le a.second b.second));
}
