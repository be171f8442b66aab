-- How costs are printed.
use Rattle.std.specs.Prelude.{ℕ, List, ◌++◌, codes}
use Rattle.std.specs.Fmt.{signed_decimal}
use Rattle.costs.specs.declared.Plain.{Plain}
use Rattle.costs.specs.declared.TwoTier.{TwoTier}

-- the number
abbrev pub plain_text : Plain → List ℕ
plain_text c = signed_decimal c.units

-- the number that decides, a blank, and the other
abbrev pub two_tier_text : TwoTier → List ℕ
two_tier_text c = signed_decimal c.first ++ codes " " ++ signed_decimal c.second
