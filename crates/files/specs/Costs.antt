-- The cost in the line of an arc.
use Rattle.std.specs.Prelude.{ℕ, cond, ℤ, pos, negsuc, Ok, codes, nat_lt}
use Rattle.files.specs.Kinds.{Tiers}
use Rattle.lines.specs.Readings.{Reading, Outcome, then}
use Rattle.lines.specs.Lines.{expects, starts, value_in}

-- a number of a cost has a size of at most 1,000,000
abbrev pub tier_in : Reading → Outcome ℤ
tier_in r = value_in (negsuc 999999) (pos 1000000) r

-- the second number of a cost, or 0 where it has one
abbrev pub second_in : ℕ → Reading → Outcome ℤ
second_in tiers r = cond (nat_lt tiers 2) (Ok (pos 0, r)) (then (expects (codes " ") r) (λ _ s. tier_in s))

-- the cost of its numbers
abbrev pub numbers_in : {C : Type 0} → Tiers C → Reading → Outcome C
numbers_in t r = then (tier_in r) (λ first s. then (second_in t.count s) (λ second u. Ok (t.cost first second, u)))

-- a cost in brackets after its name
abbrev pub cost_in : {C : Type 0} → Tiers C → Reading → Outcome C
cost_in t r = then (starts (codes "cost") r) (λ _ s. then (numbers_in t s) (λ c u. then (expects (codes ")") u) (λ _ v. Ok (c, v))))
