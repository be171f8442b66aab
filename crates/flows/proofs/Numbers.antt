-- The kilter number of one arc: u tells that its reduced cost is not below zero, d that it is not above.
use Rattle.std.proofs.Common.{◌≡◌, ℕ, ◌+◌, ◌-◌, ◌*◌, ◌<◌, ◌≤◌, Bool, true, false, cond, not, ◌&&◌, ◌||◌, ◌⊎◌, ℤ, ◌-ℤ◌, nat_abs, ◌≤ℤ◌, ◌<ℤ◌, inl, inr, arith}
use lib.Signed.{lt_z}
use borrow.Author.Differences.{ints, up, down}
use Rattle.networks.specs.Limits.{flow_limit}
use Rattle.flows.specs.Flows.{outside_of}

abbrev pub number : Bool → Bool → ℤ → ℤ → ℤ → ℕ
number u d lo hi f = cond (not u) (nat_abs (hi -ℤ f)) (cond (not d) (nat_abs (f -ℤ lo)) (outside_of lo hi f))

-- out of kilter, by the four tests
abbrev pub off : Bool → Bool → ℤ → ℤ → ℤ → Bool
off u d lo hi f = lt_z f lo || (lt_z hi f || ((not u && lt_z f hi) || (not d && lt_z lo f)))

-- the distance without tests, for omega
pub gap_is : (lo hi f : ℤ) → lo ≤ℤ hi → outside_of lo hi f ≡ ((up lo + down f) - (up f + down lo)) + ((up f + down hi) - (up hi + down f))
gap_is lo hi f h = grind (arith, ints)

-- f gives way to g: neither number nor distance rises, and where the distance stays the change is one that the reduced cost wants
pub record Eases (u d : Bool) (lo hi f g : ℤ) : Type 0 where
  pub number_falls : number u d lo hi g ≤ number u d lo hi f
  pub gap_falls : outside_of lo hi g ≤ outside_of lo hi f
  pub wanted : outside_of lo hi g ≡ outside_of lo hi f → ((f ≤ℤ g) × (d ≡ true)) ⊎ ((g ≤ℤ f) × (u ≡ true))

-- where f was out of kilter that way, the number falls
pub record Mends (u d : Bool) (lo hi f g : ℤ) : Type 0 where
  pub number_less : number u d lo hi g < number u d lo hi f
  pub wanted : (outside_of lo hi g < outside_of lo hi f) ⊎ (((f <ℤ g) × (u ≡ false)) ⊎ ((g <ℤ f) × (d ≡ false)))

module _ (lo hi f g : ℤ) (fits : lo ≤ℤ hi) where
  -- run along, by at most the room
  pub along_eases : (u d : Bool) → f <ℤ g → g ≤ℤ cond d hi lo → Eases u d lo hi f g
  along_eases u d m r =
      let a = gap_is lo hi f fits in
      let b = gap_is lo hi g fits in
      record { number_falls = grind (arith, ints); gap_falls = grind (arith, ints); wanted = λ e. inl (omega (arith, ints), grind (arith, ints)) }

  -- run against, by at most the room
  pub against_eases : (u d : Bool) → g <ℤ f → cond u lo hi ≤ℤ g → Eases u d lo hi f g
  against_eases u d m r =
      let a = gap_is lo hi f fits in
      let b = gap_is lo hi g fits in
      record { number_falls = grind (arith, ints); gap_falls = grind (arith, ints); wanted = λ e. inr (omega (arith, ints), grind (arith, ints)) }

  -- an arc below its bounds, or of a reduced cost below zero, run along
  pub along_mends : (u d : Bool) → f <ℤ g → g ≤ℤ cond d hi lo → (f <ℤ lo) ⊎ (u ≡ false) → Mends u d lo hi f g
  along_mends u d m r w =
      let a = gap_is lo hi f fits in
      let b = gap_is lo hi g fits in
      record { number_less = grind (arith, ints); wanted = grind (arith, ints) }

  -- an arc above its bounds, or of a reduced cost above zero, run against
  pub against_mends : (u d : Bool) → (d ≡ false → u ≡ true) → g <ℤ f → cond u lo hi ≤ℤ g → (hi <ℤ f) ⊎ (d ≡ false) → Mends u d lo hi f g
  against_mends u d one m r w =
      let a = gap_is lo hi f fits in
      let b = gap_is lo hi g fits in
      record { number_less = grind (arith, ints); wanted = grind (arith, ints) }

-- the four tests fail: within the bounds, at hi where the reduced cost is below zero, at lo where it is above
pub kilter_parts : (u d : Bool) (lo hi f : ℤ) → off u d lo hi f ≡ false → (lo ≤ℤ f) × (f ≤ℤ hi) × (u ≡ false → f ≡ hi) × (d ≡ false → f ≡ lo)
kilter_parts u d lo hi f e = (grind (arith, ints), grind (arith, ints), (λ v. grind (arith, ints)), (λ v. grind (arith, ints)))

-- a kilter number of 0 is being in kilter
pub number_zero : (u d : Bool) (lo hi f : ℤ) → (u ≡ false → d ≡ true) → lo ≤ℤ hi → number u d lo hi f ≡ 0 → off u d lo hi f ≡ false
number_zero u d lo hi f one h e = grind (arith, ints)

pub zero_number : (u d : Bool) (lo hi f : ℤ) → off u d lo hi f ≡ false → number u d lo hi f ≡ 0
zero_number u d lo hi f e = grind (arith, ints)

-- within the limits a kilter number is at most twice the limit
pub number_limited : (u d : Bool) (lo hi f : ℤ) → nat_abs lo ≤ flow_limit → nat_abs hi ≤ flow_limit → nat_abs f ≤ flow_limit → number u d lo hi f ≤ 2 * flow_limit
number_limited u d lo hi f l h k = grind (arith, ints)

-- a change of prices: the arc leaves the nodes inside and cannot be run along, and its reduced cost falls, not past zero where f is below hi
pub leaving_repriced : (u d u' d' : Bool) (lo hi f : ℤ) → lo ≤ℤ hi → cond d hi lo ≤ℤ f →
    (d ≡ true → d' ≡ true) → (u ≡ false → u' ≡ false) → (d ≡ false → f <ℤ hi → u' ≡ true) → number u' d' lo hi f ≤ number u d lo hi f
leaving_repriced u d u' d' lo hi f h r a b c = let k = gap_is lo hi f h in grind (arith, ints)

-- the other way: the arc enters the nodes inside and cannot be run against, and its reduced cost rises, not past zero where f is above lo
pub entering_repriced : (u d u' d' : Bool) (lo hi f : ℤ) → lo ≤ℤ hi → f ≤ℤ cond u lo hi → (u ≡ false → d ≡ true) →
    (u ≡ true → u' ≡ true) → (d ≡ false → d' ≡ false) → (u ≡ false → lo <ℤ f → d' ≡ true) → number u' d' lo hi f ≤ number u d lo hi f
entering_repriced u d u' d' lo hi f h r one a b c = let k = gap_is lo hi f h in grind (arith, ints)

-- signs kept: what was not below zero is not below it now, and what was not above is not above
pub signs_repriced : (u d u' d' : Bool) (lo hi f : ℤ) → lo ≤ℤ hi → (u ≡ false → d ≡ true) → (u ≡ true → u' ≡ true) → (d ≡ true → d' ≡ true) → number u' d' lo hi f ≤ number u d lo hi f
signs_repriced u d u' d' lo hi f h one a b = let k = gap_is lo hi f h in grind (arith, ints)
