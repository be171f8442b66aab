-- An arc out of kilter wants to gain or to lose, and has room for it; an arc whose number does not rise stays in kilter.
use Rattle.std.proofs.Common.{◌≡◌, ◌≤◌, Bool, true, false, cond, not, ◌&&◌, ◌||◌, ◌⊎◌, List, ℤ, ◌≤ℤ◌, ◌<ℤ◌, sym, subst, inl, inr, arith}
use lib.Signed.{lt_z}
use borrow.Author.Differences.{ints}
use Rattle.std.proofs.lemmas.Bool.{or_cases, and_parts, not-true}
use Rattle.costs.specs.Kinds.{Kind, Laws}
use Rattle.networks.specs.declared.network.Arc.{Arc}
use Rattle.flows.specs.Flows.{Within}
use Rattle.flows.specs.Kilter.{reduced, out_of_kilter, kilter_number}
use Rattle.flows.proofs.Group.{le_refl}
use Rattle.flows.proofs.Numbers.{off, number_zero, zero_number}
use Rattle.flows.specs.searching.Ways.{Amiss}

-- it wants to gain: flow < lo, or c < 0 with flow < hi
abbrev pub WantsMore : {C : Type 0} → Kind C → C → Arc C → ℤ → Type 0
WantsMore K c a f = (f <ℤ a.lo) ⊎ ((K.le K.zero c ≡ false) × (f <ℤ a.hi))

-- it wants to lose: flow > hi, or c > 0 with flow > lo
abbrev pub WantsLess : {C : Type 0} → Kind C → C → Arc C → ℤ → Type 0
WantsLess K c a f = (a.hi <ℤ f) ⊎ ((K.le c K.zero ≡ false) × (a.lo <ℤ f))

is_below : (x y : ℤ) → lt_z x y ≡ true → x <ℤ y
is_below x y e = grind (arith, ints)

ways : (u d : Bool) (lo hi f : ℤ) → off u d lo hi f ≡ true → ((f <ℤ lo) ⊎ ((u ≡ false) × (f <ℤ hi))) ⊎ ((hi <ℤ f) ⊎ ((d ≡ false) × (lo <ℤ f)))
ways u d lo hi f e = first (or_cases (lt_z f lo) (lt_z hi f || ((not u && lt_z f hi) || (not d && lt_z lo f))) e)
  where
    third : ((not u && lt_z f hi) ≡ true) ⊎ ((not d && lt_z lo f) ≡ true) → ((f <ℤ lo) ⊎ ((u ≡ false) × (f <ℤ hi))) ⊎ ((hi <ℤ f) ⊎ ((d ≡ false) × (lo <ℤ f)))
    third (inl h) = let p = and_parts (not u) (lt_z f hi) h in inl (inr (not-true u p.0, is_below f hi p.1))
    third (inr h) = let p = and_parts (not d) (lt_z lo f) h in inr (inr (not-true d p.0, is_below lo f p.1))

    second : (lt_z hi f ≡ true) ⊎ (((not u && lt_z f hi) || (not d && lt_z lo f)) ≡ true) → ((f <ℤ lo) ⊎ ((u ≡ false) × (f <ℤ hi))) ⊎ ((hi <ℤ f) ⊎ ((d ≡ false) × (lo <ℤ f)))
    second (inl h) = inr (inl (is_below hi f h))
    second (inr h) = third (or_cases (not u && lt_z f hi) (not d && lt_z lo f) h)

    first : (lt_z f lo ≡ true) ⊎ ((lt_z hi f || ((not u && lt_z f hi) || (not d && lt_z lo f))) ≡ true) → ((f <ℤ lo) ⊎ ((u ≡ false) × (f <ℤ hi))) ⊎ ((hi <ℤ f) ⊎ ((d ≡ false) × (lo <ℤ f)))
    first (inl h) = inl (inl (is_below f lo h))
    first (inr h) = second (or_cases (lt_z hi f) ((not u && lt_z f hi) || (not d && lt_z lo f)) h)

pub out_ways : {C : Type 0} (K : Kind C) (c : C) (a : Arc C) (f : ℤ) → out_of_kilter K c a f ≡ true → WantsMore K c a f ⊎ WantsLess K c a f
out_ways K c a f e = ways (K.le K.zero c) (K.le c K.zero) a.lo a.hi f e

module _ {C : Type 0} (K : Kind C) (laws : Laws K) where
  room_up : (u d : Bool) (lo hi f : ℤ) → (u ≡ false → d ≡ true) → lo ≤ℤ hi → (f <ℤ lo) ⊎ ((u ≡ false) × (f <ℤ hi)) → f <ℤ cond d hi lo
  room_up u d lo hi f one h w = grind (arith, ints)

  room_down : (u d : Bool) (lo hi f : ℤ) → (d ≡ false → u ≡ true) → lo ≤ℤ hi → (hi <ℤ f) ⊎ ((d ≡ false) × (lo <ℤ f)) → cond u lo hi <ℤ f
  room_down u d lo hi f one h w = grind (arith, ints)

  -- it is amiss that way, and short of its limit
  pub more_amiss : (ps : List C) (a : Arc C) (f : ℤ) → a.lo ≤ℤ a.hi → WantsMore K (reduced K ps a) a f → Amiss K ps a true f × (f <ℤ cond (K.le (reduced K ps a) K.zero) a.hi a.lo)
  more_amiss ps a f h w = (((λ _. side w), (λ e. cc)), room_up (K.le K.zero (reduced K ps a)) (K.le (reduced K ps a) K.zero) a.lo a.hi f (laws.total K.zero (reduced K ps a)) h w)
    where
      side : WantsMore K (reduced K ps a) a f → (f <ℤ a.lo) ⊎ (K.le K.zero (reduced K ps a) ≡ false)
      side (inl l) = inl l
      side (inr (u, _)) = inr u

  pub less_amiss : (ps : List C) (a : Arc C) (f : ℤ) → a.lo ≤ℤ a.hi → WantsLess K (reduced K ps a) a f → Amiss K ps a false f × (cond (K.le K.zero (reduced K ps a)) a.lo a.hi <ℤ f)
  less_amiss ps a f h w = (((λ e. cc), (λ _. side w)), room_down (K.le K.zero (reduced K ps a)) (K.le (reduced K ps a) K.zero) a.lo a.hi f (laws.total (reduced K ps a) K.zero) h w)
    where
      side : WantsLess K (reduced K ps a) a f → (a.hi <ℤ f) ⊎ (K.le (reduced K ps a) K.zero ≡ false)
      side (inl l) = inl l
      side (inr (d, _)) = inr d

  -- in kilter before, and no higher number after: in kilter after
  pub kilter_stays : (c d : C) (a : Arc C) (f g : ℤ) → a.lo ≤ℤ a.hi → out_of_kilter K c a f ≡ false → kilter_number K d a g ≤ kilter_number K c a f → out_of_kilter K d a g ≡ false
  kilter_stays c d a f g h e l =
      let z : kilter_number K c a f ≡ 0 = zero_number (K.le K.zero c) (K.le c K.zero) a.lo a.hi f e in
      let n : kilter_number K d a g ≡ 0 = omega arith in
      number_zero (K.le K.zero d) (K.le d K.zero) a.lo a.hi g (laws.total K.zero d) h n

  -- at a reduced cost of zero, within the bounds is in kilter
  pub zero_kilter : (c : C) (a : Arc C) (f : ℤ) → c ≡ K.zero → Within a f → out_of_kilter K c a f ≡ false
  zero_kilter c a f e (l, h) =
      let zero = le_refl K laws K.zero in
      subst (λ z. out_of_kilter K z a f ≡ false) (sym e) (grind (arith, ints))
