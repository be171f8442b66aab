-- The chosen arc wants to gain or to lose; what a rise of prices by e, which brings its reduced cost from c to d, does to it.
use Rattle.std.proofs.Common.{◌≡◌, Bool, true, false, cond, ◌||◌, ◌⊎◌, List, ℤ, ◌≤ℤ◌, ◌<ℤ◌, Some, None, Option, sym, refl, ap, ◌∙◌, subst, subst₂, inl, inr, arith}
use Rattle.std.proofs.lemmas.Bool.{false≢true}
use lib.Signed.{lt_z}
use borrow.Author.Differences.{ints}
use Rattle.costs.specs.Kinds.{Kind, Laws}
use Rattle.networks.specs.declared.network.Arc.{Arc}
use Rattle.flows.specs.Flows.{Within}
use Rattle.flows.specs.Kilter.{reduced}
use Rattle.flows.proofs.Group.{comm, left, cancel_le, neg_up}
use Rattle.flows.specs.searching.Ways.{Amiss}
use Rattle.flows.proofs.Wants.{WantsMore, WantsLess, more_amiss, less_amiss}
use Rattle.labels.specs.Moves.{may}
use Rattle.reach.specs.Rises.{own_limit_at}

pub is_less : (x y : ℤ) → lt_z x y ≡ true → x <ℤ y
is_less x y e = grind (arith, ints)

pub not_less : (x y : ℤ) → lt_z x y ≡ false → y ≤ℤ x
not_less x y e = grind (arith, ints)

pub less_is : (x y : ℤ) → x <ℤ y → lt_z x y ≡ true
less_is x y e = grind (arith, ints)

-- it wants to gain, or to lose
abbrev pub Wants : {C : Type 0} → Kind C → C → Arc C → Bool → ℤ → Type 0
Wants K c a true f = WantsMore K c a f
Wants K c a false f = WantsLess K c a f

-- d is the reduced cost c after a rise by e: above it where the arc runs into the labelled nodes, else below
abbrev pub After : {C : Type 0} → Kind C → C → C → C → Bool → Type 0
After K e c d true = d ≡ K.plus c e
After K e c d false = K.plus d e ≡ c

-- e is below the limit, or at most it; where there is none, any is
abbrev pub ShortOf : {C : Type 0} → Kind C → Option C → C → Type 0
ShortOf K None e = Unit {0}
ShortOf K (Some o) e = K.le o e ≡ false

abbrev pub UpTo : {C : Type 0} → Kind C → Option C → C → Type 0
UpTo K None e = Unit {0}
UpTo K (Some o) e = K.le e o ≡ true

module _ {C : Type 0} (K : Kind C) (laws : Laws K) where
  -- orders across zero
  pub add_up : (c e : C) → K.le K.zero (K.plus c e) ≡ true → K.le (K.neg c) e ≡ true
  add_up c e h = cancel_le K laws (K.neg c) e c (subst₂ (λ x y. K.le x y ≡ true) (sym (comm K laws (K.neg c) c ∙ laws.cancels c)) (comm K laws c e) h)

  pub add_down : (c e : C) → K.le e (K.neg c) ≡ true → K.le (K.plus c e) K.zero ≡ true
  add_down c e h = subst₂ (λ x y. K.le x y ≡ true) (comm K laws e c) (comm K laws (K.neg c) c ∙ laws.cancels c) (laws.mono e (K.neg c) c h)

  take_down : (c d e : C) → K.plus d e ≡ c → K.le d K.zero ≡ true → K.le c e ≡ true
  take_down c d e q h = subst₂ (λ x y. K.le x y ≡ true) q (left K laws e) (laws.mono d K.zero e h)

  -- what the chosen step says is that its arc wants it
  pub wants_from : (ps : List C) (a : Arc C) (along : Bool) (f : ℤ) → Amiss K ps a along f → may K ps a along f ≡ true → Wants K (reduced K ps a) a along f
  wants_from ps a true f (up, down) m = go (up refl)
    where
      go : (f <ℤ a.lo) ⊎ (K.le K.zero (reduced K ps a) ≡ false) → WantsMore K (reduced K ps a) a f
      go (inl l) = inl l
      go (inr u) = inr (u, is_less f a.hi (subst (λ b. lt_z f (cond b a.hi a.lo) ≡ true) (laws.total K.zero (reduced K ps a) u) m))
  wants_from ps a false f (up, down) m = go (down refl)
    where
      go : (a.hi <ℤ f) ⊎ (K.le (reduced K ps a) K.zero ≡ false) → WantsLess K (reduced K ps a) a f
      go (inl l) = inl l
      go (inr u) = inr (u, is_less a.lo f (subst (λ b. lt_z (cond b a.lo a.hi) f ≡ true) (laws.total (reduced K ps a) K.zero u) m))

  pub wants_to : (ps : List C) (a : Arc C) (along : Bool) (f : ℤ) → a.lo ≤ℤ a.hi → Wants K (reduced K ps a) a along f → Amiss K ps a along f × (may K ps a along f ≡ true)
  wants_to ps a true f h w = let r = more_amiss K laws ps a f h w in (r.0, less_is f (cond (K.le (reduced K ps a) K.zero) a.hi a.lo) r.1)
  wants_to ps a false f h w = let r = less_amiss K laws ps a f h w in (r.0, less_is (cond (K.le K.zero (reduced K ps a)) a.lo a.hi) f r.1)

  -- short of its limit it goes on wanting the same
  pub still_wants : (e c d : C) (a : Arc C) (along : Bool) (f : ℤ) → Wants K c a along f → ShortOf K (own_limit_at K c a along f) e → After K e c d along → Wants K d a along f
  still_wants e c d a true f (inl l) s q = inl l
  still_wants e c d a true f (inr (u, l)) s q = go (lt_z f a.lo) (lt_z a.hi f) refl refl s
    where
      above : (t : Bool) → K.le K.zero d ≡ t → K.le (K.neg c) e ≡ false → K.le K.zero d ≡ false
      above true x y = absurd (false≢true (sym y ∙ add_up c e (ap (K.le K.zero) (sym q) ∙ x)))
      above false x y = x

      go : (x y : Bool) → lt_z f a.lo ≡ x → lt_z a.hi f ≡ y → ShortOf K (cond (x || y) None (Some (K.neg c))) e → WantsMore K d a f
      go true y p r s = inl (is_less f a.lo p)
      go false true p r s = absurd (let k = is_less a.hi f r in omega (arith, ints))
      go false false p r s = inr (above (K.le K.zero d) refl s, l)
  still_wants e c d a false f (inl l) s q = inl l
  still_wants e c d a false f (inr (u, l)) s q = go (lt_z f a.lo) (lt_z a.hi f) refl refl s
    where
      above : (t : Bool) → K.le d K.zero ≡ t → K.le c e ≡ false → K.le d K.zero ≡ false
      above true x y = absurd (false≢true (sym y ∙ take_down c d e q x))
      above false x y = x

      go : (x y : Bool) → lt_z f a.lo ≡ x → lt_z a.hi f ≡ y → ShortOf K (cond (x || y) None (Some c)) e → WantsLess K d a f
      go true y p r s = absurd (let k = is_less f a.lo p in omega (arith, ints))
      go false true p r s = inl (is_less a.hi f r)
      go false false p r s = inr (above (K.le d K.zero) refl s, l)

  -- where it has a limit it is within its bounds, and the limit is its |c|
  pub own_is : (c o : C) (a : Arc C) (along : Bool) (f : ℤ) → own_limit_at K c a along f ≡ Some o → Within a f × (o ≡ cond along (K.neg c) c)
  own_is c o a along f h = go (lt_z f a.lo) (lt_z a.hi f) refl refl h
    where
      go : (x y : Bool) → lt_z f a.lo ≡ x → lt_z a.hi f ≡ y → cond (x || y) None (Some (cond along (K.neg c) c)) ≡ Some o → Within a f × (o ≡ cond along (K.neg c) c)
      go true y p r h = absurd cc
      go false true p r h = absurd cc
      go false false p r h = ((not_less f a.lo p, not_less a.hi f r), cc)

  pub own_up : (c o : C) (a : Arc C) (along : Bool) (f : ℤ) → Wants K c a along f → own_limit_at K c a along f ≡ Some o → K.le K.zero o ≡ true
  own_up c o a along f w h = let r = own_is c o a along f h in subst (λ z. K.le K.zero z ≡ true) (sym r.1) (go along w r.0)
    where
      go : (along : Bool) → Wants K c a along f → Within a f → K.le K.zero (cond along (K.neg c) c) ≡ true
      go true (inl l) (p, q) = absurd (omega (arith, ints))
      go true (inr (u, l)) (p, q) = neg_up K laws c (laws.total K.zero c u)
      go false (inl l) (p, q) = absurd (omega (arith, ints))
      go false (inr (u, l)) (p, q) = laws.total c K.zero u
