-- The step that an arc out of kilter wants.
use Rattle.std.proofs.Common.{◌≡◌, ℕ, ◌≤◌, Bool, true, false, cond, not, ◌&&◌, ◌⊎◌, List, length, get_or, ℤ, pos, ◌≤ℤ◌, ◌<ℤ◌, Some, None, sym, refl, subst, inl, inr, arith}
use lib.Signed.{lt_z}
use Rattle.std.proofs.lemmas.Int.{ints}
use Rattle.std.proofs.lemmas.Bool.{not-true}
use Rattle.costs.specs.Kinds.{Kind, Laws, less}
use Rattle.networks.specs.declared.network.Arc.{Arc}
use Rattle.networks.specs.Nets.{IsAt}
use Rattle.flows.specs.declared.steps.Step.{Step}
use Rattle.flows.specs.Laps.{near, far, step_over}
use Rattle.flows.specs.Kilter.{reduced, way}
use Rattle.flows.specs.searching.Fits.{Fit}
use Rattle.flows.proofs.ArcSums.{same_at}
use Rattle.flows.specs.searching.Ways.{Amiss}
use Rattle.flows.proofs.Wants.{WantsMore, WantsLess, more_amiss, less_amiss}
use Rattle.labels.specs.Moves.{may}
use Rattle.search.specs.Going.{Wanted}

lower : (x y : ℤ) → x <ℤ y → lt_z x y ≡ true
lower x y h = grind (arith, ints)

lower_is : (x y : ℤ) → lt_z x y ≡ true → x <ℤ y
lower_is x y e = grind (arith, ints)

module _ {C : Type 0} (K : Kind C) (laws : Laws K) where
  ways : (p q r s t u : Bool) (along : Bool) → Some along ≡ cond p (Some true) (cond q (Some false) (cond (r && s) (Some true) (cond (t && u) (Some false) None))) →
      ((along ≡ true) × ((p ≡ true) ⊎ ((r ≡ true) × (s ≡ true)))) ⊎ ((along ≡ false) × ((q ≡ true) ⊎ ((t ≡ true) × (u ≡ true))))
  ways true q r s t u true e = inl (refl, inl refl)
  ways true q r s t u false e = absurd cc
  ways false true r s t u false e = inr (refl, inl refl)
  ways false true r s t u true e = absurd cc
  ways false false true true t u true e = inl (refl, inr (refl, refl))
  ways false false true true t u false e = absurd cc
  ways false false true false true true false e = inr (refl, inr (refl, refl))
  ways false false true false true true true e = absurd cc
  ways false false true false true false along e = absurd cc
  ways false false true false false u along e = absurd cc
  ways false false false s true true false e = inr (refl, inr (refl, refl))
  ways false false false s true true true e = absurd cc
  ways false false false s true false along e = absurd cc
  ways false false false s false u along e = absurd cc

  -- what the way says of the arc
  wants : (c : C) (a : Arc C) (f : ℤ) (along : Bool) → Some along ≡ way K c a f → ((along ≡ true) × WantsMore K c a f) ⊎ ((along ≡ false) × WantsLess K c a f)
  wants c a f along e = go (ways (lt_z f a.lo) (lt_z a.hi f) (less K c K.zero) (lt_z f a.hi) (less K K.zero c) (lt_z a.lo f) along e)
    where
      go : ((along ≡ true) × ((lt_z f a.lo ≡ true) ⊎ ((less K c K.zero ≡ true) × (lt_z f a.hi ≡ true)))) ⊎ ((along ≡ false) × ((lt_z a.hi f ≡ true) ⊎ ((less K K.zero c ≡ true) × (lt_z a.lo f ≡ true)))) →
          ((along ≡ true) × WantsMore K c a f) ⊎ ((along ≡ false) × WantsLess K c a f)
      go (inl (t, inl p)) = inl (t, inl (lower_is f a.lo p))
      go (inl (t, inr (r, s))) = inl (t, inr (not-true (K.le K.zero c) r, lower_is f a.hi s))
      go (inr (t, inl q)) = inr (t, inl (lower_is a.hi f q))
      go (inr (t, inr (u, v))) = inr (t, inr (not-true (K.le c K.zero) u, lower_is a.lo f v))

  amiss_may : (prices : List C) (a : Arc C) (f : ℤ) (along : Bool) → a.lo ≤ℤ a.hi → Some along ≡ way K (reduced K prices a) a f → Amiss K prices a along f × (may K prices a along f ≡ true)
  amiss_may prices a f along h e = go along (wants (reduced K prices a) a f along e)
    where
      go : (b : Bool) → ((b ≡ true) × WantsMore K (reduced K prices a) a f) ⊎ ((b ≡ false) × WantsLess K (reduced K prices a) a f) → Amiss K prices a b f × (may K prices a b f ≡ true)
      go true (inl (t, w)) = let r = more_amiss K laws prices a f h w in (r.0, lower f (cond (K.le (reduced K prices a) K.zero) a.hi a.lo) r.1)
      go false (inr (t, w)) = let r = less_amiss K laws prices a f h w in (r.0, lower (cond (K.le K.zero (reduced K prices a)) a.lo a.hi) f r.1)
      go true (inr (t, w)) = absurd cc
      go false (inl (t, w)) = absurd cc

  ends_fit : (N : ℕ) (a : Arc C) (b : Bool) → Fit K N a → (1 ≤ far a b) × (far a b ≤ N)
  ends_fit N a true fit = (fit.ends.2, fit.ends.3)
  ends_fit N a false fit = (fit.ends.0, fit.ends.1)

  near_far : (a : Arc C) (b : Bool) → far a (not b) ≡ near a b
  near_far a true = refl
  near_far a false = refl

  pub wanted_is : (N : ℕ) (arcs : List (Arc C)) (flow : List ℤ) (prices : List C) (i : ℕ) (a : Arc C) (along : Bool) (step : Step) (source : ℕ) → IsAt arcs i a → Fit K N a → length flow ≡ length arcs →
      Some along ≡ way K (reduced K prices a) a (get_or flow i (pos 0)) → step ≡ step_over i a along → source ≡ far a along → Wanted K N arcs flow prices i step source
  wanted_is N arcs flow prices i a along step source is fit long e t s =
      let m = amiss_may prices a (get_or flow i (pos 0)) along fit.order e in
      let f = ends_fit N a along fit in
      let o = ends_fit N a (not along) fit in
      subst (λ z. Wanted K N arcs flow prices i z source) (sym t)
      (record {
        chosen = record {
          leads = (a, is, refl, sym s);
          moving = (is.0, λ b bt. subst (λ z. may K prices z along (get_or flow i (pos 0)) ≡ true) (same_at arcs i a b is bt) m.1);
          amiss = λ b bt. subst (λ z. Amiss K prices z along (get_or flow i (pos 0))) (same_at arcs i a b is bt) m.0;
        };
        over = refl;
        node = subst (λ z. (1 ≤ z) × (z ≤ N)) (near_far a along) o;
        sources = subst (λ z. (1 ≤ z) × (z ≤ N)) (sym s) f;
      })
