-- A rise that passes neither a slack nor the chosen arc's own limit raises no kilter number; and what it means that nothing limits it.
use Rattle.std.proofs.Common.{◌≡◌, ℕ, ◌≤◌, Bool, true, false, cond, ◌||◌, ◌⊎◌, List, length, get_or, ℤ, pos, ◌≤ℤ◌, ◌<ℤ◌, Some, None, Option, sym, refl, ap, ◌∙◌, subst, inl, inr, arith}
use lib.Signed.{lt_z}
use borrow.Author.Differences.{ints}
use Rattle.std.proofs.lemmas.Bool.{cases_eq, false≢true}
use Rattle.std.proofs.lemmas.List.{get_or_read}
use Rattle.costs.specs.Kinds.{Kind, Laws}
use Rattle.networks.specs.Nets.{IsAt}
use Rattle.networks.specs.declared.network.Arc.{Arc}
use Rattle.flows.specs.declared.steps.Step.{Step}
use Rattle.flows.specs.searching.Fits.{Fitting}
use Rattle.flows.specs.Flows.{EachArc, Ends}
use Rattle.flows.specs.Kilter.{reduced, kilter_number, out_of_kilter}
use Rattle.flows.specs.Laps.{near, far}
use Rattle.flows.specs.searching.Prices.{Raised}
use Rattle.flows.proofs.ArcSums.{same_at, all_from, each_from}
use Rattle.flows.specs.searching.Ways.{Stuck, Strained}
use Rattle.flows.proofs.Group.{left, cancel}
use Rattle.flows.proofs.Prices.{Allows, all_repriced}
use Rattle.flows.proofs.Wants.{WantsMore, WantsLess, zero_kilter}
use Rattle.labels.specs.declared.labelling.Labels.{Labels}
use Rattle.reach.specs.declared.scans.Best.{Best}
use Rattle.reach.specs.Scans.{is_labelled, crossing_at, slack_at, AtMost, Across, Sighted}
use Rattle.reach.specs.Rises.{own_limit_at}
use Rattle.reach.specs.Rounds.{CutOff}
use Rattle.reach.proofs.Wanting.{Wants, After, UpTo, is_less, not_less, less_is, add_down, own_is}
use Rattle.reach.proofs.Aiming.{Aimed, after}

leads_out : {C : Type 0} (ls : Labels) (a : Arc C) → is_labelled ls a.from ≡ true → is_labelled ls a.to ≡ false → crossing_at ls a ≡ Some true
leads_out ls a p q = go (is_labelled ls a.from) (is_labelled ls a.to) p q
  where
    go : (x y : Bool) → x ≡ true → y ≡ false → cond x (cond y None (Some true)) (cond y (Some false) None) ≡ Some true
    go true false p q = refl
    go true true p q = absurd cc
    go false y p q = absurd cc

leads_in : {C : Type 0} (ls : Labels) (a : Arc C) → is_labelled ls a.from ≡ false → is_labelled ls a.to ≡ true → crossing_at ls a ≡ Some false
leads_in ls a p q = go (is_labelled ls a.from) (is_labelled ls a.to) p q
  where
    go : (x y : Bool) → x ≡ false → y ≡ true → cond x (cond y None (Some true)) (cond y (Some false) None) ≡ Some false
    go false true p q = refl
    go false false p q = absurd cc
    go true y p q = absurd cc

module _ {C : Type 0} (K : Kind C) (laws : Laws K) where
  slack_out : (c : C) (a : Arc C) (f : ℤ) → K.le c K.zero ≡ false → f <ℤ a.hi → slack_at K c a true f ≡ Some c
  slack_out c a f u l = go (K.le c K.zero) (lt_z f a.hi) u (less_is f a.hi l)
    where
      go : (x y : Bool) → x ≡ false → y ≡ true → cond x None (cond y (Some c) None) ≡ Some c
      go false true p q = refl
      go false false p q = absurd cc
      go true y p q = absurd cc

  slack_in : (c : C) (a : Arc C) (f : ℤ) → K.le K.zero c ≡ false → a.lo <ℤ f → slack_at K c a false f ≡ Some (K.neg c)
  slack_in c a f u l = go (K.le K.zero c) (lt_z a.lo f) u (less_is a.lo f l)
    where
      go : (x y : Bool) → x ≡ false → y ≡ true → cond x None (cond y (Some (K.neg c)) None) ≡ Some (K.neg c)
      go false true p q = refl
      go false false p q = absurd cc
      go true y p q = absurd cc

  -- the chosen arc within its bounds: at most its own limit is at most its |c|
  up_to_own : (c e : C) (a : Arc C) (along : Bool) (f : ℤ) → a.lo ≤ℤ f → f ≤ℤ a.hi → UpTo K (own_limit_at K c a along f) e → K.le e (cond along (K.neg c) c) ≡ true
  up_to_own c e a along f l h u = go (lt_z f a.lo) (lt_z a.hi f) refl refl u
    where
      go : (x y : Bool) → lt_z f a.lo ≡ x → lt_z a.hi f ≡ y → UpTo K (cond (x || y) None (Some (cond along (K.neg c) c))) e → K.le e (cond along (K.neg c) c) ≡ true
      go true y p q u = absurd (let k = is_less f a.lo p in omega (arith, ints))
      go false true p q u = absurd (let k = is_less a.hi f q in omega (arith, ints))
      go false false p q u = u

  room_in : (u : Bool) (lo hi f : ℤ) → lo ≤ℤ hi → (f <ℤ lo) ⊎ ((u ≡ false) × (f <ℤ hi)) → f ≤ℤ cond u lo hi
  room_in true lo hi f h (inl l) = omega (arith, ints)
  room_in true lo hi f h (inr (v, l)) = absurd cc
  room_in false lo hi f h (inl l) = omega (arith, ints)
  room_in false lo hi f h (inr (v, l)) = omega (arith, ints)

  room_out : (d : Bool) (lo hi f : ℤ) → lo ≤ℤ hi → (hi <ℤ f) ⊎ ((d ≡ false) × (lo <ℤ f)) → cond d hi lo ≤ℤ f
  room_out true lo hi f h (inl l) = omega (arith, ints)
  room_out true lo hi f h (inr (v, l)) = absurd cc
  room_out false lo hi f h (inl l) = omega (arith, ints)
  room_out false lo hi f h (inr (v, l)) = omega (arith, ints)

  under : (lo hi f : ℤ) (P : Type 0) → lo <ℤ f → (f <ℤ lo) ⊎ (P × (f <ℤ hi)) → f ≤ℤ hi
  under lo hi f P k (inl l) = absurd (omega (arith, ints))
  under lo hi f P k (inr (v, l)) = omega (arith, ints)

  over_low : (lo hi f : ℤ) (P : Type 0) → f <ℤ hi → (hi <ℤ f) ⊎ (P × (lo <ℤ f)) → lo ≤ℤ f
  over_low lo hi f P k (inl l) = absurd (omega (arith, ints))
  over_low lo hi f P k (inr (v, l)) = omega (arith, ints)

  -- the chosen arc allows a rise up to its own limit
  chosen_allows : (e : C) (inside : ℕ → Bool) (ps : List C) (a : Arc C) (along : Bool) (f : ℤ) → a.lo ≤ℤ a.hi → inside (near a along) ≡ false → inside (far a along) ≡ true →
      Wants K (reduced K ps a) a along f → UpTo K (own_limit_at K (reduced K ps a) a along f) e → Allows K e inside ps a f
  chosen_allows e inside ps a true f h o i w u = record {
    fits = h;
    leaves = λ p q. absurd (false≢true (sym o ∙ p));
    enters = λ p q. (
      room_in (K.le K.zero (reduced K ps a)) a.lo a.hi f h w,
      λ v l. add_down K laws (reduced K ps a) e (up_to_own (reduced K ps a) e a true f (omega (arith, ints)) (under a.lo a.hi f (K.le K.zero (reduced K ps a) ≡ false) l w) u),
    );
  }
  chosen_allows e inside ps a false f h o i w u = record {
    fits = h;
    leaves = λ p q. (
      room_out (K.le (reduced K ps a) K.zero) a.lo a.hi f h w,
      λ v l. up_to_own (reduced K ps a) e a false f (over_low a.lo a.hi f (K.le (reduced K ps a) K.zero ≡ false) l w) (omega (arith, ints)) u,
    );
    enters = λ p q. absurd (false≢true (sym o ∙ q));
  }

  -- a rise by |c| brings the reduced cost to zero
  settled : (e c d : C) (along : Bool) → e ≡ cond along (K.neg c) c → After K e c d along → d ≡ K.zero
  settled e c d true q h = h ∙ ap (K.plus c) q ∙ laws.cancels c
  settled e c d false q h = cancel K laws d K.zero c (ap (K.plus d) (sym q) ∙ h ∙ sym (left K laws c))

  -- with no limit of its own the chosen arc is outside its bounds, on the side from which it wants to come back
  below_low : (c : C) (a : Arc C) (f : ℤ) → WantsMore K c a f → own_limit_at K c a true f ≡ None → f <ℤ a.lo
  below_low c a f (inl l) h = l
  below_low c a f (inr (u, l)) h = go (lt_z f a.lo) (lt_z a.hi f) refl refl h
    where
      go : (x y : Bool) → lt_z f a.lo ≡ x → lt_z a.hi f ≡ y → cond (x || y) None (Some (K.neg c)) ≡ None → f <ℤ a.lo
      go true y p q h = is_less f a.lo p
      go false true p q h = absurd (let k = is_less a.hi f q in omega (arith, ints))
      go false false p q h = absurd cc

  above_high : (c : C) (a : Arc C) (f : ℤ) → WantsLess K c a f → own_limit_at K c a false f ≡ None → a.hi <ℤ f
  above_high c a f (inl l) h = l
  above_high c a f (inr (u, l)) h = go (lt_z f a.lo) (lt_z a.hi f) refl refl h
    where
      go : (x y : Bool) → lt_z f a.lo ≡ x → lt_z a.hi f ≡ y → cond (x || y) None (Some c) ≡ None → a.hi <ℤ f
      go true y p q h = absurd (let k = is_less f a.lo p in omega (arith, ints))
      go false true p q h = is_less a.hi f q
      go false false p q h = absurd cc

  pub is_strained : (inside : ℕ → Bool) (c : C) (a : Arc C) (along : Bool) (f : ℤ) → inside (near a along) ≡ false → inside (far a along) ≡ true → Wants K c a along f → own_limit_at K c a along f ≡ None → Strained inside a f
  is_strained inside c a true f o i w h = inr (o, i, below_low c a f w h)
  is_strained inside c a false f o i w h = inl (i, o, above_high c a f w h)

  strained_stuck : (inside : ℕ → Bool) (a : Arc C) (f : ℤ) → Strained inside a f → Stuck inside a f
  strained_stuck inside a f (inl (p, q, l)) = ((λ _ _. omega (arith, ints)), (λ x y. absurd (false≢true (sym x ∙ p))))
  strained_stuck inside a f (inr (p, q, l)) = ((λ x y. absurd (false≢true (sym p ∙ x))), (λ _ _. omega (arith, ints)))

  module _ (arcs : List (Arc C)) (flow : List ℤ) (ps : List C) (chosen : Step) (ls : Labels) (best : Option (Best C))
      (fitting : Fitting K (length ps) arcs) (long : length flow ≡ length arcs) (seen : Sighted K arcs flow ps chosen.arc ls (length arcs) best) where
    -- so does every other arc, up to the least slack
    other_allows : (e : C) → ((s : C) → AtMost K best s → K.le e s ≡ true) → (i : ℕ) (a : Arc C) → IsAt arcs i a → (i ≡ chosen.arc → ⊥) → Allows K e (is_labelled ls) ps a (get_or flow i (pos 0))
    other_allows e least i a is other = record {
      fits = (fitting i a is).order;
      leaves = λ p q.
          let x : Across arcs chosen.arc ls i a true = record { other = other; is = is; leads = leads_out ls a p q } in (
            not_less (get_or flow i (pos 0)) (cond (K.le (reduced K ps a) K.zero) a.hi a.lo) (seen.shut i is.0 a true x),
            λ u l. least (reduced K ps a) (seen.least i is.0 a true x (reduced K ps a) (slack_out (reduced K ps a) a (get_or flow i (pos 0)) u l)),
          );
      enters = λ p q.
          let x : Across arcs chosen.arc ls i a false = record { other = other; is = is; leads = leads_in ls a p q } in (
            not_less (cond (K.le K.zero (reduced K ps a)) a.lo a.hi) (get_or flow i (pos 0)) (seen.shut i is.0 a false x),
            λ u l. add_down K laws (reduced K ps a) e (least (K.neg (reduced K ps a)) (seen.least i is.0 a false x (K.neg (reduced K ps a)) (slack_in (reduced K ps a) a (get_or flow i (pos 0)) u l))),
          );
    }

    -- where there is no slack at all an arc that leads across has no room but back
    other_stuck : best ≡ None → (i : ℕ) (a : Arc C) → IsAt arcs i a → (i ≡ chosen.arc → ⊥) → Stuck (is_labelled ls) a (get_or flow i (pos 0))
    other_stuck none i a is other = (
      (λ p q.
          let x : Across arcs chosen.arc ls i a true = record { other = other; is = is; leads = leads_out ls a p q } in
          go_out (K.le (reduced K ps a) K.zero) refl (not_less (get_or flow i (pos 0)) (cond (K.le (reduced K ps a) K.zero) a.hi a.lo) (seen.shut i is.0 a true x))
          (λ u l. seen.least i is.0 a true x (reduced K ps a) (slack_out (reduced K ps a) a (get_or flow i (pos 0)) u l))),
      (λ p q.
          let x : Across arcs chosen.arc ls i a false = record { other = other; is = is; leads = leads_in ls a p q } in
          go_in (K.le K.zero (reduced K ps a)) refl (not_less (cond (K.le K.zero (reduced K ps a)) a.lo a.hi) (get_or flow i (pos 0)) (seen.shut i is.0 a false x))
          (λ u l. seen.least i is.0 a false x (K.neg (reduced K ps a)) (slack_in (reduced K ps a) a (get_or flow i (pos 0)) u l))),
    )
      where
        never : (s : C) → AtMost K best s → ⊥
        never s h = subst (λ o. AtMost K o s) none h

        go_out : (t : Bool) → K.le (reduced K ps a) K.zero ≡ t → cond t a.hi a.lo ≤ℤ get_or flow i (pos 0) → (K.le (reduced K ps a) K.zero ≡ false → get_or flow i (pos 0) <ℤ a.hi → AtMost K best (reduced K ps a)) → a.hi ≤ℤ get_or flow i (pos 0)
        go_out true e h least = h
        go_out false e h least = test (lt_z (get_or flow i (pos 0)) a.hi) refl
          where
            test : (t : Bool) → lt_z (get_or flow i (pos 0)) a.hi ≡ t → a.hi ≤ℤ get_or flow i (pos 0)
            test true q = absurd (never (reduced K ps a) (least e (is_less (get_or flow i (pos 0)) a.hi q)))
            test false q = not_less (get_or flow i (pos 0)) a.hi q

        go_in : (t : Bool) → K.le K.zero (reduced K ps a) ≡ t → get_or flow i (pos 0) ≤ℤ cond t a.lo a.hi → (K.le K.zero (reduced K ps a) ≡ false → a.lo <ℤ get_or flow i (pos 0) → AtMost K best (K.neg (reduced K ps a))) → get_or flow i (pos 0) ≤ℤ a.lo
        go_in true e h least = h
        go_in false e h least = test (lt_z a.lo (get_or flow i (pos 0))) refl
          where
            test : (t : Bool) → lt_z a.lo (get_or flow i (pos 0)) ≡ t → get_or flow i (pos 0) ≤ℤ a.lo
            test true q = absurd (never (K.neg (reduced K ps a)) (least e (is_less a.lo (get_or flow i (pos 0)) q)))
            test false q = not_less a.lo (get_or flow i (pos 0)) q

    module _ (a : Arc C) (aimed : Aimed K arcs flow ps chosen ls a) where
      abbrev own : Option C
      own = own_limit_at K (reduced K ps a) a chosen.along (get_or flow chosen.arc (pos 0))

      -- what holds of the chosen arc and of every other holds of all
      by_arcs : (P : Arc C → ℤ → Type 0) → P a (get_or flow chosen.arc (pos 0)) → ((i : ℕ) (b : Arc C) → IsAt arcs i b → (i ≡ chosen.arc → ⊥) → P b (get_or flow i (pos 0))) → EachArc P arcs flow
      by_arcs P here there = each_from P arcs flow long (λ i b f is at. subst (P b) (sym (get_or_read flow i f at.0 at.1 (pos 0))) (go i b is (cases_eq i chosen.arc)))
        where
          go : (i : ℕ) (b : Arc C) → IsAt arcs i b → (i ≡ chosen.arc) ⊎ (i ≡ chosen.arc → ⊥) → P b (get_or flow i (pos 0))
          go i b is (inl q) =
              let e : a ≡ b = same_at arcs chosen.arc a b aimed.is (subst (λ j. IsAt arcs j b) q is) in
              subst (λ j. P b (get_or flow j (pos 0))) (sym q) (subst (λ z. P z (get_or flow chosen.arc (pos 0))) e here)
          go i b is (inr n) = there i b is n

      pub eased : (qs : List C) (e : C) → Raised K (length ps) e (is_labelled ls) ps qs → K.le K.zero e ≡ true → ((s : C) → AtMost K best s → K.le e s ≡ true) → UpTo K own e →
          EachArc (λ a f. kilter_number K (reduced K qs a) a f ≤ kilter_number K (reduced K ps a) a f) arcs flow
      eased qs e raised up least short = all_repriced K laws e up (length ps) (is_labelled ls) ps qs raised arcs flow (all_from (Ends (length ps)) arcs (λ i b is. (fitting i b is).ends))
          (by_arcs (Allows K e (is_labelled ls) ps)
          (chosen_allows e (is_labelled ls) ps a chosen.along (get_or flow chosen.arc (pos 0)) aimed.fit.order aimed.outside aimed.inside aimed.wants short)
          (other_allows e least))

      -- a rise by the own limit brings it into kilter
      pub in_kilter : (qs : List C) (e : C) → Raised K (length ps) e (is_labelled ls) ps qs → own ≡ Some e →
          (b : Arc C) → IsAt arcs chosen.arc b → out_of_kilter K (reduced K qs b) b (get_or flow chosen.arc (pos 0)) ≡ false
      in_kilter qs e raised h b is =
          let limit = own_is K laws (reduced K ps a) e a chosen.along (get_or flow chosen.arc (pos 0)) h in
          subst (λ z. out_of_kilter K (reduced K qs z) z (get_or flow chosen.arc (pos 0)) ≡ false) (same_at arcs chosen.arc a b aimed.is is)
          (zero_kilter K laws (reduced K qs a) a (get_or flow chosen.arc (pos 0)) (settled e (reduced K ps a) (reduced K qs a) chosen.along limit.1 (after K laws arcs flow ps chosen ls a aimed qs e raised)) limit.0)

      -- nothing limits the rise: the labelled nodes are cut off
      pub cut_off : own ≡ None → best ≡ None → CutOff arcs flow chosen ls
      cut_off alone none = record {
        stuck = by_arcs (Stuck (is_labelled ls)) (strained_stuck (is_labelled ls) a (get_or flow chosen.arc (pos 0)) strained) (other_stuck none);
        strained = λ b is. subst (λ z. Strained (is_labelled ls) z (get_or flow chosen.arc (pos 0))) (same_at arcs chosen.arc a b aimed.is is) strained;
      }
        where
          strained : Strained (is_labelled ls) a (get_or flow chosen.arc (pos 0))
          strained = is_strained (is_labelled ls) (reduced K ps a) a chosen.along (get_or flow chosen.arc (pos 0)) aimed.outside aimed.inside aimed.wants alone
