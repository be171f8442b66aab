-- The nearest slack, or where there is none any node that is not labelled, is a good pick.
use Rattle.std.proofs.Common.{◌≡◌, ℕ, ◌+◌, ◌-◌, ◌<◌, ◌≤◌, Bool, true, false, cond, List, [], ◌∷◌, length, get_or, Some, None, Option, sym, refl, ap, ◌∙◌, subst, ap₂, arith}
use Rattle.std.specs.List.{AllByRecursion}
use Rattle.std.proofs.ByRecursion.{All-weaker}
use Rattle.networks.specs.declared.network.Arc.{Arc}
use Rattle.costs.specs.Kinds.{Kind, Laws}
use Rattle.flows.proofs.Group.{size_zero, size_reduced, size_neg, size_minus}
use Rattle.tidy.specs.declared.picks.Pick.{Pick}
use Rattle.tidy.specs.Picks.{slack_of, nearest_of, first_free_of, picked, unmarked, GoodPick, labelled_at, Sound}
use Rattle.tidy.proofs.Order.{nearest_allows, nearest_is, nearest_none}
use Rattle.tidy.proofs.Marks.{some_labelled_at, first_free}
use Rattle.flows.proofs.Nearer.{sign_raised, to_lands, from_lands, none_larger}
use Rattle.flows.specs.Kilter.{reduced, price, largest}
use Rattle.flows.specs.Flows.{Ends}
use Rattle.flows.specs.searching.Prices.{SignKept, SignsKept, Raised, nearer, SmallInside}
use Rattle.flows.specs.searching.Fits.{Bounded, price_limit, change_limit}

pub all_both : {X : Type 0} (P Q R : X → Type 0) → ((x : X) → P x → Q x → R x) → (xs : List X) → AllByRecursion P xs → AllByRecursion Q xs → AllByRecursion R xs
all_both P Q R h [] p q = tt
all_both P Q R h (x ∷ xs) (p, ps) (q, qs) = (h x p q, all_both P Q R h xs ps qs)

module _ {C : Type 0} (K : Kind C) (laws : Laws K) (ms : List Bool) (ps : List C) where
  -- what a slack of one arc gives, where no cost has a size above m
  record Fair (m : ℕ) (p : Pick C) : Type 0 where
    inside : p.place < length ps
    free : get_or ms p.place false ≡ false
    moderate : K.size p.far ≤ change_limit
    lands : (b : ℕ) → SmallInside K (length ps) (labelled_at ms) ps b → K.size (K.plus (get_or ps p.place K.zero) p.far) ≤ b + m
    some : unmarked ms < length ms

  fair : (m : ℕ) → m ≤ 1000000 → Bounded K price_limit ps → (a : Arc C) → Ends (length ps) a → K.size a.cost ≤ m → (q : Pick C) → slack_of K ps ms a ≡ Some q → Fair m q
  fair m small moderate a ends cost q = go (labelled_at ms a.from) (labelled_at ms a.to) refl refl
    where
      pf : C
      pf = price K ps a.from

      pt : C
      pt = price K ps a.to

      r : C
      r = reduced K ps a

      moderate_r : K.size r ≤ change_limit
      moderate_r = omega (arith, size_reduced K laws a.cost pf pt, moderate (a.from - 1) (omega arith), moderate (a.to - 1) (omega arith))

      go : (x y : Bool) → labelled_at ms a.from ≡ x → labelled_at ms a.to ≡ y → cond x (cond y None (Some (picked (a.to - 1) r))) (cond y (Some (picked (a.from - 1) (K.neg r))) None) ≡ Some q → Fair m q
      go true true u v e = cc
      go true false u v e = let s : picked (a.to - 1) r ≡ q = cc in subst (Fair m) s (record {
        inside = omega arith;
        free = v;
        moderate = moderate_r;
        lands = λ b h. subst (λ z. K.size z ≤ b + m) (sym (to_lands K laws a.cost pf pt)) (omega (arith, laws.adds.size_plus a.cost pf, h a.from ends.0 ends.1 u));
        some = some_labelled_at ms (a.from - 1) u;
      })
      go false true u v e = let s : picked (a.from - 1) (K.neg r) ≡ q = cc in subst (Fair m) s (record {
        inside = omega arith;
        free = u;
        moderate = omega (arith, size_neg K laws r, moderate_r);
        lands = λ b h. subst (λ z. K.size z ≤ b + m) (sym (from_lands K laws a.cost pf pt)) (omega (arith, size_minus K laws pt a.cost, h a.to ends.2 ends.3 v));
        some = some_labelled_at ms (a.to - 1) v;
      })
      go false false u v e = cc

  -- no sign turns where the change is as near as the arc's slack
  arc_kept : (e : C) (qs : List C) (a : Arc C) → Ends (length ps) a → Raised K (length ps) e (labelled_at ms) ps qs → ((q : Pick C) → slack_of K ps ms a ≡ Some q → nearer K e q.far ≡ true) → SignKept K (reduced K ps a) (reduced K qs a)
  arc_kept e qs a ends raised allows =
      sign_raised K laws e (length ps) (labelled_at ms) ps qs raised a ends
      (λ p q. allows (picked (a.to - 1) r) (ap₂ slack p q))
      (λ p q. allows (picked (a.from - 1) (K.neg r)) (ap₂ slack p q))
    where
      r : C
      r = reduced K ps a

      slack : Bool → Bool → Option (Pick C)
      slack x y = cond x (cond y None (Some (picked (a.to - 1) r))) (cond y (Some (picked (a.from - 1) (K.neg r))) None)

  module _ (arcs : List (Arc C)) (sound : Sound K arcs (length ps)) where
    kept_all : (e : C) → AllByRecursion (λ a. (q : Pick C) → slack_of K ps ms a ≡ Some q → nearer K e q.far ≡ true) arcs → (qs : List C) → Raised K (length ps) e (labelled_at ms) ps qs → SignsKept K arcs ps qs
    kept_all e h qs r = all_both (Ends (length ps)) (λ a. (q : Pick C) → slack_of K ps ms a ≡ Some q → nearer K e q.far ≡ true) (λ a. SignKept K (reduced K ps a) (reduced K qs a))
        (λ a ends allows. arc_kept e qs a ends r allows) arcs sound.ends h

    pub nearest_good : Bounded K price_limit ps → (p : Pick C) → Some p ≡ nearest_of K ps ms None arcs → GoodPick K arcs ms ps p
    nearest_good moderate p h =
        let f = nearest_is K laws p ps ms (Fair (largest K arcs)) arcs None (λ b e. cc)
        (all_both (Ends (length ps)) (λ a. K.size a.cost ≤ largest K arcs) (λ a. (q : Pick C) → slack_of K ps ms a ≡ Some q → Fair (largest K arcs) q)
        (fair (largest K arcs) sound.costs moderate) arcs sound.ends (none_larger K arcs)) (sym h) in
        record {
          inside = f.inside;
          free = f.free;
          moderate = f.moderate;
          keeps = kept_all p.far (nearest_allows K laws p ps ms arcs (sym h));
          lands = f.lands;
          lands_first = λ e. absurd (omega (arith, f.some));
        }

    -- where nothing is near, any free place will do
    pub any_good : Bounded K price_limit ps → (i : ℕ) (far at : C) → at ≡ get_or ps i K.zero → far ≡ K.neg at → i < length ps → get_or ms i false ≡ false → None ≡ nearest_of K ps ms None arcs → GoodPick K arcs ms ps (picked i far)
    any_good moderate i far at d e l m h = subst (λ z. GoodPick K arcs ms ps (picked i z)) (sym (e ∙ ap K.neg d)) (record {
      inside = l;
      free = m;
      moderate = omega (arith, size_neg K laws (get_or ps i K.zero), moderate i l);
      keeps = kept_all (K.neg (get_or ps i K.zero)) (All-weaker (λ a. slack_of K ps ms a ≡ None) (λ a. (q : Pick C) → slack_of K ps ms a ≡ Some q → nearer K (K.neg (get_or ps i K.zero)) q.far ≡ true)
          (λ a n q s. cc) arcs (nearest_none K laws ps ms arcs None (sym h)).1);
      lands = λ b k. omega (arith, zero_there);
      lands_first = λ e. zero_there;
    })
      where
        zero_there : K.size (K.plus (get_or ps i K.zero) (K.neg (get_or ps i K.zero))) ≡ 0
        zero_there = ap K.size (laws.cancels (get_or ps i K.zero)) ∙ size_zero K laws

    pub first_free_good : Bounded K price_limit ps → length ms ≡ length ps → 1 ≤ unmarked ms → None ≡ nearest_of K ps ms None arcs → GoodPick K arcs ms ps (first_free_of K ps ms)
    first_free_good moderate alike some h =
        let p = first_free_of K ps ms in
        any_good moderate p.place p.far (get_or ps p.place K.zero) refl refl (omega (arith, (first_free ms some).0, alike)) (first_free ms some).1 h
