-- The chosen arc while the sought node is not labelled: it leads from there to a labelled one, so that it takes part in each rise.
use Rattle.std.proofs.Common.{◌≡◌, ℕ, ◌≤◌, Bool, true, false, cond, not, List, length, get_or, ℤ, pos, Some, sym, refl, ap, ◌∙◌, subst, arith}
use Rattle.std.proofs.lemmas.Bool.{lt-ltb, le-ltb, false≢true}
use Rattle.costs.specs.Kinds.{Kind, Laws}
use Rattle.networks.specs.Nets.{IsAt}
use Rattle.networks.specs.declared.network.Arc.{Arc}
use Rattle.flows.specs.declared.steps.Step.{Step}
use Rattle.flows.specs.searching.Fits.{Fit, Fitting, Bounded, price_limit, change_limit}
use Rattle.flows.specs.Kilter.{reduced}
use Rattle.flows.specs.Laps.{near, far}
use Rattle.flows.specs.searching.Prices.{Raised}
use Rattle.flows.proofs.ArcSums.{same_at}
use Rattle.flows.proofs.Prices.{by_ends}
use Rattle.flows.specs.searching.Ways.{Amiss}
use Rattle.labels.specs.declared.labelling.Labels.{Labels}
use Rattle.labels.specs.Good.{node_at, place_of, Good}
use Rattle.labels.specs.Moves.{may}
use Rattle.labels.specs.Ways.{Chosen}
use Rattle.reach.specs.Scans.{is_labelled}
use Rattle.reach.specs.Rises.{own_limit_at, Risen}
use Rattle.reach.proofs.Landing.{rise_of, rise_small, landing}
use Rattle.reach.proofs.Wanting.{Wants, After, ShortOf, wants_from, wants_to, still_wants, own_is}

-- the chosen arc a
pub record Aimed {C : Type 0} (K : Kind C) (arcs : List (Arc C)) (flow : List ℤ) (ps : List C) (chosen : Step) (ls : Labels) (a : Arc C) : Type 0 where
  pub is : IsAt arcs chosen.arc a
  pub fit : Fit K (length ps) a
  pub outside : is_labelled ls (near a chosen.along) ≡ false
  pub inside : is_labelled ls (far a chosen.along) ≡ true
  pub wants : Wants K (reduced K ps a) a chosen.along (get_or flow chosen.arc (pos 0))

module _ {C : Type 0} (K : Kind C) (laws : Laws K) (arcs : List (Arc C)) (flow : List ℤ) (ps : List C) (chosen : Step) (ls : Labels) where
  pub aim : Fitting K (length ps) arcs → Good K arcs flow ps chosen.arc ls → Chosen K arcs flow ps chosen (node_at ls 0) → place_of ls chosen.node ≡ 0 →
      (a : Arc C) × Aimed K arcs flow ps chosen ls a
  aim fitting good step sought =
      let (a, is, n, f) = step.leads in
      let p : place_of ls (node_at ls 0) ≡ 1 = good.whole.placed 0 (omega (arith, good.some)) in (
        a,
        record {
          is = is;
          fit = fitting chosen.arc a is;
          outside = le-ltb 0 (place_of ls (near a chosen.along)) (let q : place_of ls (near a chosen.along) ≡ 0 = ap (place_of ls) n ∙ sought in omega arith);
          inside = lt-ltb 0 (place_of ls (far a chosen.along)) (let q : place_of ls (far a chosen.along) ≡ 1 = ap (place_of ls) f ∙ p in omega arith);
          wants = wants_from K laws ps a chosen.along (get_or flow chosen.arc (pos 0)) (step.amiss a is) (step.moving.1 a is);
        },
      )

  module _ (a : Arc C) (aimed : Aimed K arcs flow ps chosen ls a) where
    crosses : (along : Bool) → is_labelled ls (near a along) ≡ false → is_labelled ls (far a along) ≡ true → (is_labelled ls (near a (not along)) ≡ true) × (is_labelled ls (far a (not along)) ≡ false)
    crosses true o i = (i, o)
    crosses false o i = (i, o)

    -- a rise by its own limit
    own_rise : (o : C) → own_limit_at K (reduced K ps a) a chosen.along (get_or flow chosen.arc (pos 0)) ≡ Some o → o ≡ rise_of K laws (reduced K ps a) (not chosen.along)
    own_rise o h = (own_is K laws (reduced K ps a) o a chosen.along (get_or flow chosen.arc (pos 0)) h).1 ∙ go chosen.along
      where
        go : (along : Bool) → cond along (K.neg (reduced K ps a)) (reduced K ps a) ≡ rise_of K laws (reduced K ps a) (not along)
        go true = refl
        go false = refl

    pub own_small : (o : C) → own_limit_at K (reduced K ps a) a chosen.along (get_or flow chosen.arc (pos 0)) ≡ Some o → Bounded K price_limit ps → K.size o ≤ change_limit
    own_small o h small = rise_small K laws ps a (not chosen.along) o (own_rise o h) aimed.fit small

    module _ (qs : List C) (e : C) (raised : Raised K (length ps) e (is_labelled ls) ps qs) where
      pub own_lands : own_limit_at K (reduced K ps a) a chosen.along (get_or flow chosen.arc (pos 0)) ≡ Some e → Risen K (length ps) ls ps qs
      own_lands h =
          let x = crosses chosen.along aimed.outside aimed.inside in
          landing K laws ls ps qs a (not chosen.along) e (own_rise e h) aimed.fit x.0 x.1 raised

      pub after : After K e (reduced K ps a) (reduced K qs a) chosen.along
      after = go chosen.along aimed.outside aimed.inside
        where
          go : (along : Bool) → is_labelled ls (near a along) ≡ false → is_labelled ls (far a along) ≡ true → After K e (reduced K ps a) (reduced K qs a) along
          go true o i = by_ends K laws e (length ps) (is_labelled ls) ps qs raised a aimed.fit.ends (λ d. d ≡ K.plus (reduced K ps a) e)
              (λ s. absurd (false≢true (sym o ∙ s ∙ i))) (λ p q r h. absurd (false≢true (sym o ∙ p))) (λ p q. refl)
          go false o i = by_ends K laws e (length ps) (is_labelled ls) ps qs raised a aimed.fit.ends (λ d. K.plus d e ≡ reduced K ps a)
              (λ s. absurd (false≢true (sym o ∙ sym s ∙ i))) (λ p q r h. h) (λ p q. absurd (false≢true (sym p ∙ i)))

      -- short of its limit it is still the chosen one
      pub still_chosen : ShortOf K (own_limit_at K (reduced K ps a) a chosen.along (get_or flow chosen.arc (pos 0))) e → (n : ℕ) → Chosen K arcs flow ps chosen n → Chosen K arcs flow qs chosen n
      still_chosen short n step = record {
        leads = step.leads;
        moving = (step.moving.0, λ b is. subst (λ z. may K qs z chosen.along (get_or flow chosen.arc (pos 0)) ≡ true) (same_at arcs chosen.arc a b aimed.is is) w.1);
        amiss = λ b is. subst (λ z. Amiss K qs z chosen.along (get_or flow chosen.arc (pos 0))) (same_at arcs chosen.arc a b aimed.is is) w.0;
      }
        where
          w : Amiss K qs a chosen.along (get_or flow chosen.arc (pos 0)) × (may K qs a chosen.along (get_or flow chosen.arc (pos 0)) ≡ true)
          w = wants_to K laws qs a chosen.along (get_or flow chosen.arc (pos 0)) aimed.fit.order
              (still_wants K laws e (reduced K ps a) (reduced K qs a) a chosen.along (get_or flow chosen.arc (pos 0)) aimed.wants short after)
