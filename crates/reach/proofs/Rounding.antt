-- What holds from round to round: how far prices can be from those at the start, by how many nodes are labelled.
use Rattle.std.proofs.Common.{◌≡◌, ℕ, Ok, Result, ◌+◌, ◌-◌, ◌*◌, ◌<◌, ◌≤◌, Bool, true, false, cond, List, length, get_or, ℤ, sym, refl, ap, ◌∙◌, subst, inl, inr, ⊎_elim, arith}
use Rattle.std.proofs.lemmas.Bool.{ltb-true, ltb-false, cases_lt}
use Rattle.costs.specs.Kinds.{Kind, Laws}
use Rattle.networks.specs.declared.network.Arc.{Arc}
use Rattle.flows.specs.declared.steps.Step.{Step}
use Rattle.flows.specs.searching.Fits.{Bounded, found_limit}
use Rattle.flows.specs.Kilter.{price, reduced, kilter_number}
use Rattle.flows.proofs.ArcSums.{each_at, each_from, each_long}
use Rattle.flows.proofs.Group.{size_zero}
use Rattle.flows.proofs.Shifts.{Shifted, SmallPrices, not_shifted, still_shifted, more_shifted, raised_inside, shift_small}
use Rattle.labels.specs.declared.labelling.Labels.{Labels}
use Rattle.labels.specs.Good.{count, node_at, place_of, Whole, Good, Grown}
use Rattle.labels.specs.Ways.{Chosen}
use Rattle.reach.specs.Scans.{is_labelled}
use Rattle.reach.specs.Rises.{Risen, Changed}
use Rattle.reach.specs.declared.rounds.Over.{Over}
use Rattle.labels.specs.Searches.{Searching}
use Rattle.flows.specs.searching.Prices.{Eased}
use Rattle.reach.specs.Rounds.{large, Repriced, Advanced}
use Rattle.reach.proofs.Turning.{none_higher, same_source}
use Rattle.flows.specs.searching.Prices.{SmallInside}

-- the largest size of the price of a labelled node, with k nodes labelled: each has at most twice the largest price at the start and one cost more
abbrev pub bound : ℕ → ℕ
bound k = 1000000000000 + 2000001000000 * k

-- the labelled nodes have prices of at most the bound, and the others those at the start with one shift added
pub record Held {C : Type 0} (K : Kind C) (old ps : List C) (ls : Labels) : Type 0 where
  pub long : length ps ≡ length old
  pub shift : C
  pub shifted : Shifted K (length old) old (is_labelled ls) ps shift
  pub shift_small : K.size shift ≤ bound (count ls) + 1000001000000
  pub inside : SmallInside K (length old) (is_labelled ls) ps (bound (count ls))

-- a labelled node was labelled before, or there is one more
newly : (N : ℕ) (ls ms : Labels) → Whole N ls → Whole N ms → Grown ls ms → (n : ℕ) → 1 ≤ n → is_labelled ms n ≡ true → is_labelled ls n ≡ false → count ls + 1 ≤ count ms
newly N ls ms old new grown n low labelled not =
    let p = ltb-true 0 (place_of ms n) labelled in
    let (few, is) = new.holds n low p in
    ⊎_elim (λ (h : place_of ms n - 1 < count ls).
    let e : node_at ls (place_of ms n - 1) ≡ n = ap (λ x. x.node) (sym (grown.same (place_of ms n - 1) h)) ∙ is in
    let q : place_of ls n ≡ place_of ms n - 1 + 1 = ap (place_of ls) (sym e) ∙ old.placed (place_of ms n - 1) h in
    absurd (let z = ltb-false 0 (place_of ls n) not in omega arith))
    (λ (h : count ls ≤ place_of ms n - 1). omega arith) (cases_lt (place_of ms n - 1) (count ls))

kept_label : (ls ms : Labels) → Grown ls ms → (n : ℕ) → is_labelled ms n ≡ false → is_labelled ls n ≡ false
kept_label ls ms grown n not = go (is_labelled ls n) refl
  where
    go : (t : Bool) → is_labelled ls n ≡ t → is_labelled ls n ≡ false
    go true q = let h = ltb-true 0 (place_of ls n) q in absurd (let e = grown.kept n h in let z = ltb-false 0 (place_of ms n) not in omega arith)
    go false q = q

module _ {C : Type 0} (K : Kind C) (laws : Laws K) (old : List C) (tame : Bounded K large old) where
  small_start : SmallPrices K (length old) old large
  small_start n l h = tame (n - 1) (omega arith)

  pub held_start : (ls : Labels) → Held K old old ls
  held_start ls = record {
    long = refl;
    shift = K.zero;
    shifted = not_shifted K laws (length old) old (is_labelled ls);
    shift_small = omega (arith, size_zero K laws);
    inside = λ n l h i. omega (arith, small_start n l h);
  }

  outside_small : (ps : List C) (ls : Labels) → Held K old ps ls → (n : ℕ) → 1 ≤ n → n ≤ length old → is_labelled ls n ≡ false → K.size (price K ps n) ≤ bound (count ls + 1)
  outside_small ps ls held n l h o = subst (λ z. K.size z ≤ bound (count ls + 1)) (sym (held.shifted n l h o))
      (omega (arith, laws.adds.size_plus (price K old n) held.shift, small_start n l h, held.shift_small))

  pub held_grown : (ps : List C) (ls ms : Labels) → Held K old ps ls → Whole (length old) ls → Whole (length old) ms → Grown ls ms → Held K old ps ms
  held_grown ps ls ms held before now grown = record {
    long = held.long;
    shift = held.shift;
    shifted = still_shifted K laws (length old) old (is_labelled ls) (is_labelled ms) ps held.shift (kept_label ls ms grown) held.shifted;
    shift_small = omega (arith, held.shift_small, grown.more);
    inside = λ n l h i. go n l h i (is_labelled ls n) refl;
  }
    where
      go : (n : ℕ) → 1 ≤ n → n ≤ length old → is_labelled ms n ≡ true → (t : Bool) → is_labelled ls n ≡ t → K.size (price K ps n) ≤ bound (count ms)
      go n l h i true q = omega (arith, held.inside n l h q, grown.more)
      go n l h i false q = omega (arith, outside_small ps ls held n l h q, newly (length old) ls ms before now grown n l i q)

  pub held_risen : (ps qs : List C) (ls : Labels) → Held K old ps ls → length qs ≡ length ps → Risen K (length ps) ls ps qs → Held K old qs ls
  held_risen ps qs ls held same risen = record {
    long = same ∙ held.long;
    shift = K.plus held.shift risen.by;
    shifted = more;
    shift_small = omega (
      arith,
      shift_small K laws (length old) old (is_labelled ls) qs (K.plus held.shift risen.by) more large (bound (count ls) + 1000000) risen.node risen.low (omega (arith, risen.high, held.long)) risen.outside small_start
          (risen.landed (bound (count ls)) (λ n l h i. held.inside n l (omega (arith, held.long)) i)),
    );
    inside = λ n l h i. subst (λ z. K.size z ≤ bound (count ls)) (sym (raised_inside K laws (length old) old (is_labelled ls) ps qs risen.by raised n l h i)) (held.inside n l h i);
  }
    where
      raised : (n : ℕ) → 1 ≤ n → n ≤ length old → price K qs n ≡ cond (is_labelled ls n) (price K ps n) (K.plus (price K ps n) risen.by)
      raised n l h = risen.raised n l (omega (arith, held.long))

      more : Shifted K (length old) old (is_labelled ls) qs (K.plus held.shift risen.by)
      more = more_shifted K laws (length old) old (is_labelled ls) ps qs held.shift risen.by held.shifted raised

  pub held_changed : (ps qs : List C) (ls : Labels) → Held K old ps ls → length qs ≡ length ps → Changed K (length ps) ls ps qs → Held K old qs ls
  held_changed ps qs ls held same (inl q) = subst (λ z. Held K old z ls) (sym q) held
  held_changed ps qs ls held same (inr r) = held_risen ps qs ls held same r

  -- every price is within the limit
  pub held_small : (ps : List C) (ls : Labels) → Held K old ps ls → count ls ≤ 256 → Bounded K found_limit ps
  held_small ps ls held few k h =
      let e : k + 1 - 1 ≡ k = omega arith in
      subst (λ j. K.size (get_or ps j K.zero) ≤ found_limit) e (go (is_labelled ls (k + 1)) refl)
    where
      go : (t : Bool) → is_labelled ls (k + 1) ≡ t → K.size (price K ps (k + 1)) ≤ found_limit
      go true q = omega (arith, held.inside (k + 1) (omega arith) (omega (arith, held.long)) q)
      go false q = omega (arith, outside_small ps ls held (k + 1) (omega arith) (omega (arith, held.long)) q)

-- no higher than what is no higher
pub higher_both : {C : Type 0} (K : Kind C) (arcs : List (Arc C)) (flow : List ℤ) (ps qs rs : List C) → Eased K arcs flow ps qs → Eased K arcs flow qs rs → Eased K arcs flow ps rs
higher_both K arcs flow ps qs rs h k =
    each_from (λ a f. kilter_number K (reduced K rs a) a f ≤ kilter_number K (reduced K ps a) a f) arcs flow (each_long (λ a f. kilter_number K (reduced K qs a) a f ≤ kilter_number K (reduced K ps a) a f) arcs flow h)
    (λ i a f is at.
    let x = each_at (λ a f. kilter_number K (reduced K qs a) a f ≤ kilter_number K (reduced K ps a) a f) arcs flow i a f h is at in
    let y = each_at (λ a f. kilter_number K (reduced K rs a) a f ≤ kilter_number K (reduced K qs a) a f) arcs flow i a f k is at in
    meet (kilter_number K (reduced K rs a) a f) (kilter_number K (reduced K qs a) a f) (kilter_number K (reduced K ps a) a f) y x)
  where
    meet : (a b c : ℕ) → a ≤ b → b ≤ c → a ≤ c
    meet a b c h k = omega arith

-- the invariant: besides, no kilter number rose, the labelling is good and the chosen step is still wanted
pub record Rounding {C : Type 0} (K : Kind C) (arcs : List (Arc C)) (flow : List ℤ) (old ps : List C) (chosen : Step) (ls : Labels) : Type 0 where
  pub held : Held K old ps ls
  pub eased : Eased K arcs flow old ps
  pub good : Good K arcs flow ps chosen.arc ls
  pub wanted : Chosen K arcs flow ps chosen (node_at ls 0)

module _ {C : Type 0} {K : Kind C} (laws : Laws K) {arcs : List (Arc C)} {flow : List ℤ} {old : List C} (tame : Bounded K large old) {chosen : Step} where
  pub rounding_start : {ls : Labels} → Searching K arcs flow old chosen ls → Rounding K arcs flow old old chosen ls
  rounding_start {ls} at = record { held = held_start K laws old tame ls; eased = none_higher K arcs flow old at.long; good = at.good; wanted = at.wanted }

  module _ {ps : List C} {ls : Labels} (before : Rounding K arcs flow old ps chosen ls) where
    whole : (qs : List C) (ms : Labels) → length qs ≡ length ps → Good K arcs flow qs chosen.arc ms → Whole (length old) ms
    whole qs ms same good = subst (λ n. Whole n ms) (same ∙ before.held.long) good.whole

    pub rounding_small : Bounded K found_limit ps
    rounding_small = held_small K laws old tame ps ls before.held before.good.whole.few

    -- more nodes are labelled
    pub rounding_labelled : {ms : Labels} → Good K arcs flow ps chosen.arc ms → Grown ls ms → Rounding K arcs flow old ps chosen ms
    rounding_labelled {ms} good grown = record {
      held = held_grown K laws old tame ps ls ms before.held (whole ps ls refl before.good) (whole ps ms refl good) grown;
      eased = before.eased;
      good = good;
      wanted = same_source K arcs flow ps chosen ls ms before.good.some grown before.wanted;
    }

    module _ {qs : List C} {ms : Labels} where
      held_after : {r : Result (Unit {0}) Over} → Advanced K arcs flow ps qs chosen ls ms r → Held K old qs ls
      held_after done = held_changed K laws old tame ps qs ls before.held done.long done.changed

      -- a round is over, and one node more is labelled
      pub rounding_advanced : Advanced K arcs flow ps qs chosen ls ms (Ok tt) → Rounding K arcs flow old qs chosen ms
      rounding_advanced done =
          let (good, wanted, more) = done.ends in
          record {
            held = held_grown K laws old tame qs ls ms (held_after done) (whole ps ls refl before.good) (whole qs ms done.long good) done.grown;
            eased = higher_both K arcs flow old ps qs before.eased done.eased;
            good = good;
            wanted = wanted;
          }

      -- the rounds are over
      pub repriced_after : {r : Result (Unit {0}) Over} → Advanced K arcs flow ps qs chosen ls ms r → Repriced K arcs flow old qs
      repriced_after done = record {
        long = done.long ∙ before.held.long;
        small = held_small K laws old tame qs ls (held_after done) before.good.whole.few;
        eased = higher_both K arcs flow old ps qs before.eased done.eased;
      }

    pub repriced_here : Repriced K arcs flow old ps
    repriced_here = record { long = before.held.long; small = rounding_small; eased = before.eased }
