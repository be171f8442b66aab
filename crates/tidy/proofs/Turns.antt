-- One node more is labelled: what the loop of tidy keeps.
use Rattle.std.proofs.Common.{◌≡◌, ℕ, suc, ◌+◌, ◌-◌, ◌*◌, ◌<◌, ◌≤◌, Bool, true, false, List, [], ◌∷◌, length, get_or, set, sym, refl, ap, ◌∙◌, subst, ⊎_elim, mul-le-mul_right, suc-mul, mul-le-mul, arith, length-set, get_or-set_other, get_or-set_same}
use Rattle.std.proofs.lemmas.Bool.{cases_eq}
use Rattle.networks.specs.declared.network.Arc.{Arc}
use Rattle.costs.specs.Kinds.{Kind, Laws}
use Rattle.flows.specs.Kilter.{price, reduced, largest}
use Rattle.flows.specs.searching.Prices.{Raised, SignKept, SignsKept, SmallInside}
use Rattle.flows.specs.searching.Fits.{Bounded, found_limit, price_limit}
use Rattle.flows.proofs.Group.{size_zero}
use Rattle.flows.proofs.Prices.{sign_same, sign_trans}
use Rattle.flows.proofs.Shifts.{Shifted, SmallPrices, not_shifted, still_shifted, more_shifted, raised_inside, raised_outside, shift_small, all_small}
use Rattle.tidy.specs.declared.picks.Pick.{Pick}
use Rattle.tidy.specs.Picks.{labelled_at, unmarked, GoodPick, Tidied}
use Rattle.tidy.proofs.Marks.{one_less, all_labelled_at, some_labelled_at}
use Rattle.tidy.proofs.Picking.{all_both}

-- k nodes are labelled; the others have their old prices with one shift added
pub record Tidying {C : Type 0} (K : Kind C) (arcs : List (Arc C)) (old ps : List C) (ms : List Bool) (k : ℕ) : Type 0 where
  pub sized : length ps ≡ length old
  pub alike : length ms ≡ length old
  pub signs : SignsKept K arcs old ps
  pub near : SmallInside K (length old) (labelled_at ms) ps ((k - 1) * largest K arcs)
  pub shift : C
  pub rest : Shifted K (length old) old (labelled_at ms) ps shift
  pub shift_size : K.size shift ≤ found_limit + (k - 1) * largest K arcs
  pub left : unmarked ms + k ≡ length old

-- products
step_up : (k c : ℕ) → 1 ≤ k → (k - 1) * c + c ≡ (k + 1 - 1) * c
step_up k c h =
    let e : k + 1 - 1 ≡ suc (k - 1) = omega arith in
    sym (suc-mul (k - 1) c) ∙ sym (ap (λ z. z * c) e)

grows : (k c : ℕ) → (k - 1) * c ≤ (k + 1 - 1) * c
grows k c = mul-le-mul_right c (omega arith)

pub few : (k c : ℕ) → k ≤ 256 → c ≤ 1000000 → (k - 1) * c ≤ 256000000
few k c h l = let e : k - 1 ≤ 256 = omega arith in mul-le-mul e l

-- a node that is labelled once place j is marked was labelled before, or it is that place's
newly : (ms : List Bool) (j n : ℕ) → (n - 1 ≡ j → ⊥) → labelled_at (set ms j true) n ≡ labelled_at ms n
newly ms j n other = get_or-set_other ms j (n - 1) true false other

fewer : (ms : List Bool) (j : ℕ) → j < length ms → (n : ℕ) → labelled_at (set ms j true) n ≡ false → labelled_at ms n ≡ false
fewer ms j l n m = ⊎_elim
    (λ (e : n - 1 ≡ j). let z : false ≡ true = sym (subst (λ z. get_or (set ms j true) z false ≡ false) e m) ∙ get_or-set_same ms j true false l in cc)
    (λ (ne : n - 1 ≡ j → ⊥). sym (newly ms j n ne) ∙ m) (cases_eq (n - 1) j)

module _ {C : Type 0} (K : Kind C) (laws : Laws K) (arcs : List (Arc C)) where
  pub start : (old : List C) (ms : List Bool) → length ms ≡ length old → unmarked ms ≡ length ms → Tidying K arcs old old ms 0
  start old ms alike clear = record {
    sized = refl;
    alike = alike;
    signs = same arcs;
    near = λ n l h m. absurd (omega (arith, some_labelled_at ms (n - 1) m));
    shift = K.zero;
    rest = not_shifted K laws (length old) old (labelled_at ms);
    shift_size = omega (arith, size_zero K laws);
    left = omega arith;
  }
    where
      same : (arcs : List (Arc C)) → SignsKept K arcs old old
      same [] = tt
      same (a ∷ rest) = (sign_same K laws (reduced K old a) (reduced K old a) refl, same rest)

  module _ (old ps : List C) (ms : List Bool) (k : ℕ) (t : Tidying K arcs old ps ms k) where
    -- all are labelled
    pub finish : k ≡ length old → Tidied K arcs old ps
    finish e = record {
      signs = t.signs;
      small = λ u b.
          let d : suc u - 1 ≡ u = omega arith in
          let l = all_labelled_at ms (omega (arith, t.left)) u (omega (arith, t.sized, t.alike)) in
          subst (λ z. K.size (get_or ps z K.zero) ≤ (length old - 1) * largest K arcs) d
          (subst (λ z. K.size (price K ps (suc u)) ≤ (z - 1) * largest K arcs) e (t.near (suc u) (omega arith) (omega (arith, t.sized)) (ap (λ z. get_or ms z false) d ∙ l)));
      long = t.sized;
    }

  module _ (old ps : List C) (ms : List Bool) (k : ℕ) (t : Tidying K arcs old ps ms k) (small : Bounded K found_limit old) where
    old_small : SmallPrices K (length old) old found_limit
    old_small n l h = small (n - 1) (omega arith)

    -- every price is moderate
    pub all_moderate : k ≤ 256 → largest K arcs ≤ 1000000 → Bounded K price_limit ps
    all_moderate h l u b =
        let near = (k - 1) * largest K arcs in
        let e : suc u - 1 ≡ u = omega arith in
        let each = all_small K laws (length old) old (labelled_at ms) ps t.shift t.rest found_limit near (found_limit + near) old_small t.near t.shift_size (suc u) (omega arith) (omega (arith, b, t.sized)) in
        omega (arith, ap (λ z. K.size (get_or ps z K.zero)) e, each, few k (largest K arcs) h l)

    module _ (qs : List C) (p : Pick C) (good : GoodPick K arcs ms ps p) (long : length qs ≡ length ps) (raised' : Raised K (length ps) p.far (labelled_at ms) ps qs) where
      inside_marks : p.place < length ms
      inside_marks = omega (arith, good.inside, t.sized, t.alike)

      raised : Raised K (length old) p.far (labelled_at ms) ps qs
      raised = subst (λ z. Raised K z p.far (labelled_at ms) ps qs) t.sized raised'

      near : SmallInside K (length ps) (labelled_at ms) ps ((k - 1) * largest K arcs)
      near = subst (λ z. SmallInside K z (labelled_at ms) ps ((k - 1) * largest K arcs)) (sym t.sized) t.near

      -- the node at the place
      is_place : suc p.place - 1 ≡ p.place
      is_place = omega arith

      high : suc p.place ≤ length old
      high = omega (arith, good.inside, t.sized)

      free : labelled_at ms (suc p.place) ≡ false
      free = ap (λ z. get_or ms z false) is_place ∙ good.free

      landed_price : price K qs (suc p.place) ≡ K.plus (get_or ps p.place K.zero) p.far
      landed_price = raised_outside K laws (length old) old (labelled_at ms) ps qs p.far raised (suc p.place) (omega arith) high free ∙ ap (λ z. K.plus (get_or ps z K.zero) p.far) is_place

      landed_size : K.size (price K qs (suc p.place)) ≤ (k + 1 - 1) * largest K arcs
      landed_size = subst (λ z. K.size z ≤ (k + 1 - 1) * largest K arcs) (sym landed_price) (⊎_elim
          (λ (e : k ≡ 0). omega (arith, good.lands_first (omega (arith, t.left, t.alike))))
          (λ (e : k ≡ 0 → ⊥). omega (arith, good.lands ((k - 1) * largest K arcs) near, step_up k (largest K arcs) (omega arith))) (cases_eq k 0))

      shifted : Shifted K (length old) old (labelled_at ms) qs (K.plus t.shift p.far)
      shifted = more_shifted K laws (length old) old (labelled_at ms) ps qs t.shift p.far t.rest raised

      near_after : SmallInside K (length old) (labelled_at (set ms p.place true)) qs ((k + 1 - 1) * largest K arcs)
      near_after n l h m = ⊎_elim
          (λ (e : n - 1 ≡ p.place). subst (λ z. K.size (get_or qs z K.zero) ≤ (k + 1 - 1) * largest K arcs) (is_place ∙ sym e) landed_size)
          (λ (ne : n - 1 ≡ p.place → ⊥).
          let was : labelled_at ms n ≡ true = sym (newly ms p.place n ne) ∙ m in
          subst (λ z. K.size z ≤ (k + 1 - 1) * largest K arcs) (sym (raised_inside K laws (length old) old (labelled_at ms) ps qs p.far raised n l h was))
          (omega (arith, t.near n l h was, grows k (largest K arcs)))) (cases_eq (n - 1) p.place)

      pub labelled : Tidying K arcs old qs (set ms p.place true) (k + 1)
      labelled = record {
        sized = long ∙ t.sized;
        alike = length-set ms p.place true ∙ t.alike;
        signs = all_both (λ a. SignKept K (reduced K old a) (reduced K ps a)) (λ a. SignKept K (reduced K ps a) (reduced K qs a)) (λ a. SignKept K (reduced K old a) (reduced K qs a))
            (λ a x y. sign_trans K laws (reduced K old a) (reduced K ps a) (reduced K qs a) x y) arcs t.signs (good.keeps qs raised');
        near = near_after;
        shift = K.plus t.shift p.far;
        rest = still_shifted K laws (length old) old (labelled_at ms) (labelled_at (set ms p.place true)) qs (K.plus t.shift p.far) (fewer ms p.place inside_marks) shifted;
        shift_size = omega (arith, shift_small K laws (length old) old (labelled_at ms) qs (K.plus t.shift p.far) shifted found_limit ((k + 1 - 1) * largest K arcs) (suc p.place) (omega arith) high free old_small landed_size);
        left = omega (arith, one_less ms p.place inside_marks good.free, t.left);
      }
