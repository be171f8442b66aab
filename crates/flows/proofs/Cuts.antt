-- A cut shows that no flow within the bounds has the needs; and how a search comes to one.
use Rattle.std.proofs.Common.{◌≡◌, ℕ, zero, suc, ◌+◌, ◌-◌, ◌<◌, ◌≤◌, Bool, true, false, cond, not, ◌&&◌, ◌⊎◌, List, [], ◌∷◌, length, get_or, ℤ, pos, ◌+ℤ◌, ◌-ℤ◌, ◌≤ℤ◌, ◌<ℤ◌, sym, refl, ap, ◌∙◌, subst, ap₂, subst₂, arith}
use borrow.Author.Differences.{ints}
use Rattle.std.specs.List.{AllByRecursion}
use Rattle.std.proofs.ByRecursion.{All-weaker}
use Rattle.networks.specs.declared.network.Arc.{Arc}
use Rattle.flows.specs.Flows.{sum_arcs, leaving, entering, imbalance, EachArc, Within, Ends, Meets}
use Rattle.networks.specs.Nets.{IsAt}
use Rattle.flows.specs.searching.Ways.{Stuck, Strained}
use Rattle.flows.specs.Cuts.{can_leave, must_enter, needed_from, Cut, CutShowsNone}
use Rattle.flows.proofs.ArcSums.{integers, worth, worth_add, worth_same, gathered}

abbrev if_inside : ℤ → Bool → ℤ
if_inside x b = cond b x (pos 0)

if_inside_zero : (b : Bool) → if_inside (pos 0) b ≡ pos 0
if_inside_zero true = refl
if_inside_zero false = refl

if_inside_add : (j k : ℤ) (b : Bool) → if_inside (j +ℤ k) b ≡ if_inside j b +ℤ if_inside k b
if_inside_add j k true = refl
if_inside_add j k false = refl

needed_is : (k : ℕ) (inside : ℕ → Bool) (needs : List ℤ) (w : ℕ → ℤ) → ((n : ℕ) → k ≤ n → n < k + length needs → w n ≡ get_or needs (n - k) (pos 0)) →
    worth (pos 0) ◌+ℤ◌ if_inside k (length needs) inside w ≡ needed_from k inside needs
needed_is k inside [] w h = refl
needed_is k inside (x ∷ needs) w h =
    let z : k - k ≡ 0 = omega arith in
    ap₂ (λ x y. cond (inside k) x (pos 0) +ℤ y) (h k (omega arith) (omega arith) ∙ ap (λ i. get_or (x ∷ needs) i (pos 0)) z)
    (needed_is (suc k) inside needs w (λ j a b. let s : j - k ≡ suc (j - suc k) = omega arith in h j (omega arith) (omega arith) ∙ ap (λ i. get_or (x ∷ needs) i (pos 0)) s))

-- one arc more, by whether its ends are inside: what crosses is at most the bounds, at least them, more than them
crossing : (x y : Bool) (lo hi f o i c e : ℤ) → lo ≤ℤ f → f ≤ℤ hi → (o -ℤ i) ≤ℤ (c -ℤ e) →
    ((cond x f (pos 0) +ℤ o) -ℤ (cond y f (pos 0) +ℤ i)) ≤ℤ ((cond (x && not y) hi (pos 0) +ℤ c) -ℤ (cond (y && not x) lo (pos 0) +ℤ e))
crossing x y lo hi f o i c e l h k = grind (arith, ints)

full : (x y : Bool) (lo hi f o i c e : ℤ) → ((x ≡ true → y ≡ false → hi ≤ℤ f) × (x ≡ false → y ≡ true → f ≤ℤ lo)) → (c -ℤ e) ≤ℤ (o -ℤ i) →
    ((cond (x && not y) hi (pos 0) +ℤ c) -ℤ (cond (y && not x) lo (pos 0) +ℤ e)) ≤ℤ ((cond x f (pos 0) +ℤ o) -ℤ (cond y f (pos 0) +ℤ i))
full x y lo hi f o i c e s k = grind (arith, ints)

strained : (x y : Bool) (lo hi f o i c e : ℤ) → ((x ≡ true) × (y ≡ false) × (hi <ℤ f)) ⊎ ((x ≡ false) × (y ≡ true) × (f <ℤ lo)) → (c -ℤ e) ≤ℤ (o -ℤ i) →
    ((cond (x && not y) hi (pos 0) +ℤ c) -ℤ (cond (y && not x) lo (pos 0) +ℤ e)) <ℤ ((cond x f (pos 0) +ℤ o) -ℤ (cond y f (pos 0) +ℤ i))
strained x y lo hi f o i c e s k = grind (arith, ints)

fuller : (x y : Bool) (lo hi f o i c e : ℤ) → ((x ≡ true → y ≡ false → hi ≤ℤ f) × (x ≡ false → y ≡ true → f ≤ℤ lo)) → (c -ℤ e) <ℤ (o -ℤ i) →
    ((cond (x && not y) hi (pos 0) +ℤ c) -ℤ (cond (y && not x) lo (pos 0) +ℤ e)) <ℤ ((cond x f (pos 0) +ℤ o) -ℤ (cond y f (pos 0) +ℤ i))
fuller x y lo hi f o i c e s k = grind (arith, ints)

module _ {C : Type 0} (inside : ℕ → Bool) where
  -- what the arcs from the nodes inside carry, and those to them
  abbrev outs : List (Arc C) → List ℤ → ℤ
  outs arcs fs = sum_arcs (λ a f. if_inside f (inside a.from)) arcs fs

  abbrev ins : List (Arc C) → List ℤ → ℤ
  ins arcs fs = sum_arcs (λ a f. if_inside f (inside a.to)) arcs fs

  across : (arcs : List (Arc C)) (fs : List ℤ) → EachArc Within arcs fs → (outs arcs fs -ℤ ins arcs fs) ≤ℤ (can_leave inside arcs -ℤ must_enter inside arcs)
  across [] [] w = record { le = tt }
  across [] (f ∷ fs) w = absurd w
  across (a ∷ rest) [] w = absurd w
  across (a ∷ rest) (f ∷ fs) ((l, h), ws) =
      crossing (inside a.from) (inside a.to) a.lo a.hi f (outs rest fs) (ins rest fs) (can_leave inside rest) (must_enter inside rest) l h (across rest fs ws)

  -- the needs inside, with what enters put back, are what leaves
  needs_are : (arcs : List (Arc C)) (needs : List ℤ) → AllByRecursion (Ends (length needs)) arcs → (fs : List ℤ) → Meets arcs needs fs → needed_from 1 inside needs +ℤ ins arcs fs ≡ outs arcs fs
  needs_are arcs needs ends fs meets =
      ap₂ ◌+ℤ◌ (sym (needed_is 1 inside needs (imbalance arcs fs) (λ n l h. meets n l (omega arith)))) (sym ins_are)
      ∙ sym (worth_add integers if_inside if_inside_zero if_inside_add inside 1 (length needs) (imbalance arcs fs) (λ n. sum_arcs (entering n) arcs fs))
      ∙ worth_same integers if_inside if_inside_zero if_inside_add inside 1 (length needs) (λ n. imbalance arcs fs n +ℤ sum_arcs (entering n) arcs fs) (λ n. sum_arcs (leaving n) arcs fs) (λ n l h. put_back (sum_arcs (leaving n) arcs fs) (sum_arcs (entering n) arcs fs))
      ∙ outs_are
    where
      put_back : (x y : ℤ) → (x -ℤ y) +ℤ y ≡ x
      put_back x y = omega (arith, ints)

      outs_are : worth (pos 0) ◌+ℤ◌ if_inside 1 (length needs) inside (λ n. sum_arcs (leaving n) arcs fs) ≡ outs arcs fs
      outs_are = gathered integers if_inside if_inside_zero if_inside_add inside (λ a. a.from) (length needs) arcs fs (All-weaker (Ends (length needs)) (λ a. (1 ≤ a.from) × (a.from ≤ length needs)) (λ a e. (e.0, e.1)) arcs ends)

      ins_are : worth (pos 0) ◌+ℤ◌ if_inside 1 (length needs) inside (λ n. sum_arcs (entering n) arcs fs) ≡ ins arcs fs
      ins_are = gathered integers if_inside if_inside_zero if_inside_add inside (λ a. a.to) (length needs) arcs fs (All-weaker (Ends (length needs)) (λ a. (1 ≤ a.to) × (a.to ≤ length needs)) (λ a e. (e.2, e.3)) arcs ends)

  all_full : (arcs : List (Arc C)) (fs : List ℤ) → EachArc (Stuck inside) arcs fs → (can_leave inside arcs -ℤ must_enter inside arcs) ≤ℤ (outs arcs fs -ℤ ins arcs fs)
  all_full [] [] s = record { le = tt }
  all_full [] (f ∷ fs) s = absurd s
  all_full (a ∷ rest) [] s = absurd s
  all_full (a ∷ rest) (f ∷ fs) (s, ss) =
      full (inside a.from) (inside a.to) a.lo a.hi f (outs rest fs) (ins rest fs) (can_leave inside rest) (must_enter inside rest) s (all_full rest fs ss)

  overfull : (arcs : List (Arc C)) (fs : List ℤ) (n : ℕ) (b : Arc C) → EachArc (Stuck inside) arcs fs → IsAt arcs n b → Strained inside b (get_or fs n (pos 0)) →
      (can_leave inside arcs -ℤ must_enter inside arcs) <ℤ (outs arcs fs -ℤ ins arcs fs)
  overfull [] fs n b s (l, e) t = absurd (omega arith)
  overfull (a ∷ rest) [] n b s at t = absurd s
  overfull (a ∷ rest) (f ∷ fs) zero b (s, ss) (l, e) t =
      strained (inside a.from) (inside a.to) a.lo a.hi f (outs rest fs) (ins rest fs) (can_leave inside rest) (must_enter inside rest) (subst (λ z. Strained inside z f) e t) (all_full rest fs ss)
  overfull (a ∷ rest) (f ∷ fs) (suc n) b (s, ss) (l, e) t =
      fuller (inside a.from) (inside a.to) a.lo a.hi f (outs rest fs) (ins rest fs) (can_leave inside rest) (must_enter inside rest) s (overfull rest fs n b ss (omega arith, e) t)

  -- nodes that nothing more can leave and nothing less can enter, with one arc strained, are a cut
  pub cut_found : (arcs : List (Arc C)) (needs : List ℤ) (fs : List ℤ) (n : ℕ) (b : Arc C) → AllByRecursion (Ends (length needs)) arcs → Meets arcs needs fs →
      EachArc (Stuck inside) arcs fs → IsAt arcs n b → Strained inside b (get_or fs n (pos 0)) → Cut arcs needs inside
  cut_found arcs needs fs n b ends meets stuck at amiss =
      moved (needed_from 1 inside needs) (outs arcs fs) (ins arcs fs) (can_leave inside arcs -ℤ must_enter inside arcs) (needs_are arcs needs ends fs meets) (overfull arcs fs n b stuck at amiss)
    where
      moved : (w o i c : ℤ) → w +ℤ i ≡ o → c <ℤ (o -ℤ i) → c <ℤ w
      moved w o i c e h = omega (arith, ints)

pub cut_shows_none : (C : Type 0) → CutShowsNone C
cut_shows_none C arcs needs inside ends cut fs within meets =
    clash (needed_from 1 inside needs) (outs inside arcs fs) (ins inside arcs fs) (can_leave inside arcs -ℤ must_enter inside arcs) (needs_are inside arcs needs ends fs meets) (across inside arcs fs within) cut
  where
    clash : (w o i c : ℤ) → w +ℤ i ≡ o → (o -ℤ i) ≤ℤ c → c <ℤ w → ⊥
    clash w o i c e l h = omega (arith, ints)

needs_same : (p q : ℕ → Bool) (N : ℕ) → ((n : ℕ) → 1 ≤ n → n ≤ N → p n ≡ q n) → (k : ℕ) (needs : List ℤ) → 1 ≤ k → k + length needs ≤ N + 1 → needed_from k p needs ≡ needed_from k q needs
needs_same p q N same k [] l h = refl
needs_same p q N same k (x ∷ needs) l h = ap₂ (λ b r. cond b x (pos 0) +ℤ r) (same k l (omega arith)) (needs_same p q N same (suc k) needs (omega arith) (omega arith))

-- a cut is one by every test that agrees on the nodes
module _ {C : Type 0} (p q : ℕ → Bool) (N : ℕ) (same : (n : ℕ) → 1 ≤ n → n ≤ N → p n ≡ q n) where
  leave_same : (arcs : List (Arc C)) → AllByRecursion (Ends N) arcs → can_leave p arcs ≡ can_leave q arcs
  leave_same [] e = refl
  leave_same (a ∷ rest) ((k, l, m, n), es) = ap₂ ◌+ℤ◌ (ap₂ (λ x y. cond (x && not y) a.hi (pos 0)) (same a.from k l) (same a.to m n)) (leave_same rest es)

  enter_same : (arcs : List (Arc C)) → AllByRecursion (Ends N) arcs → must_enter p arcs ≡ must_enter q arcs
  enter_same [] e = refl
  enter_same (a ∷ rest) ((k, l, m, n), es) = ap₂ ◌+ℤ◌ (ap₂ (λ x y. cond (y && not x) a.lo (pos 0)) (same a.from k l) (same a.to m n)) (enter_same rest es)

  pub cut_same : (arcs : List (Arc C)) (needs : List ℤ) → length needs ≡ N → AllByRecursion (Ends N) arcs → Cut arcs needs p → Cut arcs needs q
  cut_same arcs needs l ends cut = subst₂ (λ x y. x <ℤ y) (ap₂ ◌-ℤ◌ (leave_same arcs ends) (enter_same arcs ends)) (needs_same p q N same 1 needs (omega arith) (omega arith)) cut
