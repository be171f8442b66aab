-- Changes of prices that raise no kilter number: raised prices at the nodes that are not inside, and signs kept.
use Rattle.std.proofs.Common.{◌≡◌, ℕ, ◌+◌, ◌≤◌, Bool, true, false, cond, List, [], ◌∷◌, ℤ, ◌≤ℤ◌, ◌<ℤ◌, sym, refl, ap, ◌∙◌, subst, ap₂, subst₂, arith}
use Rattle.std.specs.List.{AllByRecursion}
use Rattle.costs.specs.Kinds.{Kind, Laws, minus}
use Rattle.networks.specs.declared.network.Arc.{Arc}
use Rattle.flows.specs.Flows.{EachArc, Ends}
use Rattle.flows.specs.Kilter.{price, reduced, kilter_number, kilter_sum}
use Rattle.flows.specs.searching.Prices.{Raised, SignKept, KeptSignsEase}
use Rattle.flows.proofs.Group.{assoc, comm, left, right, right_comm, back, cancel, cancel_le, add_le, le_refl, below, above}
use Rattle.flows.proofs.Numbers.{leaving_repriced, entering_repriced, signs_repriced}

-- where each arc's number does not rise, neither does the sum
pub sum_falls : {C : Type 0} (K : Kind C) (ps qs : List C) (arcs : List (Arc C)) (fs : List ℤ) →
    EachArc (λ a f. kilter_number K (reduced K qs a) a f ≤ kilter_number K (reduced K ps a) a f) arcs fs → kilter_sum K qs arcs fs ≤ kilter_sum K ps arcs fs
sum_falls K ps qs [] fs h = omega arith
sum_falls K ps qs (a ∷ rest) [] h = omega arith
sum_falls K ps qs (a ∷ rest) (f ∷ fs) (h, hs) = both (kilter_number K (reduced K qs a) a f) (kilter_number K (reduced K ps a) a f) (kilter_sum K qs rest fs) (kilter_sum K ps rest fs) h (sum_falls K ps qs rest fs hs)
  where
    both : (a b c d : ℕ) → a ≤ b → c ≤ d → a + c ≤ b + d
    both a b c d h k = omega arith

-- the reduced cost at the prices f and t of the ends
abbrev pub at_ends : {C : Type 0} → Kind C → C → C → C → C
at_ends K c f t = minus K (K.plus c f) t

module _ {C : Type 0} (K : Kind C) (laws : Laws K) (e : C) where
  -- both ends raised by e, the end alone, and the start alone
  pub both_raised : (c f t : C) → at_ends K c (K.plus f e) (K.plus t e) ≡ at_ends K c f t
  both_raised c f t = cancel K laws (at_ends K c (K.plus f e) (K.plus t e)) (at_ends K c f t) (K.plus t e)
      (back K laws (K.plus c (K.plus f e)) (K.plus t e) ∙ sym (assoc K laws c f e) ∙ sym (sym (assoc K laws (at_ends K c f t) t e) ∙ ap (λ z. K.plus z e) (back K laws (K.plus c f) t)))

  pub to_raised : (c f t : C) → K.plus (at_ends K c f (K.plus t e)) e ≡ at_ends K c f t
  to_raised c f t = cancel K laws (K.plus (at_ends K c f (K.plus t e)) e) (at_ends K c f t) t
      (assoc K laws (at_ends K c f (K.plus t e)) e t ∙ ap (K.plus (at_ends K c f (K.plus t e))) (comm K laws e t) ∙ back K laws (K.plus c f) (K.plus t e) ∙ sym (back K laws (K.plus c f) t))

  pub from_raised : (c f t : C) → at_ends K c (K.plus f e) t ≡ K.plus (at_ends K c f t) e
  from_raised c f t = ap (λ z. K.plus z (K.neg t)) (sym (assoc K laws c f e)) ∙ right_comm K laws (K.plus c f) e (K.neg t)

  -- what holds of the reduced cost after the raise, by which ends are inside
  module _ (N : ℕ) (inside : ℕ → Bool) (ps qs : List C) (raised : Raised K N e inside ps qs) (a : Arc C) (ends : Ends N a) where
    repriced : reduced K qs a ≡ at_ends K a.cost (cond (inside a.from) (price K ps a.from) (K.plus (price K ps a.from) e)) (cond (inside a.to) (price K ps a.to) (K.plus (price K ps a.to) e))
    repriced = ap₂ (at_ends K a.cost) (raised a.from ends.0 ends.1) (raised a.to ends.2 ends.3)

    pub by_ends : (P : C → Type 0) →
        (inside a.from ≡ inside a.to → P (reduced K ps a)) →
        (inside a.from ≡ true → inside a.to ≡ false → (r : C) → K.plus r e ≡ reduced K ps a → P r) →
        (inside a.from ≡ false → inside a.to ≡ true → P (K.plus (reduced K ps a) e)) → P (reduced K qs a)
    by_ends P same leaves enters = subst P (sym repriced) (go (inside a.from) (inside a.to) refl refl)
      where
        pf : C
        pf = price K ps a.from

        pt : C
        pt = price K ps a.to

        go : (x y : Bool) → inside a.from ≡ x → inside a.to ≡ y → P (at_ends K a.cost (cond x pf (K.plus pf e)) (cond y pt (K.plus pt e)))
        go true true p q = same (p ∙ sym q)
        go true false p q = leaves p q (at_ends K a.cost pf (K.plus pt e)) (to_raised a.cost pf pt)
        go false true p q = subst P (sym (from_raised a.cost pf pt)) (enters p q)
        go false false p q = subst P (sym (both_raised a.cost pf pt)) (same (p ∙ sym q))

-- e is small enough for the arc: it cannot be run out of the nodes inside, and its reduced cost does not pass zero where it still has a bound to go to
pub record Allows {C : Type 0} (K : Kind C) (e : C) (inside : ℕ → Bool) (ps : List C) (a : Arc C) (f : ℤ) : Type 0 where
  pub fits : a.lo ≤ℤ a.hi
  pub leaves : inside a.from ≡ true → inside a.to ≡ false →
      (cond (K.le (reduced K ps a) K.zero) a.hi a.lo ≤ℤ f) × (K.le (reduced K ps a) K.zero ≡ false → f <ℤ a.hi → K.le e (reduced K ps a) ≡ true)
  pub enters : inside a.from ≡ false → inside a.to ≡ true →
      (f ≤ℤ cond (K.le K.zero (reduced K ps a)) a.lo a.hi) × (K.le K.zero (reduced K ps a) ≡ false → a.lo <ℤ f → K.le (K.plus (reduced K ps a) e) K.zero ≡ true)

module _ {C : Type 0} (K : Kind C) (laws : Laws K) where
  module _ (e : C) (up : K.le K.zero e ≡ true) where
    no_more : (r c : C) → K.plus r e ≡ c → K.le r c ≡ true
    no_more r c h = subst₂ (λ a b. K.le a b ≡ true) (right K laws r) h (add_le K laws r r K.zero e (le_refl K laws r) up)

    fallen : (a : Arc C) (f : ℤ) (c r : C) → K.plus r e ≡ c → a.lo ≤ℤ a.hi → cond (K.le c K.zero) a.hi a.lo ≤ℤ f → (K.le c K.zero ≡ false → f <ℤ a.hi → K.le e c ≡ true) → kilter_number K r a f ≤ kilter_number K c a f
    fallen a f c r h fits room small = leaving_repriced (K.le K.zero c) (K.le c K.zero) (K.le K.zero r) (K.le r K.zero) a.lo a.hi f fits room
        (λ d. laws.trans r c K.zero (no_more r c h) d) (λ u. below K laws r c K.zero (no_more r c h) u)
        (λ d l. cancel_le K laws K.zero r e (subst₂ (λ x y. K.le x y ≡ true) (sym (left K laws e)) (sym h) (small d l)))

    risen : (a : Arc C) (f : ℤ) (c : C) → a.lo ≤ℤ a.hi → f ≤ℤ cond (K.le K.zero c) a.lo a.hi → (K.le K.zero c ≡ false → a.lo <ℤ f → K.le (K.plus c e) K.zero ≡ true) → kilter_number K (K.plus c e) a f ≤ kilter_number K c a f
    risen a f c fits room small = entering_repriced (K.le K.zero c) (K.le c K.zero) (K.le K.zero (K.plus c e)) (K.le (K.plus c e) K.zero) a.lo a.hi f fits room (laws.total K.zero c)
        (λ u. laws.trans K.zero c (K.plus c e) u (no_more c (K.plus c e) refl)) (λ d. above K laws c (K.plus c e) K.zero (no_more c (K.plus c e) refl) d) small

    module _ (N : ℕ) (inside : ℕ → Bool) (ps qs : List C) (raised : Raised K N e inside ps qs) where
      -- one arc, and all of them
      pub arc_repriced : (a : Arc C) (f : ℤ) → Ends N a → Allows K e inside ps a f → kilter_number K (reduced K qs a) a f ≤ kilter_number K (reduced K ps a) a f
      arc_repriced a f ends allows = by_ends K laws e N inside ps qs raised a ends (λ c. kilter_number K c a f ≤ kilter_number K (reduced K ps a) a f)
          (λ _. omega arith)
          (λ p q r h. fallen a f (reduced K ps a) r h allows.fits (allows.leaves p q).0 (allows.leaves p q).1)
          (λ p q. risen a f (reduced K ps a) allows.fits (allows.enters p q).0 (allows.enters p q).1)

      pub all_repriced : (arcs : List (Arc C)) (fs : List ℤ) → AllByRecursion (Ends N) arcs → EachArc (Allows K e inside ps) arcs fs →
          EachArc (λ a f. kilter_number K (reduced K qs a) a f ≤ kilter_number K (reduced K ps a) a f) arcs fs
      all_repriced [] [] n r = tt
      all_repriced [] (f ∷ fs) n r = absurd r
      all_repriced (a ∷ rest) [] n r = absurd r
      all_repriced (a ∷ rest) (f ∷ fs) (n, ns) (r, rs) = (arc_repriced a f n r, all_repriced rest fs ns rs)

  -- signs kept
  pub sign_same : (c d : C) → c ≡ d → SignKept K c d
  sign_same c d e = record { up = λ h. subst (λ z. K.le K.zero z ≡ true) e h; down = λ h. subst (λ z. K.le z K.zero ≡ true) e h }

  pub sign_trans : (a b c : C) → SignKept K a b → SignKept K b c → SignKept K a c
  sign_trans a b c h k = record { up = λ x. k.up (h.up x); down = λ x. k.down (h.down x) }

  pub zero_kept : (c d : C) → SignKept K c d → c ≡ K.zero → d ≡ K.zero
  zero_kept c d k e = laws.antisym d K.zero
      (k.down (subst (λ z. K.le z K.zero ≡ true) (sym e) (le_refl K laws K.zero)))
      (k.up (subst (λ z. K.le K.zero z ≡ true) (sym e) (le_refl K laws K.zero)))

  pub arc_eased : (c d : C) (a : Arc C) (f : ℤ) → a.lo ≤ℤ a.hi → SignKept K c d → kilter_number K d a f ≤ kilter_number K c a f
  arc_eased c d a f h k = signs_repriced (K.le K.zero c) (K.le c K.zero) (K.le K.zero d) (K.le d K.zero) a.lo a.hi f h (laws.total K.zero c) k.up k.down

  pub kept_signs_ease : KeptSignsEase K
  kept_signs_ease [] [] ps qs h l s = tt
  kept_signs_ease [] (f ∷ fs) ps qs h l s = absurd (omega arith)
  kept_signs_ease (a ∷ rest) [] ps qs h l s = absurd (omega arith)
  kept_signs_ease (a ∷ rest) (f ∷ fs) ps qs (h, hs) l (s, ss) = (arc_eased (reduced K ps a) (reduced K qs a) a f h s, kept_signs_ease rest fs ps qs hs (omega arith) ss)
