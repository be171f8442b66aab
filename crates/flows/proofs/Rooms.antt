-- A lap whose steps have room, the first over an arc out of kilter that way, leads to a better flow, nearer to kilter.
use Rattle.std.proofs.Common.{◌≡◌, ℕ, ◌+◌, ◌<◌, ◌≤◌, Bool, true, false, cond, not, ◌⊎◌, List, [], ◌∷◌, map, length, get_or, set, ℤ, pos, negsuc, ◌+ℤ◌, neg_ℤ, nat_abs, ◌≤ℤ◌, ◌<ℤ◌, sym, refl, ap, ◌∙◌, subst, ap₂, subst₂, inl, inr, ⊎_elim, arith, length-set}
use borrow.Author.Differences.{ints}
use Rattle.std.specs.List.{AllByRecursion}
use Rattle.std.proofs.lemmas.List.{get_or-set_same, get_or-set_other}
use Rattle.std.proofs.lemmas.Bool.{cases_eq}
use Rattle.costs.specs.Kinds.{Kind, Laws, sums, minus}
use Rattle.networks.specs.declared.network.Arc.{Arc}
use Rattle.flows.specs.declared.steps.Step.{Step}
use Rattle.flows.specs.Flows.{total, outside, excess, EachArc, Limited}
use Rattle.flows.specs.Kilter.{price, reduced, kilter_number, kilter_sum}
use Rattle.networks.specs.Nets.{IsAt}
use Rattle.networks.specs.Limits.{flow_limit}
use Rattle.flows.specs.searching.Ways.{Amiss}
use Rattle.flows.specs.Laps.{near, far, Leads, first, Chain, Apart, moved, sent, Better}
use Rattle.flows.proofs.Group.{assoc, comm, left, left_comm, swap, cancel, cancel_le, cancel_less, le_refl, add_le, below, times_zero, times_one, times_add, times_plus, times_minus, times_cancel, times_up, times_down}
use Rattle.flows.proofs.ArcSums.{at_place, each_get_or, each_set, naturals, costs, over_set}
use Rattle.flows.proofs.Numbers.{Eases, Mends, along_eases, against_eases, along_mends, against_mends}

-- the arc has room for the change from f to g: along, up to hi where its reduced cost is not above zero, else up to lo; against alike
pub record Room {C : Type 0} (K : Kind C) (ps : List C) (a : Arc C) (along : Bool) (f g : ℤ) : Type 0 where
  pub fits : a.lo ≤ℤ a.hi
  pub if_along : along ≡ true → (f <ℤ g) × (g ≤ℤ cond (K.le (reduced K ps a) K.zero) a.hi a.lo)
  pub if_against : along ≡ false → (g <ℤ f) × (cond (K.le K.zero (reduced K ps a)) a.lo a.hi ≤ℤ g)

-- the step has room for x in the flow
abbrev pub HasRoom : {C : Type 0} → Kind C → List C → List (Arc C) → ℤ → List ℤ → Step → Type 0
HasRoom {C} K ps arcs x fs s = (a : Arc C) → IsAt arcs s.arc a → Room K ps a s.along (get_or fs s.arc (pos 0)) (moved x s fs)

-- each step has room in its turn
abbrev pub Roomy : {C : Type 0} → Kind C → List C → List (Arc C) → ℤ → List Step → List ℤ → Type 0
Roomy K ps arcs x [] fs = Unit {0}
Roomy K ps arcs x (s ∷ rest) fs = HasRoom K ps arcs x fs s × Roomy K ps arcs x rest (set fs s.arc (moved x s fs))

-- a step with room stays within the limits
pub room_limited : {C : Type 0} (K : Kind C) (ps : List C) (a : Arc C) (along : Bool) (f g : ℤ) → Room K ps a along f g → Limited a f → nat_abs g ≤ flow_limit
room_limited K ps a true f g r (l, h, k) = go (K.le (reduced K ps a) K.zero) (r.if_along refl).1
  where
    go : (d : Bool) → g ≤ℤ cond d a.hi a.lo → nat_abs g ≤ flow_limit
    go true q = let m = (r.if_along refl).0 in omega (arith, ints)
    go false q = let m = (r.if_along refl).0 in omega (arith, ints)
room_limited K ps a false f g r (l, h, k) = go (K.le K.zero (reduced K ps a)) (r.if_against refl).1
  where
    go : (u : Bool) → cond u a.lo a.hi ≤ℤ g → nat_abs g ≤ flow_limit
    go true q = let m = (r.if_against refl).0 in omega (arith, ints)
    go false q = let m = (r.if_against refl).0 in omega (arith, ints)

module _ {C : Type 0} (K : Kind C) (ps : List C) (arcs : List (Arc C)) where
  -- flows stay within the limits
  pub sent_limited : (x : ℤ) (steps : List Step) (fs : List ℤ) → AllByRecursion (λ s. s.arc < length arcs) steps → EachArc Limited arcs fs → Roomy K ps arcs x steps fs → EachArc Limited arcs (sent x steps fs)
  sent_limited x [] fs is h r = h
  sent_limited x (s ∷ rest) fs (i, is) h (r, rs) =
      let at = at_place arcs s.arc i in
      let here = each_get_or Limited arcs fs s.arc at.0 h at.1 in
      sent_limited x rest (set fs s.arc (moved x s fs)) is
      (each_set Limited arcs fs s.arc at.0 (moved x s fs) h at.1
      (here.0, here.1, room_limited K ps at.0 s.along (get_or fs s.arc (pos 0)) (moved x s fs) (r at.0 at.1) here)) rs

  kept_room : (x : ℤ) (fs : List ℤ) (i : ℕ) (y : ℤ) (steps : List Step) → AllByRecursion (λ j. ¬ (i ≡ j)) (map (λ s. s.arc) steps) → AllByRecursion (HasRoom K ps arcs x fs) steps → AllByRecursion (HasRoom K ps arcs x (set fs i y)) steps
  kept_room x fs i y [] n h = tt
  kept_room x fs i y (s ∷ rest) (n, ns) (h, hs) =
      (λ a at. subst (λ z. Room K ps a s.along z (z +ℤ cond s.along x (neg_ℤ x))) (sym (get_or-set_other fs i s.arc y (pos 0) (λ q. n (sym q)))) (h a at), kept_room x fs i y rest ns hs)

  -- steps over different arcs, each with room at the start, have room in their turn
  pub roomy_from_start : (x : ℤ) (steps : List Step) (fs : List ℤ) → Apart (map (λ s. s.arc) steps) → AllByRecursion (HasRoom K ps arcs x fs) steps → Roomy K ps arcs x steps fs
  roomy_from_start x [] fs n h = tt
  roomy_from_start x (s ∷ rest) fs (n, ns) (h, hs) = (h, roomy_from_start x rest (set fs s.arc (moved x s fs)) ns (kept_room x fs s.arc (moved x s fs) rest n hs))

module _ {C : Type 0} (K : Kind C) (laws : Laws K) where
  lower : (t r m : C) → K.le r K.zero ≡ true → K.le (K.plus t (K.plus r m)) (K.plus t m) ≡ true
  lower t r m h = subst (λ z. K.le (K.plus t (K.plus r m)) (K.plus t z) ≡ true) (left K laws m) (add_le K laws t t (K.plus r m) (K.plus K.zero m) (le_refl K laws t) (laws.mono r K.zero m h))

  lower_less : (t r m : C) → K.le K.zero r ≡ false → K.le (K.plus t m) (K.plus t (K.plus r m)) ≡ false
  lower_less t r m s =
      let h : K.le (K.plus t m) (K.plus t (K.plus r m)) ≡ true → K.le K.zero r ≡ true = λ e. cancel_le K laws K.zero r (K.plus t m) (subst₂ (λ a b. K.le a b ≡ true) (sym (left K laws (K.plus t m))) (left_comm K laws t r m) e) in
      grind arith

  -- at a reduced cost r of an arc from price f to price t: y r + x far = y cost + x near; along y is x, against it is −x
  along_cost : (x : ℤ) (c f t : C) → K.plus (K.times x (minus K (K.plus c f) t)) (K.times x t) ≡ K.plus (K.times x c) (K.times x f)
  along_cost x c f t = times_minus K laws x (K.plus c f) t ∙ times_plus K laws x c f

  against_cost : (x : ℤ) (c f t : C) → K.plus (K.times (neg_ℤ x) (minus K (K.plus c f) t)) (K.times x f) ≡ K.plus (K.times (neg_ℤ x) c) (K.times x t)
  against_cost x c f t = cancel K laws (K.plus r xf) (K.plus yc xt) (K.plus yt yf)
      (swap K laws r xf yt yf ∙ ap₂ K.plus (along_cost (neg_ℤ x) c f t) (times_cancel K laws x f) ∙ sym (ap (K.plus (K.plus yc xt)) (comm K laws yt yf) ∙ swap K laws yc xt yf yt ∙ ap (K.plus (K.plus yc yf)) (times_cancel K laws x t)))
    where
      r : C
      r = K.times (neg_ℤ x) (minus K (K.plus c f) t)

      xf : C
      xf = K.times x f

      yc : C
      yc = K.times (neg_ℤ x) c

      xt : C
      xt = K.times x t

      yt : C
      yt = K.times (neg_ℤ x) t

      yf : C
      yf = K.times (neg_ℤ x) f

  -- the change by y at a reduced cost c that wants it costs nothing, or less
  wanted_le : (c : C) (f y : ℤ) → ((f ≤ℤ (f +ℤ y)) × (K.le c K.zero ≡ true)) ⊎ (((f +ℤ y) ≤ℤ f) × (K.le K.zero c ≡ true)) → K.le (K.times y c) K.zero ≡ true
  wanted_le c f y (inl (more, d)) = subst (λ z. K.le (K.times y c) z ≡ true) (times_zero K laws c) (times_down K laws (pos 0) y c d (omega (arith, ints)))
  wanted_le c f y (inr (less, u)) = subst (λ z. K.le (K.times y c) z ≡ true) (times_zero K laws c) (times_up K laws y (pos 0) c u (omega (arith, ints)))

  wanted_less : (c : C) (f y : ℤ) → ((f <ℤ (f +ℤ y)) × (K.le K.zero c ≡ false)) ⊎ (((f +ℤ y) <ℤ f) × (K.le c K.zero ≡ false)) → K.le K.zero (K.times y c) ≡ false
  wanted_less c f y (inl (more, u)) = below K laws (K.times y c) c K.zero (subst (λ z. K.le (K.times y c) z ≡ true) (times_one K laws c) (times_down K laws (pos 1) y c (laws.total K.zero c u) (omega (arith, ints)))) u
  wanted_less c f y (inr (less, d)) = below K laws (K.times y c) minus_c K.zero (times_up K laws y (negsuc 0) c (laws.total c K.zero d) (omega (arith, ints)))
      (cancel_less K laws minus_c K.zero c (subst₂ (λ a b. K.le a b ≡ false) (sym (left K laws c)) (sym gone) d))
    where
      minus_c : C
      minus_c = K.times (negsuc 0) c

      gone : K.plus minus_c c ≡ K.zero
      gone = ap (K.plus minus_c) (sym (times_one K laws c)) ∙ sym (times_add K laws (negsuc 0) (pos 1) c) ∙ times_zero K laws c

  -- one after the other
  join : (a b c n m k : C) → K.le (K.plus c m) (K.plus b k) ≡ true → K.le (K.plus b n) (K.plus a m) ≡ true → K.le (K.plus c n) (K.plus a k) ≡ true
  join a b c n m k h i = cancel_le K laws (K.plus c n) (K.plus a k) (K.plus b m)
      (subst₂ (λ x y. K.le x y ≡ true) (ap (K.plus (K.plus c m)) (comm K laws b n) ∙ swap K laws c m n b ∙ ap (K.plus (K.plus c n)) (comm K laws m b)) (comm K laws (K.plus b k) (K.plus a m) ∙ ap (K.plus (K.plus a m)) (comm K laws b k) ∙ swap K laws a m k b ∙ ap (K.plus (K.plus a k)) (comm K laws m b))
      (add_le K laws (K.plus c m) (K.plus b k) (K.plus b n) (K.plus a m) h i))

  module _ (ps : List C) (arcs : List (Arc C)) where
    step_cost : (x : ℤ) (s : Step) (fs : List ℤ) (a : Arc C) (m : ℕ) → length fs ≡ length arcs → IsAt arcs s.arc a → near a s.along ≡ s.node → far a s.along ≡ m →
        K.plus (total (sums K) arcs (set fs s.arc (moved x s fs))) (K.times x (price K ps s.node)) ≡ K.plus (total (sums K) arcs fs) (K.plus (K.times (cond s.along x (neg_ℤ x)) (reduced K ps a)) (K.times x (price K ps m)))
    step_cost x s fs a m l at p q = ap (λ z. K.plus z xn) changed ∙ assoc K laws (total (sums K) arcs fs) (K.times y a.cost) xn ∙ ap (K.plus (total (sums K) arcs fs)) (sym (ends s.along p q))
      where
        y : ℤ
        y = cond s.along x (neg_ℤ x)

        f : ℤ
        f = get_or fs s.arc (pos 0)

        xn : C
        xn = K.times x (price K ps s.node)

        changed : total (sums K) arcs (set fs s.arc (moved x s fs)) ≡ K.plus (total (sums K) arcs fs) (K.times y a.cost)
        changed = cancel K laws (total (sums K) arcs (set fs s.arc (moved x s fs))) (K.plus (total (sums K) arcs fs) (K.times y a.cost)) (K.times f a.cost)
            (over_set (costs K laws) (λ a f. K.times f a.cost) arcs fs s.arc (moved x s fs) a l at ∙ ap (K.plus (total (sums K) arcs fs)) (times_add K laws f y a.cost ∙ comm K laws (K.times f a.cost) (K.times y a.cost)) ∙ sym (assoc K laws (total (sums K) arcs fs) (K.times y a.cost) (K.times f a.cost)))

        ends : (b : Bool) → near a b ≡ s.node → far a b ≡ m → K.plus (K.times (cond b x (neg_ℤ x)) (reduced K ps a)) (K.times x (price K ps m)) ≡ K.plus (K.times (cond b x (neg_ℤ x)) a.cost) xn
        ends true p q = subst₂ (λ n m. K.plus (K.times x (reduced K ps a)) (K.times x (price K ps m)) ≡ K.plus (K.times x a.cost) (K.times x (price K ps n))) p q (along_cost x a.cost (price K ps a.from) (price K ps a.to))
        ends false p q = subst₂ (λ n m. K.plus (K.times (neg_ℤ x) (reduced K ps a)) (K.times x (price K ps m)) ≡ K.plus (K.times (neg_ℤ x) a.cost) (K.times x (price K ps n))) p q (against_cost x a.cost (price K ps a.from) (price K ps a.to))

    -- from the flow f to the flow g, x sent from node n to node m: nothing is worse
    record Eased (x : ℤ) (n m : ℕ) (f g : List ℤ) : Type 0 where
      pub numbers : kilter_sum K ps arcs g ≤ kilter_sum K ps arcs f
      pub gaps : excess arcs g ≤ excess arcs f
      pub cheaper : excess arcs g ≡ excess arcs f → K.le (K.plus (total (sums K) arcs g) (K.times x (price K ps n))) (K.plus (total (sums K) arcs f) (K.times x (price K ps m))) ≡ true

    -- and something is better
    record Mended (x : ℤ) (n m : ℕ) (f g : List ℤ) : Type 0 where
      pub numbers : kilter_sum K ps arcs g < kilter_sum K ps arcs f
      pub better : (excess arcs g < excess arcs f) ⊎ ((excess arcs g ≤ excess arcs f) × (K.le (K.plus (total (sums K) arcs f) (K.times x (price K ps m))) (K.plus (total (sums K) arcs g) (K.times x (price K ps n))) ≡ false))

    arc_eases : (a : Arc C) (along : Bool) (f g : ℤ) → Room K ps a along f g → Eases (K.le K.zero (reduced K ps a)) (K.le (reduced K ps a) K.zero) a.lo a.hi f g
    arc_eases a true f g r = along_eases a.lo a.hi f g r.fits (K.le K.zero (reduced K ps a)) (K.le (reduced K ps a) K.zero) (r.if_along refl).0 (r.if_along refl).1
    arc_eases a false f g r = against_eases a.lo a.hi f g r.fits (K.le K.zero (reduced K ps a)) (K.le (reduced K ps a) K.zero) (r.if_against refl).0 (r.if_against refl).1

    arc_mends : (a : Arc C) (along : Bool) (f g : ℤ) → Room K ps a along f g → Amiss K ps a along f → Mends (K.le K.zero (reduced K ps a)) (K.le (reduced K ps a) K.zero) a.lo a.hi f g
    arc_mends a true f g r m = along_mends a.lo a.hi f g r.fits (K.le K.zero (reduced K ps a)) (K.le (reduced K ps a) K.zero) (r.if_along refl).0 (r.if_along refl).1 (m.0 refl)
    arc_mends a false f g r m = against_mends a.lo a.hi f g r.fits (K.le K.zero (reduced K ps a)) (K.le (reduced K ps a) K.zero) (laws.total (reduced K ps a) K.zero) (r.if_against refl).0 (r.if_against refl).1 (m.1 refl)

    -- what one arc's new flow does to the sums
    number_set : (fs : List ℤ) (i : ℕ) (g : ℤ) (a : Arc C) → length fs ≡ length arcs → IsAt arcs i a →
        kilter_sum K ps arcs (set fs i g) + kilter_number K (reduced K ps a) a (get_or fs i (pos 0)) ≡ kilter_sum K ps arcs fs + kilter_number K (reduced K ps a) a g
    number_set fs i g a l at = over_set naturals (λ a f. kilter_number K (reduced K ps a) a f) arcs fs i g a l at

    gap_set : (fs : List ℤ) (i : ℕ) (g : ℤ) (a : Arc C) → length fs ≡ length arcs → IsAt arcs i a → excess arcs (set fs i g) + outside a (get_or fs i (pos 0)) ≡ excess arcs fs + outside a g
    gap_set fs i g a l at = over_set naturals outside arcs fs i g a l at

    step_eased : (x : ℤ) (s : Step) (fs : List ℤ) (m : ℕ) → length fs ≡ length arcs → Leads arcs s m → HasRoom K ps arcs x fs s → Eased x s.node m fs (set fs s.arc (moved x s fs))
    step_eased x s fs m l (a, at, p, q) room =
        let y : ℤ = cond s.along x (neg_ℤ x) in
        let f : ℤ = get_or fs s.arc (pos 0) in
        let g : ℤ = moved x s fs in
        let eases = arc_eases a s.along f g (room a at) in
        let n = number_set fs s.arc g a l at in
        let e = gap_set fs s.arc g a l at in
        record {
          numbers = omega (arith, n, eases.number_falls);
          gaps = omega (arith, e, eases.gap_falls);
          cheaper = λ same. subst (λ z. K.le z (K.plus (total (sums K) arcs fs) (K.times x (price K ps m))) ≡ true) (sym (step_cost x s fs a m l at p q))
              (lower (total (sums K) arcs fs) (K.times y (reduced K ps a)) (K.times x (price K ps m)) (wanted_le (reduced K ps a) f y (eases.wanted (omega (arith, e, same)))));
        }

    step_mended : (x : ℤ) (s : Step) (fs : List ℤ) (m : ℕ) → length fs ≡ length arcs → Leads arcs s m → HasRoom K ps arcs x fs s →
        ((a : Arc C) → IsAt arcs s.arc a → Amiss K ps a s.along (get_or fs s.arc (pos 0))) → Mended x s.node m fs (set fs s.arc (moved x s fs))
    step_mended x s fs m l (a, at, p, q) room amiss =
        let f : ℤ = get_or fs s.arc (pos 0) in
        let g : ℤ = moved x s fs in
        let mends = arc_mends a s.along f g (room a at) (amiss a at) in
        let e = gap_set fs s.arc g a l at in
        record {
          numbers = omega (arith, number_set fs s.arc g a l at, mends.number_less);
          better = ⊎_elim
              (λ falls. inl (omega (arith, e, falls)))
              (λ strict. inr (
                (step_eased x s fs m l (a, at, p, q) room).gaps,
                subst (λ z. K.le (K.plus (total (sums K) arcs fs) (K.times x (price K ps m))) z ≡ false) (sym (step_cost x s fs a m l at p q))
                    (lower_less (total (sums K) arcs fs) (K.times (cond s.along x (neg_ℤ x)) (reduced K ps a)) (K.times x (price K ps m)) (wanted_less (reduced K ps a) f (cond s.along x (neg_ℤ x)) strict)),
              )) mends.wanted;
        }

    eased_both : (x : ℤ) (n m k : ℕ) (f g h : List ℤ) → Eased x n m f g → Eased x m k g h → Eased x n k f h
    eased_both x n m k f g h p q = record {
      numbers = omega (arith, p.numbers, q.numbers);
      gaps = omega (arith, p.gaps, q.gaps);
      cheaper = λ same. join (total (sums K) arcs f) (total (sums K) arcs g) (total (sums K) arcs h) (K.times x (price K ps n)) (K.times x (price K ps m)) (K.times x (price K ps k))
          (q.cheaper (omega (arith, p.gaps, q.gaps, same))) (p.cheaper (omega (arith, p.gaps, q.gaps, same)));
    }

    chain_eased : (x : ℤ) (steps : List Step) (end : ℕ) (fs : List ℤ) → length fs ≡ length arcs → Chain arcs steps end → Roomy K ps arcs x steps fs → Eased x (first steps end) end fs (sent x steps fs)
    chain_eased x [] end fs l c r = record { numbers = omega arith; gaps = omega arith; cheaper = λ _. le_refl K laws (K.plus (total (sums K) arcs fs) (K.times x (price K ps end))) }
    chain_eased x (s ∷ rest) end fs l (c, cs) (r, rs) =
        eased_both x s.node (first rest end) end fs (set fs s.arc (moved x s fs)) (sent x rest (set fs s.arc (moved x s fs)))
        (step_eased x s fs (first rest end) l c r) (chain_eased x rest end (set fs s.arc (moved x s fs)) (length-set fs s.arc (moved x s fs) ∙ l) cs rs)

    -- a lap whose steps have room, the first over an arc that is amiss that way
    pub lap_better : (x : ℤ) (s : Step) (rest : List Step) (fs : List ℤ) → length fs ≡ length arcs → Chain arcs (s ∷ rest) s.node → Roomy K ps arcs x (s ∷ rest) fs →
        ((a : Arc C) → IsAt arcs s.arc a → Amiss K ps a s.along (get_or fs s.arc (pos 0))) →
        (kilter_sum K ps arcs (sent x (s ∷ rest) fs) < kilter_sum K ps arcs fs) × Better K arcs fs (sent x (s ∷ rest) fs)
    lap_better x s rest fs l (c, cs) (r, rs) amiss = (omega (arith, one.numbers, more.numbers), go one.better)
      where
        m : ℕ
        m = first rest s.node

        mid : List ℤ
        mid = set fs s.arc (moved x s fs)

        g : List ℤ
        g = sent x rest mid

        one : Mended x s.node m fs mid
        one = step_mended x s fs m l c r amiss

        more : Eased x m s.node mid g
        more = chain_eased x rest s.node mid (length-set fs s.arc (moved x s fs) ∙ l) cs rs

        xm : C
        xm = K.times x (price K ps m)

        xn : C
        xn = K.times x (price K ps s.node)

        go : (excess arcs mid < excess arcs fs) ⊎ ((excess arcs mid ≤ excess arcs fs) × (K.le (K.plus (total (sums K) arcs fs) xm) (K.plus (total (sums K) arcs mid) xn) ≡ false)) → Better K arcs fs g
        go (inl nearer) = inl (omega (arith, nearer, more.gaps))
        go (inr (no-farther, strict)) = split (cases_eq (excess arcs g) (excess arcs fs))
          where
            split : (excess arcs g ≡ excess arcs fs) ⊎ (excess arcs g ≡ excess arcs fs → ⊥) → Better K arcs fs g
            split (inl same) = inr (
              same,
              ap not (cancel_less K laws (total (sums K) arcs g) (total (sums K) arcs fs) xm
                  (below K laws (K.plus (total (sums K) arcs g) xm) (K.plus (total (sums K) arcs mid) xn) (K.plus (total (sums K) arcs fs) xm) (more.cheaper (omega (arith, same, no-farther, more.gaps))) strict)),
            )
            split (inr other) = inl (omega (arith, other, no-farther, more.gaps))

    -- steps with room raise the kilter number of no arc
    pub arc_falls : (x : ℤ) (steps : List Step) (fs : List ℤ) (i : ℕ) (a : Arc C) → length fs ≡ length arcs → IsAt arcs i a → Roomy K ps arcs x steps fs →
        kilter_number K (reduced K ps a) a (get_or (sent x steps fs) i (pos 0)) ≤ kilter_number K (reduced K ps a) a (get_or fs i (pos 0))
    arc_falls x [] fs i a l at r = omega arith
    arc_falls x (s ∷ rest) fs i a l at (r, rs) =
        let one : kilter_number K (reduced K ps a) a (get_or (set fs s.arc (moved x s fs)) i (pos 0)) ≤ kilter_number K (reduced K ps a) a (get_or fs i (pos 0)) = ⊎_elim here there (cases_eq i s.arc) in
        let more = arc_falls x rest (set fs s.arc (moved x s fs)) i a (length-set fs s.arc (moved x s fs) ∙ l) at rs in
        omega arith
      where
        here : i ≡ s.arc → kilter_number K (reduced K ps a) a (get_or (set fs s.arc (moved x s fs)) i (pos 0)) ≤ kilter_number K (reduced K ps a) a (get_or fs i (pos 0))
        here e =
            let b : IsAt arcs s.arc a = subst (λ j. IsAt arcs j a) e at in
            let h : s.arc < length fs = omega (arith, b.0, l) in
            subst (λ j. kilter_number K (reduced K ps a) a (get_or (set fs s.arc (moved x s fs)) j (pos 0)) ≤ kilter_number K (reduced K ps a) a (get_or fs j (pos 0))) (sym e)
            (subst (λ z. kilter_number K (reduced K ps a) a z ≤ kilter_number K (reduced K ps a) a (get_or fs s.arc (pos 0))) (sym (get_or-set_same fs s.arc (moved x s fs) (pos 0) h))
            (arc_eases a s.along (get_or fs s.arc (pos 0)) (moved x s fs) (r a b)).number_falls)

        there : (i ≡ s.arc → ⊥) → kilter_number K (reduced K ps a) a (get_or (set fs s.arc (moved x s fs)) i (pos 0)) ≤ kilter_number K (reduced K ps a) a (get_or fs i (pos 0))
        there ne = subst (λ z. kilter_number K (reduced K ps a) a z ≤ kilter_number K (reduced K ps a) a (get_or fs i (pos 0))) (sym (get_or-set_other fs s.arc i (moved x s fs) (pos 0) ne)) (omega arith)
