-- What each granted call does to a network: to ends, to the bounds and costs beneath lock-outs, and to what is out.
use Rattle.std.proofs.Common.{◌≡◌, ℕ, zero, suc, ◌-◌, Bool, true, false, cond, eqb, ◌⊎◌, ◌↔◌, List, [], ◌∷◌, set, ℤ, Some, None, Option, sym, refl, ap, ◌∙◌, subst, subst₂, inl, inr, ⊎_elim, arith}
use Rattle.std.specs.List.{slice_get}
use Rattle.std.specs.Option.{option_map}
use Rattle.std.proofs.lemmas.Bool.{cond-false, eqb-false, cases_eq}
use Rattle.networks.specs.declared.network.Arc.{Arc}
use Rattle.networks.specs.Answers.{Told, unless}
use Rattle.networks.specs.Nets.{Lock, Net, numbered, replaced, shown, shown_arc, is_out, arc_at, held_stop, rebound_stop, with_bounds, rebounded, cost_stop, recost_stop, with_cost, recosted, lock_at, with_lock, relocked, line_stop, take_out_stop, relined, taken, back_stop, hand_back_stop, handed_back, out_at}
use Rattle.runs.specs.States.{out_of, out_in}
use Rattle.runs.specs.Events.{rebound, recost, take_out, hand_back, Event, Granted, GrantedCall, Rebounds, Recosts}
use Rattle.runs.specs.Runs.{SameEnds}
use Rattle.runs.proofs.Ends.{ends_refl, ends_set, ends_shown}
use Rattle.runs.proofs.Lines.{Once, taken_out, out_taken, once_taken, handed_out, out_handed, once_handed}
use Rattle.runs.proofs.Locks.{with_same, with_other}

-- ---- lists that count from 1

nth_same : {X : Type 0} (xs : List X) (i : ℕ) (x y : X) → slice_get xs i ≡ Some x → slice_get (set xs i y) i ≡ Some y
nth_same [] i x y e = absurd cc
nth_same (z ∷ zs) zero x y e = refl
nth_same (z ∷ zs) (suc i) x y e = nth_same zs i x y e

nth_other : {X : Type 0} (xs : List X) (i j : ℕ) (y : X) → (j ≡ i → ⊥) → slice_get (set xs i y) j ≡ slice_get xs j
nth_other [] i j y ne = refl
nth_other (z ∷ zs) zero zero y ne = absurd (ne refl)
nth_other (z ∷ zs) zero (suc j) y ne = refl
nth_other (z ∷ zs) (suc i) zero y ne = refl
nth_other (z ∷ zs) (suc i) (suc j) y ne = nth_other zs i j y (λ e. ne (ap suc e))

-- the number of what is there is not 0, and names its place
there : {X : Type 0} (xs : List X) (a : ℕ) (x : X) → numbered xs a ≡ Some x → (eqb a 0 ≡ false) × (slice_get xs (a - 1) ≡ Some x)
there xs a x e = go (eqb a 0) e
  where
    go : (b : Bool) → cond b None (slice_get xs (a - 1)) ≡ Some x → (b ≡ false) × (slice_get xs (a - 1) ≡ Some x)
    go true e = absurd cc
    go false e = (refl, e)

set_numbered : {X : Type 0} (xs : List X) (a : ℕ) (x y : X) → numbered xs a ≡ Some x → numbered (set xs (a - 1) y) a ≡ Some y
set_numbered xs a x y e = let t = there xs a x e in cond-false _ _ _ t.0 ∙ nth_same xs (a - 1) x y t.1

others_numbered : {X : Type 0} (xs : List X) (a b : ℕ) (x y : X) → numbered xs a ≡ Some x → (b ≡ a → ⊥) → numbered (set xs (a - 1) y) b ≡ numbered xs b
others_numbered xs a b x y e ne = go (eqb b 0) refl
  where
    go : (c : Bool) → eqb b 0 ≡ c → cond c None (slice_get (set xs (a - 1) y) (b - 1)) ≡ cond c None (slice_get xs (b - 1))
    go true q = refl
    go false q =
        let nb = eqb-false b 0 q in
        let na = eqb-false a 0 (there xs a x e).0 in
        nth_other xs (a - 1) (b - 1) y (λ s. ne (same a b na nb s))
      where
        same : (a b : ℕ) → (a ≡ 0 → ⊥) → (b ≡ 0 → ⊥) → b - 1 ≡ a - 1 → b ≡ a
        same a b p q s = omega arith

-- ---- effects

-- no arc that is out at a lock-out stands on two of its lines
abbrev pub OnceEach : List Lock → Type 0
OnceEach os = (l : ℕ) (o : Lock) → lock_at os l ≡ Some o → Once o

-- the event e changed the network n to m
pub record Effect {C : Type 0} (n : Net C) (e : Event C) (m : Net C) : Type 0 where
  pub nodes : m.nodes ≡ n.nodes
  pub ends : SameEnds (shown n) (shown m)
  pub bounds : (a : ℕ) (y : Arc C) → numbered m.arcs a ≡ Some y → GrantedCall (rebound a y.lo y.hi) e ⊎ ((¬ Rebounds a e) × ((x : Arc C) × ((numbered n.arcs a ≡ Some x) × (x.lo ≡ y.lo) × (x.hi ≡ y.hi))))
  pub costs : (a : ℕ) (y : Arc C) → numbered m.arcs a ≡ Some y → GrantedCall (recost a y.cost) e ⊎ ((¬ Recosts a e) × ((x : Arc C) × ((numbered n.arcs a ≡ Some x) × (x.cost ≡ y.cost))))
  pub once : OnceEach n.locks → OnceEach m.locks
  pub outs : OnceEach n.locks → (l a : ℕ) → (out_in m l a ≡ true) ↔ (GrantedCall (take_out l a) e ⊎ ((¬ GrantedCall (hand_back l a) e) × (out_in n l a ≡ true)))

-- what kinds of calls on the network an event is not
pub record NotOf {C : Type 0} (e : Event C) : Type 0 where
  pub no_rebound : (a : ℕ) → ¬ Rebounds a e
  pub no_recost : (a : ℕ) → ¬ Recosts a e
  pub no_take_out : (l a : ℕ) → ¬ GrantedCall (take_out l a) e
  pub no_hand_back : (l a : ℕ) → ¬ GrantedCall (hand_back l a) e

module _ {C : Type 0} (n : Net C) (e : Event C) where
  -- the arcs keep their bounds, their costs
  pub bounds_kept : ((a : ℕ) → ¬ Rebounds a e) → (a : ℕ) (y : Arc C) → numbered n.arcs a ≡ Some y → GrantedCall (rebound a y.lo y.hi) e ⊎ ((¬ Rebounds a e) × ((x : Arc C) × ((numbered n.arcs a ≡ Some x) × (x.lo ≡ y.lo) × (x.hi ≡ y.hi))))
  bounds_kept never a y h = inr (never a, (y, (h, refl, refl)))

  costs_kept : ((a : ℕ) → ¬ Recosts a e) → (a : ℕ) (y : Arc C) → numbered n.arcs a ≡ Some y → GrantedCall (recost a y.cost) e ⊎ ((¬ Recosts a e) × ((x : Arc C) × ((numbered n.arcs a ≡ Some x) × (x.cost ≡ y.cost))))
  costs_kept never a y h = inr (never a, (y, (h, refl)))

  outs_kept : ((l a : ℕ) → ¬ GrantedCall (take_out l a) e) → ((l a : ℕ) → ¬ GrantedCall (hand_back l a) e) → (l a : ℕ) → (out_in n l a ≡ true) ↔ (GrantedCall (take_out l a) e ⊎ ((¬ GrantedCall (hand_back l a) e) × (out_in n l a ≡ true)))
  outs_kept no_take no_back l a = ((λ h. inr (no_back l a, h)), back)
    where
      back : GrantedCall (take_out l a) e ⊎ ((¬ GrantedCall (hand_back l a) e) × (out_in n l a ≡ true)) → out_in n l a ≡ true
      back (inl t) = absurd (no_take l a t)
      back (inr (_, h)) = h

  pub no_effect : NotOf e → Effect n e n
  no_effect never = record {
    nodes = refl;
    ends = ends_refl (shown n);
    bounds = bounds_kept never.no_rebound;
    costs = costs_kept never.no_recost;
    once = λ h. h;
    outs = λ _. outs_kept never.no_take_out never.no_hand_back;
  }

-- another arc in the place of x, with its ends
abbrev amended : {C : Type 0} → Net C → ℕ → Arc C → Net C
amended n a y = record { nodes = n.nodes; arcs = set n.arcs (a - 1) y; locks = n.locks }

amended_ends : {C : Type 0} (n : Net C) (a : ℕ) (x y : Arc C) → numbered n.arcs a ≡ Some x → x.from ≡ y.from → x.to ≡ y.to → SameEnds (shown n) (shown (amended n a y))
amended_ends n a x y e p q = ends_shown 1 n.locks n.locks n.arcs (set n.arcs (a - 1) y) (ends_set n.arcs (a - 1) x y (there n.arcs a x e).1 p q)

-- what stands at b once y is in the place of x, arc a
module _ {C : Type 0} (n : Net C) (a : ℕ) (x y : Arc C) (is : numbered n.arcs a ≡ Some x) where
  amended_at : (b : ℕ) (z : Arc C) → numbered (amended n a y).arcs b ≡ Some z → ((b ≡ a) × (y ≡ z)) ⊎ ((b ≡ a → ⊥) × (numbered n.arcs b ≡ Some z))
  amended_at b z h = ⊎_elim
      (λ (q : b ≡ a).
      let same : Some y ≡ Some z = sym (set_numbered n.arcs a x y is) ∙ ap (numbered (amended n a y).arcs) (sym q) ∙ h in
      inl (q, cc))
      (λ (q : b ≡ a → ⊥). inr (q, sym (others_numbered n.arcs a b x y is q) ∙ h))
      (cases_eq b a)

  -- what y shares with x, each arc shares with the one before
  amended_keeps : (Same : Arc C → Arc C → Type 0) → Same x y → ((z : Arc C) → Same z z) → (b : ℕ) (z : Arc C) → numbered (amended n a y).arcs b ≡ Some z → (w : Arc C) × ((numbered n.arcs b ≡ Some w) × Same w z)
  amended_keeps Same shared self b z h = go (amended_at b z h)
    where
      go : ((b ≡ a) × (y ≡ z)) ⊎ ((b ≡ a → ⊥) × (numbered n.arcs b ≡ Some z)) → (w : Arc C) × ((numbered n.arcs b ≡ Some w) × Same w z)
      go (inl (q, e)) = (x, (ap (numbered n.arcs) q ∙ is, subst (Same x) e shared))
      go (inr (_, g)) = (z, (g, self z))

-- ---- what a network shows of an arc, and what lies beneath

found : {C : Type 0} (b : Bool) (o : Option (Arc C)) (x : Arc C) → option_map (shown_arc b) o ≡ Some x → (y : Arc C) × ((o ≡ Some y) × (x ≡ shown_arc b y))
found b None x e = absurd cc
found b (Some y) x e = (y, (refl, cc))

-- arc a as the network shows it, and beneath
pub arc_beneath : {C : Type 0} (n : Net C) (a : ℕ) (x : Arc C) → arc_at n a ≡ Some x → (y : Arc C) × ((numbered n.arcs a ≡ Some y) × (x ≡ shown_arc (is_out n.locks a) y))
arc_beneath n a x e = found (is_out n.locks a) (numbered n.arcs a) x e

-- where no stop comes that an absent arc would bring, there is an arc
there_is : {C : Type 0} (n : Net C) (a : ℕ) (stop : Option (Arc C) → Option Told) → stop None ≡ Some (8, a) → stop (arc_at n a) ≡ None → (y : Arc C) × (numbered n.arcs a ≡ Some y)
there_is {C} n a stop absent ok = go (numbered n.arcs a) refl
  where
    go : (o : Option (Arc C)) → numbered n.arcs a ≡ o → (y : Arc C) × (o ≡ Some y)
    go None e = let s : stop (arc_at n a) ≡ stop None = ap (λ o. stop (option_map (shown_arc (is_out n.locks a)) o)) e in absurd cc
    go (Some y) e = (y, refl)

-- ---- rebound

module _ {C : Type 0} (n : Net C) (e : Event C) (a : ℕ) (lo hi : ℤ) (call : e.call ≡ rebound a lo hi) (granted : Granted e) (ok : rebound_stop n a ≡ None) where
  new_bounds : (x : Arc C) → numbered n.arcs a ≡ Some x → (b : ℕ) (z : Arc C) → numbered (amended n a (with_bounds lo hi x)).arcs b ≡ Some z →
      GrantedCall (rebound b z.lo z.hi) e ⊎ ((¬ Rebounds b e) × ((w : Arc C) × ((numbered n.arcs b ≡ Some w) × (w.lo ≡ z.lo) × (w.hi ≡ z.hi))))
  new_bounds x is b z h = go (amended_at n a x (with_bounds lo hi x) is b z h)
    where
      go : ((b ≡ a) × (with_bounds lo hi x ≡ z)) ⊎ ((b ≡ a → ⊥) × (numbered n.arcs b ≡ Some z)) → GrantedCall (rebound b z.lo z.hi) e ⊎ ((¬ Rebounds b e) × ((w : Arc C) × ((numbered n.arcs b ≡ Some w) × (w.lo ≡ z.lo) × (w.hi ≡ z.hi))))
      go (inl (q, same)) = inl (subst₂ (λ c (y : Arc C). e.call ≡ rebound c y.lo y.hi) (sym q) same call, granted)
      go (inr (q, g)) = inr ((λ (l, u, (c, _)). q (let r : b ≡ a = cc in r)), (z, (g, refl, refl)))

  pub rebound_effect : Effect n e (rebounded n a lo hi)
  rebound_effect =
      let t = there_is n a (held_stop a) refl ok in
      let x = t.0 in
      let is = t.1 in
      let effect : Effect n e (amended n a (with_bounds lo hi x)) = record {
        nodes = refl;
        ends = amended_ends n a x (with_bounds lo hi x) is refl refl;
        bounds = new_bounds x is;
        costs = λ b z h. inr ((λ (c, (k, g)). cc), amended_keeps n a x (with_bounds lo hi x) is (λ w y. w.cost ≡ y.cost) refl (λ w. refl) b z h);
        once = λ h. h;
        outs = λ _. outs_kept n e (λ l b (k, g). cc) (λ l b (k, g). cc);
      } in
      subst (λ s. Effect n e (unless s n (record { nodes = n.nodes; arcs = replaced n.arcs a (option_map (with_bounds lo hi) (numbered n.arcs a)); locks = n.locks }))) (sym ok)
      (subst (λ o. Effect n e (record { nodes = n.nodes; arcs = replaced n.arcs a (option_map (with_bounds lo hi) o); locks = n.locks })) (sym is) effect)

-- ---- recost

module _ {C : Type 0} (size : C → ℕ) (n : Net C) (e : Event C) (a : ℕ) (c : C) (call : e.call ≡ recost a c) (granted : Granted e) (ok : recost_stop size n a c ≡ None) where
  new_costs : (x : Arc C) → numbered n.arcs a ≡ Some x → (b : ℕ) (z : Arc C) → numbered (amended n a (with_cost c x)).arcs b ≡ Some z →
      GrantedCall (recost b z.cost) e ⊎ ((¬ Recosts b e) × ((w : Arc C) × ((numbered n.arcs b ≡ Some w) × (w.cost ≡ z.cost))))
  new_costs x is b z h = go (amended_at n a x (with_cost c x) is b z h)
    where
      go : ((b ≡ a) × (with_cost c x ≡ z)) ⊎ ((b ≡ a → ⊥) × (numbered n.arcs b ≡ Some z)) → GrantedCall (recost b z.cost) e ⊎ ((¬ Recosts b e) × ((w : Arc C) × ((numbered n.arcs b ≡ Some w) × (w.cost ≡ z.cost))))
      go (inl (q, same)) = inl (subst₂ (λ k (y : Arc C). e.call ≡ recost k y.cost) (sym q) same call, granted)
      go (inr (q, g)) = inr ((λ (d, (k, _)). q (let r : b ≡ a = cc in r)), (z, (g, refl)))

  pub recost_effect : Effect n e (recosted size n a c)
  recost_effect =
      let t = there_is n a (cost_stop size a c) refl ok in
      let x = t.0 in
      let is = t.1 in
      let effect : Effect n e (amended n a (with_cost c x)) = record {
        nodes = refl;
        ends = amended_ends n a x (with_cost c x) is refl refl;
        bounds = λ b z h.
            let (w, (at, same)) = amended_keeps n a x (with_cost c x) is (λ w y. (w.lo ≡ y.lo) × (w.hi ≡ y.hi)) (refl, refl) (λ w. (refl, refl)) b z h in
            inr ((λ (l, u, (k, g)). cc), (w, (at, same.0, same.1)));
        costs = new_costs x is;
        once = λ h. h;
        outs = λ _. outs_kept n e (λ l b (k, g). cc) (λ l b (k, g). cc);
      } in
      subst (λ s. Effect n e (unless s n (record { nodes = n.nodes; arcs = replaced n.arcs a (option_map (with_cost c) (numbered n.arcs a)); locks = n.locks }))) (sym ok)
      (subst (λ o. Effect n e (record { nodes = n.nodes; arcs = replaced n.arcs a (option_map (with_cost c) o); locks = n.locks })) (sym is) effect)

-- ---- take-out and hand-back

-- the lock-out that a granted call names is there
pub lock_there : (os : List Lock) (l : ℕ) (P : Option Lock → Type 0) → (P None → ⊥) → P (lock_at os l) → (o : Lock) × ((lock_at os l ≡ Some o) × P (Some o))
lock_there os l P never h = go (lock_at os l) refl h
  where
    go : (x : Option Lock) → lock_at os l ≡ x → P x → (o : Lock) × ((x ≡ Some o) × P (Some o))
    go None e p = absurd (never p)
    go (Some o) e p = (o, (refl, p))

relocked_ends : {C : Type 0} (n : Net C) (l : ℕ) (f : Lock → Lock) → SameEnds (shown n) (shown (relocked n l f))
relocked_ends n l f = ends_shown 1 n.locks (with_lock n.locks l f) n.arcs n.arcs (ends_refl n.arcs)

-- what is out at lock-out k after lock-out l was changed by f
changed_out : (os : List Lock) (l k b : ℕ) (f : Lock → Lock) (o : Lock) → lock_at os l ≡ Some o → k ≡ l → out_of (lock_at (with_lock os l f) k) b ≡ out_at (f o) b
changed_out os l k b f o is q = ap (λ j. out_of (lock_at (with_lock os l f) j) b) q ∙ ap (λ x. out_of x b) (with_same os l f ∙ ap (option_map f) is)

named_out : (os : List Lock) (l k b : ℕ) (o : Lock) → lock_at os l ≡ Some o → k ≡ l → out_of (lock_at os k) b ≡ out_at o b
named_out os l k b o is q = ap (λ j. out_of (lock_at os j) b) q ∙ ap (λ x. out_of x b) is

other_out : (os : List Lock) (l k b : ℕ) (f : Lock → Lock) → (k ≡ l → ⊥) → out_of (lock_at (with_lock os l f) k) b ≡ out_of (lock_at os k) b
other_out os l k b f ne = ap (λ x. out_of x b) (with_other os l k f ne)

once_changed : (os : List Lock) (l : ℕ) (f : Lock → Lock) (o : Lock) → lock_at os l ≡ Some o → (Once o → Once (f o)) → OnceEach os → OnceEach (with_lock os l f)
once_changed os l f o is step all k p h = ⊎_elim
    (λ (q : k ≡ l).
    let e : Some (f o) ≡ Some p = sym (with_same os l f ∙ ap (option_map f) is) ∙ ap (lock_at (with_lock os l f)) (sym q) ∙ h in
    let s : f o ≡ p = cc in
    subst Once s (step (all l o is)))
    (λ (q : k ≡ l → ⊥). all k p (sym (with_other os l k f q) ∙ h)) (cases_eq k l)

module _ {C : Type 0} (n : Net C) (e : Event C) (l a : ℕ) where
  pub take_out_effect : e.call ≡ take_out l a → Granted e → take_out_stop n l a ≡ None → Effect n e (taken n l a)
  take_out_effect call granted ok =
      let t = lock_there n.locks l (λ x. line_stop a x ≡ None) (λ h. cc) ok in
      let o = t.0 in
      let effect : Effect n e (relocked n l (relined 0 a)) = record {
        nodes = refl;
        ends = relocked_ends n l (relined 0 a);
        bounds = bounds_kept n e (λ b (lo, hi, (k, g)). cc);
        costs = costs_kept n e (λ b (c, (k, g)). cc);
        once = once_changed n.locks l (relined 0 a) o t.1.0 (once_taken o a t.1.1);
        outs = λ once k b. ((λ h. there_now o t.1.0 t.1.1 k b h), (λ h. now_out o t.1.0 t.1.1 k b h));
      } in
      subst (λ s. Effect n e (unless s n (relocked n l (relined 0 a)))) (sym ok) effect
    where
      there_now : (o : Lock) → lock_at n.locks l ≡ Some o → line_stop a (Some o) ≡ None → (k b : ℕ) → out_of (lock_at (with_lock n.locks l (relined 0 a)) k) b ≡ true → GrantedCall (take_out k b) e ⊎ ((¬ GrantedCall (hand_back k b) e) × (out_in n k b ≡ true))
      there_now o is free k b h = ⊎_elim
          (λ (q : k ≡ l). ⊎_elim
          (λ (r : b ≡ a). inl (call ∙ ap (λ j. take_out j a) (sym q) ∙ ap (take_out k) (sym r), granted))
          (λ (r : out_at o b ≡ true). inr ((λ (c, g). cc), named_out n.locks l k b o is q ∙ r))
          (taken_out o a free b (sym (changed_out n.locks l k b (relined 0 a) o is q) ∙ h)))
          (λ (q : k ≡ l → ⊥). inr ((λ (c, g). cc), sym (other_out n.locks l k b (relined 0 a) q) ∙ h)) (cases_eq k l)

      now_out : (o : Lock) → lock_at n.locks l ≡ Some o → line_stop a (Some o) ≡ None → (k b : ℕ) → GrantedCall (take_out k b) e ⊎ ((¬ GrantedCall (hand_back k b) e) × (out_in n k b ≡ true)) → out_of (lock_at (with_lock n.locks l (relined 0 a)) k) b ≡ true
      now_out o is free k b (inl (c, g)) =
          let q : k ≡ l = cc in
          let r : b ≡ a = cc in
          changed_out n.locks l k b (relined 0 a) o is q ∙ out_taken o a free b (inl r)
      now_out o is free k b (inr (_, h)) = ⊎_elim
          (λ (q : k ≡ l). changed_out n.locks l k b (relined 0 a) o is q ∙ out_taken o a free b (inr (sym (named_out n.locks l k b o is q) ∙ h)))
          (λ (q : k ≡ l → ⊥). other_out n.locks l k b (relined 0 a) q ∙ h) (cases_eq k l)

  pub hand_back_effect : e.call ≡ hand_back l a → Granted e → hand_back_stop n l a ≡ None → Effect n e (handed_back n l a)
  hand_back_effect call granted ok =
      let t = lock_there n.locks l (λ x. back_stop a x ≡ None) (λ h. cc) ok in
      let o = t.0 in
      let out : out_at o a ≡ true = is_there (out_at o a) t.1.1 in
      let effect : Effect n e (relocked n l (relined a 0)) = record {
        nodes = refl;
        ends = relocked_ends n l (relined a 0);
        bounds = bounds_kept n e (λ b (lo, hi, (k, g)). cc);
        costs = costs_kept n e (λ b (c, (k, g)). cc);
        once = once_changed n.locks l (relined a 0) o t.1.0 (once_handed o a out);
        outs = λ once k b. ((λ h. there_still o t.1.0 out (once l o t.1.0) k b h), (λ h. still_out o t.1.0 out k b h));
      } in
      subst (λ s. Effect n e (unless s n (relocked n l (relined a 0)))) (sym ok) effect
    where
      is_there : (b : Bool) → cond {A = Option Told} b None (Some (12, a)) ≡ None → b ≡ true
      is_there true h = refl
      is_there false h = absurd cc

      another_lock : (k b : ℕ) → (k ≡ l → ⊥) → ¬ GrantedCall (hand_back k b) e
      another_lock k b ne (h, g) = ne (let q : k ≡ l = cc in q)

      another_arc : (k b : ℕ) → (b ≡ a → ⊥) → ¬ GrantedCall (hand_back k b) e
      another_arc k b ne (h, g) = ne (let q : b ≡ a = cc in q)

      there_still : (o : Lock) → lock_at n.locks l ≡ Some o → out_at o a ≡ true → Once o → (k b : ℕ) → out_of (lock_at (with_lock n.locks l (relined a 0)) k) b ≡ true → GrantedCall (take_out k b) e ⊎ ((¬ GrantedCall (hand_back k b) e) × (out_in n k b ≡ true))
      there_still o is out one k b h = ⊎_elim
          (λ (q : k ≡ l).
          let r = handed_out o a out one b (sym (changed_out n.locks l k b (relined a 0) o is q) ∙ h) in
          inr (another_arc k b r.0, named_out n.locks l k b o is q ∙ r.1))
          (λ (q : k ≡ l → ⊥). inr (another_lock k b q, sym (other_out n.locks l k b (relined a 0) q) ∙ h)) (cases_eq k l)

      still_out : (o : Lock) → lock_at n.locks l ≡ Some o → out_at o a ≡ true → (k b : ℕ) → GrantedCall (take_out k b) e ⊎ ((¬ GrantedCall (hand_back k b) e) × (out_in n k b ≡ true)) → out_of (lock_at (with_lock n.locks l (relined a 0)) k) b ≡ true
      still_out o is out k b (inl (c, g)) = absurd cc
      still_out o is out k b (inr (kept, h)) = ⊎_elim
          (λ (q : k ≡ l).
          let ne : b ≡ a → ⊥ = λ r. kept (call ∙ ap (λ j. hand_back j a) (sym q) ∙ ap (hand_back k) (sym r), granted) in
          changed_out n.locks l k b (relined a 0) o is q ∙ out_handed o a out b ne (sym (named_out n.locks l k b o is q) ∙ h))
          (λ (q : k ≡ l → ⊥). other_out n.locks l k b (relined a 0) q ∙ h) (cases_eq k l)
