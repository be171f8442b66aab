-- Sums over arcs and over nodes, in any commutative monoid.
use Rattle.std.proofs.Common.{◌≡◌, ℕ, zero, suc, ◌+◌, ◌<◌, ◌≤◌, cond, eqb, ◌⊎◌, List, [], ◌∷◌, length, get_or, take, set, ℤ, pos, ◌+ℤ◌, sym, refl, ap, ◌∙◌, subst, ap₂, subst₂, inl, inr, add_assoc, add_comm, suc-add, zero-add, arith}
use lib.IntN.{+ℤ_assoc, +ℤ_comm, +ℤ_idl}
use Rattle.std.specs.List.{AllByRecursion}
use Rattle.std.proofs.ByRecursion.{All-get_or}
use Rattle.std.proofs.lemmas.List.{get_or_default}
use Rattle.std.proofs.lemmas.Bool.{eq-eqb, ne_eqb, cases_eq}
use Rattle.costs.specs.Kinds.{Kind, Laws}
use Rattle.networks.specs.declared.network.Arc.{Arc}
use Rattle.flows.specs.Flows.{over, sum_arcs, EachArc}
use Rattle.networks.specs.Nets.{IsAt}

-- places
pub same_at : {X : Type 0} (xs : List X) (i : ℕ) (a b : X) → IsAt xs i a → IsAt xs i b → a ≡ b
same_at xs i a b (h, p) (k, q) = p ∙ get_or_default xs i a b h ∙ sym q

pub at_place : {X : Type 0} (xs : List X) (i : ℕ) → i < length xs → (x : X) × IsAt xs i x
at_place [] i h = absurd (omega arith)
at_place (y ∷ ys) zero h = (y, (h, refl))
at_place (y ∷ ys) (suc i) h = let r = at_place ys i (omega arith) in (r.0, (h, r.1.1))

pub all_at : {X : Type 0} (P : X → Type 0) (xs : List X) (i : ℕ) (x : X) → AllByRecursion P xs → IsAt xs i x → P x
all_at P xs i x h (l, e) = subst P (sym e) (All-get_or P xs i x l h)

pub all_from : {X : Type 0} (P : X → Type 0) (xs : List X) → ((i : ℕ) (x : X) → IsAt xs i x → P x) → AllByRecursion P xs
all_from P [] h = tt
all_from P (x ∷ xs) h = (h 0 x (omega arith, refl), all_from P xs (λ i y at. h (suc i) y (omega (arith, at.0), at.1)))

-- what holds of each arc and its flow, by places
module _ {C : Type 0} where
  pub each_at : (P : Arc C → ℤ → Type 0) (arcs : List (Arc C)) (fs : List ℤ) (i : ℕ) (a : Arc C) (f : ℤ) → EachArc P arcs fs → IsAt arcs i a → IsAt fs i f → P a f
  each_at P [] fs i a f h (l, e) (m, r) = absurd (omega arith)
  each_at P (b ∷ rest) [] i a f h at (m, r) = absurd (omega arith)
  each_at P (b ∷ rest) (g ∷ gs) zero a f (h, hs) (l, e) (m, r) = subst₂ P (sym e) (sym r) h
  each_at P (b ∷ rest) (g ∷ gs) (suc i) a f (h, hs) (l, e) (m, r) = each_at P rest gs i a f hs (omega arith, e) (omega arith, r)

  pub each_from : (P : Arc C → ℤ → Type 0) (arcs : List (Arc C)) (fs : List ℤ) → length fs ≡ length arcs → ((i : ℕ) (a : Arc C) (f : ℤ) → IsAt arcs i a → IsAt fs i f → P a f) → EachArc P arcs fs
  each_from P [] [] l h = tt
  each_from P [] (f ∷ fs) l h = absurd (omega arith)
  each_from P (a ∷ rest) [] l h = absurd (omega arith)
  each_from P (a ∷ rest) (f ∷ fs) l h = (h 0 a f (omega arith, refl) (omega arith, refl), each_from P rest fs (omega arith) (λ i b g at bt. h (suc i) b g (omega (arith, at.0), at.1) (omega (arith, bt.0), bt.1)))

  pub each_weaker : (P Q : Arc C → ℤ → Type 0) → ((a : Arc C) (f : ℤ) → P a f → Q a f) → (arcs : List (Arc C)) (fs : List ℤ) → EachArc P arcs fs → EachArc Q arcs fs
  each_weaker P Q w [] [] h = tt
  each_weaker P Q w [] (f ∷ fs) h = absurd h
  each_weaker P Q w (a ∷ rest) [] h = absurd h
  each_weaker P Q w (a ∷ rest) (f ∷ fs) (h, hs) = (w a f h, each_weaker P Q w rest fs hs)

  pub each_long : (P : Arc C → ℤ → Type 0) (arcs : List (Arc C)) (fs : List ℤ) → EachArc P arcs fs → length fs ≡ length arcs
  each_long P [] [] h = refl
  each_long P [] (f ∷ fs) h = absurd h
  each_long P (a ∷ rest) [] h = absurd h
  each_long P (a ∷ rest) (f ∷ fs) (h, hs) = ap suc (each_long P rest fs hs)

  pub each_set : (P : Arc C → ℤ → Type 0) (arcs : List (Arc C)) (fs : List ℤ) (i : ℕ) (a : Arc C) (y : ℤ) → EachArc P arcs fs → IsAt arcs i a → P a y → EachArc P arcs (set fs i y)
  each_set P [] fs i a y h (l, e) p = absurd (omega arith)
  each_set P (b ∷ rest) [] i a y h at p = absurd h
  each_set P (b ∷ rest) (f ∷ fs) zero a y (h, hs) (l, e) p = (subst (λ z. P z y) e p, hs)
  each_set P (b ∷ rest) (f ∷ fs) (suc i) a y (h, hs) (l, e) p = (h, each_set P rest fs i a y hs (omega arith, e) p)

  -- by the number that stands there, or 0
  pub each_get_or : (P : Arc C → ℤ → Type 0) (arcs : List (Arc C)) (fs : List ℤ) (i : ℕ) (a : Arc C) → EachArc P arcs fs → IsAt arcs i a → P a (get_or fs i (pos 0))
  each_get_or P [] fs i a h (l, e) = absurd (omega arith)
  each_get_or P (b ∷ rest) [] i a h at = absurd h
  each_get_or P (b ∷ rest) (f ∷ fs) zero a (h, hs) (l, e) = subst (λ z. P z f) (sym e) h
  each_get_or P (b ∷ rest) (f ∷ fs) (suc i) a (h, hs) (l, e) = each_get_or P rest fs i a hs (omega arith, e)

pub record Monoid {M : Type 0} (none : M) (plus : M → M → M) : Type 0 where
  pub assoc : (a b c : M) → plus (plus a b) c ≡ plus a (plus b c)
  pub comm : (a b : M) → plus a b ≡ plus b a
  pub left : (a : M) → plus none a ≡ a

pub naturals : Monoid 0 ◌+◌
naturals = record { assoc = add_assoc; comm = add_comm; left = zero-add }

pub integers : Monoid (pos 0) ◌+ℤ◌
integers = record { assoc = +ℤ_assoc; comm = +ℤ_comm; left = +ℤ_idl }

pub costs : {C : Type 0} (K : Kind C) → Laws K → Monoid K.zero K.plus
costs K laws = record { assoc = laws.adds.assoc; comm = laws.adds.comm; left = laws.adds.left }

-- what the n nodes from k on come to: w units at each, for what it has
abbrev pub worth : {M P : Type 0} → M → (M → M → M) → (ℤ → P → M) → ℕ → ℕ → (ℕ → P) → (ℕ → ℤ) → M
worth none plus act k zero p w = none
worth none plus act k (suc n) p w = plus (act (w k) (p k)) (worth none plus act (suc k) n p w)

-- x units at node j alone
abbrev pub at_one : ℕ → ℤ → ℕ → ℤ
at_one j x n = cond (eqb j n) x (pos 0)

module _ {M : Type 0} {none : M} {plus : M → M → M} (monoid : Monoid none plus) where
  pub left_comm : (a b c : M) → plus a (plus b c) ≡ plus b (plus a c)
  left_comm a b c = sym (monoid.assoc a b c) ∙ ap (λ x. plus x c) (monoid.comm a b) ∙ monoid.assoc b a c

  pub swap : (a b c d : M) → plus (plus a b) (plus c d) ≡ plus (plus a c) (plus b d)
  swap a b c d = simp (monoid.assoc, left_comm)

  module _ {C : Type 0} where
    pub over_add : (h k : Arc C → ℤ → M) (arcs : List (Arc C)) (fs : List ℤ) →
        over none plus (λ a f. plus (h a f) (k a f)) arcs fs ≡ plus (over none plus h arcs fs) (over none plus k arcs fs)
    over_add h k [] fs = sym (monoid.left none)
    over_add h k (a ∷ rest) [] = sym (monoid.left none)
    over_add h k (a ∷ rest) (f ∷ fs) = ap (plus (plus (h a f) (k a f))) (over_add h k rest fs) ∙ swap (h a f) (k a f) (over none plus h rest fs) (over none plus k rest fs)

    pub over_same : (h k : Arc C → ℤ → M) → ((a : Arc C) (f : ℤ) → h a f ≡ k a f) → (arcs : List (Arc C)) (fs : List ℤ) →
        over none plus h arcs fs ≡ over none plus k arcs fs
    over_same h k e [] fs = refl
    over_same h k e (a ∷ rest) [] = refl
    over_same h k e (a ∷ rest) (f ∷ fs) = ap₂ plus (e a f) (over_same h k e rest fs)

    -- a loop's step
    pub over_more : (h : Arc C → ℤ → M) (arcs : List (Arc C)) (fs : List ℤ) (i : ℕ) (a : Arc C) (f : ℤ) → IsAt arcs i a → IsAt fs i f →
        over none plus h (take (i + 1) arcs) (take (i + 1) fs) ≡ plus (over none plus h (take i arcs) (take i fs)) (h a f)
    over_more h [] fs i a f (l, e) at = absurd (omega arith)
    over_more h (b ∷ rest) [] i a f (l, e) (m, r) = absurd (omega arith)
    over_more h (b ∷ rest) (g ∷ gs) zero a f (l, e) (m, r) = monoid.comm (h b g) none ∙ ap (plus none) (sym (ap₂ h e r))
    over_more h (b ∷ rest) (g ∷ gs) (suc i) a f (l, e) (m, r) =
        rw (suc-add i 1) (ap (plus (h b g)) (over_more h rest gs i a f (omega arith, e) (omega arith, r)) ∙ sym (monoid.assoc (h b g) (over none plus h (take i rest) (take i gs)) (h a f)))

    -- one arc's flow replaced
    pub over_set : (h : Arc C → ℤ → M) (arcs : List (Arc C)) (fs : List ℤ) (i : ℕ) (y : ℤ) (a : Arc C) → length fs ≡ length arcs → IsAt arcs i a →
        plus (over none plus h arcs (set fs i y)) (h a (get_or fs i (pos 0))) ≡ plus (over none plus h arcs fs) (h a y)
    over_set h [] fs i y a l (k, e) = absurd (omega arith)
    over_set h (b ∷ rest) [] i y a l (k, e) = absurd (omega arith)
    over_set h (b ∷ rest) (f ∷ fs) zero y a l (k, e) =
        ap (λ c. plus (plus (h b y) (over none plus h rest fs)) (h c f)) e ∙ crossed (h b y) (over none plus h rest fs) (h b f) ∙ ap (λ c. plus (plus (h b f) (over none plus h rest fs)) (h c y)) (sym e)
      where
        crossed : (x r y : M) → plus (plus x r) y ≡ plus (plus y r) x
        crossed x r y = simp (monoid.assoc, monoid.comm, left_comm)
    over_set h (b ∷ rest) (f ∷ fs) (suc i) y a l (k, e) =
        monoid.assoc (h b f) (over none plus h rest (set fs i y)) (h a (get_or fs i (pos 0))) ∙ ap (plus (h b f)) (over_set h rest fs i y a (omega arith) (omega arith, e)) ∙ sym (monoid.assoc (h b f) (over none plus h rest fs) (h a y))

  module _ {P : Type 0} (act : ℤ → P → M) (act-zero : (p : P) → act (pos 0) p ≡ none) (act-add : (j k : ℤ) (p : P) → act (j +ℤ k) p ≡ plus (act j p) (act k p)) (p : ℕ → P) where
    worth_none : (k n : ℕ) → worth none plus act k n p (λ m. pos 0) ≡ none
    worth_none k zero = refl
    worth_none k (suc n) = ap₂ plus (act-zero (p k)) (worth_none (suc k) n) ∙ monoid.left none

    pub worth_add : (k n : ℕ) (v w : ℕ → ℤ) → worth none plus act k n p (λ m. v m +ℤ w m) ≡ plus (worth none plus act k n p v) (worth none plus act k n p w)
    worth_add k zero v w = sym (monoid.left none)
    worth_add k (suc n) v w = ap₂ plus (act-add (v k) (w k) (p k)) (worth_add (suc k) n v w)
        ∙ swap (act (v k) (p k)) (act (w k) (p k)) (worth none plus act (suc k) n p v) (worth none plus act (suc k) n p w)

    pub worth_same : (k n : ℕ) (v w : ℕ → ℤ) → ((m : ℕ) → k ≤ m → m < k + n → v m ≡ w m) → worth none plus act k n p v ≡ worth none plus act k n p w
    worth_same k zero v w e = refl
    worth_same k (suc n) v w e = ap₂ plus (ap (λ z. act z (p k)) (e k (omega arith) (omega arith))) (worth_same (suc k) n v w (λ m l h. e m (omega arith) (omega arith)))

    worth_one : (k n : ℕ) (j : ℕ) (x : ℤ) → k ≤ j → j < k + n → worth none plus act k n p (at_one j x) ≡ act x (p j)
    worth_one k zero j x l h = absurd (omega arith)
    worth_one k (suc n) j x l h = go (cases_eq j k) (worth_one (suc k) n j x)
      where
        rest : M
        rest = worth none plus act (suc k) n p (at_one j x)

        go : (j ≡ k) ⊎ (j ≡ k → ⊥) → (suc k ≤ j → j < suc k + n → rest ≡ act x (p j)) → plus (act (at_one j x k) (p k)) rest ≡ act x (p j)
        go (inl e) step =
            ap₂ (λ b r. plus (act (cond b x (pos 0)) (p k)) r) (eq-eqb j k e) (worth_same (suc k) n (at_one j x) (λ m. pos 0) (λ m i _. ap (λ b. cond b x (pos 0)) (ne_eqb j m (λ q. omega arith))) ∙ worth_none (suc k) n)
            ∙ monoid.comm (act x (p k)) none ∙ monoid.left (act x (p k)) ∙ sym (ap (λ i. act x (p i)) e)
        go (inr d) step =
            let s : suc k ≤ j = omega arith in
            ap₂ (λ b r. plus (act (cond b x (pos 0)) (p k)) r) (ne_eqb j k d) (step s (omega arith))
            ∙ ap (λ y. plus y (act x (p j))) (act-zero (p k)) ∙ monoid.left (act x (p j))

    -- what each node's arcs carry, for what the node has, is what each arc carries, for what its end has
    pub gathered : {C : Type 0} (end : Arc C → ℕ) (N : ℕ) (arcs : List (Arc C)) (fs : List ℤ) → AllByRecursion (λ a. (1 ≤ end a) × (end a ≤ N)) arcs →
        worth none plus act 1 N p (λ m. sum_arcs (λ a f. at_one (end a) f m) arcs fs) ≡ over none plus (λ a f. act f (p (end a))) arcs fs
    gathered end N [] fs h = worth_none 1 N
    gathered end N (a ∷ rest) [] h = worth_none 1 N
    gathered end N (a ∷ rest) (f ∷ fs) (h, hs) =
        worth_add 1 N (at_one (end a) f) (λ m. sum_arcs (λ a f. at_one (end a) f m) rest fs)
        ∙ ap₂ plus (worth_one 1 N (end a) f h.0 (omega arith)) (gathered end N rest fs hs)
