-- A labelling with one node more.
use Rattle.std.proofs.Common.{◌≡◌, ℕ, zero, suc, ◌+◌, ◌-◌, ◌<◌, ◌≤◌, Bool, true, false, cond, eqb, nat_lt, Some, None, refl, List, [], ◌∷◌, length, get_or, set, ℤ, sym, ap, ◌∙◌, subst, ⊎_elim, arith, length-set, length-append}
use Rattle.std.specs.Option.{is_some}
use Rattle.std.proofs.lemmas.Bool.{cases_eq, ne_eqb}
use Rattle.std.proofs.lemmas.List.{get_or-set_same, get_or-set_other, get_or_append_left}
use Rattle.std.proofs.Math.Seq.{get_or-append_seam}
use Rattle.costs.specs.Kinds.{Kind}
use Rattle.networks.specs.declared.network.Arc.{Arc}
use Rattle.labels.specs.declared.labelling.Entry.{Entry}
use Rattle.labels.specs.declared.labelling.Labels.{Labels}
use Rattle.labels.specs.Good.{count, no_entry, entry_at, node_at, place_at, place_of, used, Open, Linked, Whole, Grown, pushed}

-- a node has a place where it is labelled
pub is_placed : (ls : Labels) (n : ℕ) → is_some (place_at ls n) ≡ nat_lt 0 (place_of ls n)
is_placed ls n = go (nat_lt 0 (place_of ls n))
  where
    go : (b : Bool) → is_some (cond b (Some (place_of ls n - 1)) None) ≡ b
    go true = refl
    go false = refl

one_at_most : (b : Bool) (n m : ℕ) → n ≤ m → cond b 0 1 + n ≤ suc m
one_at_most true n m h = omega arith
one_at_most false n m h = omega arith

pub used_le : (xs : List ℕ) → used xs ≤ length xs
used_le [] = omega arith
used_le (x ∷ xs) = one_at_most (eqb x 0) (used xs) (length xs) (used_le xs)

used_set : (xs : List ℕ) (i v : ℕ) → i < length xs → get_or xs i 0 ≡ 0 → used (set xs i (v + 1)) ≡ used xs + 1
used_set [] i v h e = absurd (omega arith)
used_set (x ∷ xs) zero v h e =
    let a : eqb (v + 1) 0 ≡ false = ne_eqb (v + 1) 0 (λ p. omega arith) in
    let b : eqb x 0 ≡ true = ap (λ z. eqb z 0) e in
    ap (λ z. cond z 0 1 + used xs) a ∙ sym (ap (λ z. cond z 0 1 + used xs + 1) b ∙ omega arith)
used_set (x ∷ xs) (suc i) v h e = let r = used_set xs i v (omega arith) e in omega arith

module _ (N : ℕ) (few : N ≤ 256) (ls : Labels) (w : Whole N ls) (e : Entry) (low : 1 ≤ e.node) (high : e.node ≤ N) (fresh : place_of ls e.node ≡ 0) where
  n : ℕ
  n = e.node

  ms : Labels
  ms = pushed ls e

  spot : e.node - 1 < length ls.places
  spot = omega (arith, w.places_long)

  pub counts : count (pushed ls e) ≡ count ls + 1
  counts = length-append ls.entries.items (e ∷ [])

  count_more : used ms.places ≡ count ls + 1
  unfolding ms
  count_more = used_set ls.places (e.node - 1) (count ls) spot fresh ∙ ap (λ z. z + 1) w.tally

  pub room : count ls < 256
  unfolding ms
  room = omega (arith, used_le ms.places, count_more, length-set ls.places (e.node - 1) (count ls + 1), w.places_long)

  pub entry_new : entry_at (pushed ls e) (count ls) ≡ e
  entry_new = get_or-append_seam ls.entries.items e [] no_entry

  pub entry_old : (k : ℕ) → k < count ls → entry_at (pushed ls e) k ≡ entry_at ls k
  entry_old k h = get_or_append_left ls.entries.items (e ∷ []) no_entry k h

  pub place_new : place_of (pushed ls e) e.node ≡ count ls + 1
  place_new = get_or-set_same ls.places (e.node - 1) (count ls + 1) 0 spot

  pub place_old : (m : ℕ) → 1 ≤ m → (m ≡ e.node → ⊥) → place_of (pushed ls e) m ≡ place_of ls m
  place_old m l h = get_or-set_other ls.places (e.node - 1) (m - 1) (count ls + 1) 0 (λ q. h (omega arith))

  node_differs : (k : ℕ) → k < count ls → node_at ls k ≡ e.node → ⊥
  node_differs k h q = let p = w.placed k h in let r : place_of ls (node_at ls k) ≡ 0 = ap (place_of ls) q ∙ fresh in omega arith

  by_place : (P : ℕ → Type 0) (k : ℕ) → k < count ls + 1 → ((k : ℕ) → k < count ls → P k) → P (count ls) → P k
  by_place P k h old new = ⊎_elim (λ (q : k ≡ count ls). subst P (sym q) new) (λ q. old k (omega arith)) (cases_eq k (count ls))

  pub whole_more : Whole N (pushed ls e)
  unfolding ms
  whole_more = record {
    places_long = length-set ls.places (e.node - 1) (count ls + 1) ∙ w.places_long;
    few = omega (arith, room, counts);
    tally = count_more ∙ sym counts;
    nodes = λ k h. by_place (λ k. (1 ≤ node_at (pushed ls e) k) × (node_at (pushed ls e) k ≤ N)) k (omega (arith, h, counts))
        (λ k h. let q = ap (λ z. z.node) (entry_old k h) in let r = w.nodes k h in (omega arith, omega arith))
        (let q = ap (λ z. z.node) entry_new in (omega arith, omega arith));
    placed = λ k h. by_place (λ k. place_of (pushed ls e) (node_at (pushed ls e) k) ≡ k + 1) k (omega (arith, h, counts))
        (λ k h. ap (place_of (pushed ls e)) (ap (λ z. z.node) (entry_old k h)) ∙ place_old (node_at ls k) (w.nodes k h).0 (node_differs k h) ∙ w.placed k h)
        (ap (place_of (pushed ls e)) (ap (λ z. z.node) entry_new) ∙ place_new);
    holds = λ m l h. ⊎_elim
        (λ (q : m ≡ e.node).
        let p : place_of (pushed ls e) m ≡ count ls + 1 = ap (place_of (pushed ls e)) q ∙ place_new in
        let z : place_of (pushed ls e) m - 1 ≡ count ls = omega arith in
        (omega (arith, counts), ap (node_at (pushed ls e)) z ∙ ap (λ z. z.node) entry_new ∙ sym q))
        (λ (q : m ≡ e.node → ⊥).
        let p = place_old m l q in
        let r = w.holds m l (omega arith) in
        (omega (arith, counts), ap (λ z. node_at (pushed ls e) (z - 1)) p ∙ ap (λ z. z.node) (entry_old (place_of ls m - 1) (omega arith)) ∙ r.1))
        (cases_eq m e.node);
  }

  pub grown_more : Grown ls (pushed ls e)
  grown_more = record {
    more = omega (arith, counts);
    same = entry_old;
    kept = λ m h. get_or-set_other ls.places (e.node - 1) (m - 1) (count ls + 1) 0 (λ q. let r : place_of ls m ≡ 0 = ap (λ z. get_or ls.places z 0) q ∙ fresh in omega arith);
  }

  module _ {C : Type 0} (K : Kind C) (arcs : List (Arc C)) (flow : List ℤ) (prices : List C) (chosen : ℕ) where
    pub linked_more : ((k : ℕ) → 1 ≤ k → k < count ls → Linked K arcs flow prices chosen ls k) → e.parent < count ls → e.step.node ≡ node_at ls e.parent → Open K arcs flow prices chosen e.step e.node →
        (k : ℕ) → 1 ≤ k → k < count (pushed ls e) → Linked K arcs flow prices chosen (pushed ls e) k
    linked_more old before out way k l h = by_place (λ k. 1 ≤ k → Linked K arcs flow prices chosen (pushed ls e) k) k (omega (arith, h, counts))
        (λ k h l. let o = old k l h in let q = entry_old k h in record {
          earlier = omega (arith, o.earlier, ap (λ z. z.parent) q);
          sets_out = ap (λ z. z.step.node) q ∙ o.sets_out ∙ sym (ap (λ z. z.node) (entry_old (entry_at ls k).parent (omega (arith, o.earlier)))) ∙ ap (λ z. node_at (pushed ls e) z.parent) (sym q);
          opens = subst (λ z. Open K arcs flow prices chosen z.step z.node) (sym q) o.opens;
        })
        (λ l. let q = entry_new in record {
          earlier = omega (arith, before, ap (λ z. z.parent) q);
          sets_out = ap (λ z. z.step.node) q ∙ out ∙ sym (ap (λ z. z.node) (entry_old e.parent before)) ∙ ap (λ z. node_at (pushed ls e) z.parent) (sym q);
          opens = subst (λ z. Open K arcs flow prices chosen z.step z.node) (sym q) way;
        })
        l
