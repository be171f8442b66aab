-- Laps keep the imbalance of every node; laps one after another.
use Rattle.std.proofs.Common.{◌≡◌, ℕ, zero, suc, ◌≤◌, Bool, true, false, cond, eqb, List, [], ◌∷◌, length, get_or, set, ℤ, pos, ◌+ℤ◌, ◌-ℤ◌, neg_ℤ, sym, refl, ap, ◌∙◌, subst, ap₂, arith, length-set}
use lib.IntN.{+ℤ-neg_ℤ_cancel}
use borrow.Author.Differences.{ints}
use Rattle.costs.specs.Kinds.{Kind}
use Rattle.networks.specs.declared.network.Arc.{Arc}
use Rattle.flows.specs.declared.steps.Step.{Step}
use Rattle.flows.specs.Flows.{sum_arcs, leaving, entering, imbalance, Meets}
use Rattle.networks.specs.Nets.{IsAt}
use Rattle.flows.specs.Laps.{near, far, first, Chain, moved, sent, Lap, Better, Laps, LapsKeepImbalances}
use Rattle.flows.proofs.ArcSums.{at_one, integers, over_set}

pick_add : (b : Bool) (x y : ℤ) → cond b (x +ℤ y) (pos 0) ≡ cond b x (pos 0) +ℤ cond b y (pos 0)
pick_add true x y = refl
pick_add false x y = refl

pick_neg : (b : Bool) (x : ℤ) → cond b (neg_ℤ x) (pos 0) ≡ neg_ℤ (cond b x (pos 0))
pick_neg true x = refl
pick_neg false x = refl

pub length_sent : (x : ℤ) (steps : List Step) (fs : List ℤ) → length (sent x steps fs) ≡ length fs
length_sent x [] fs = refl
length_sent x (s ∷ rest) fs = length_sent x rest (set fs s.arc (moved x s fs)) ∙ length-set fs s.arc (moved x s fs)

module _ {C : Type 0} (arcs : List (Arc C)) where
  -- one arc's flow changed: the flow of the arcs with that end at node n, added up
  change : (end : Arc C → ℕ) (n : ℕ) (arcs : List (Arc C)) (fs : List ℤ) (i : ℕ) (x : ℤ) (a : Arc C) → length fs ≡ length arcs → IsAt arcs i a →
      sum_arcs (λ a f. at_one (end a) f n) arcs (set fs i (get_or fs i (pos 0) +ℤ x)) ≡ sum_arcs (λ a f. at_one (end a) f n) arcs fs +ℤ at_one (end a) x n
  change end n arcs fs i x a l at =
      shed (sum_arcs (λ a f. at_one (end a) f n) arcs (set fs i (f +ℤ x))) (sum_arcs (λ a f. at_one (end a) f n) arcs fs) (at_one (end a) f n) (at_one (end a) x n)
      (over_set integers (λ a f. at_one (end a) f n) arcs fs i (f +ℤ x) a l at ∙ ap (λ z. sum_arcs (λ a f. at_one (end a) f n) arcs fs +ℤ z) (pick_add (eqb (end a) n) f x))
    where
      f : ℤ
      f = get_or fs i (pos 0)

      shed : (s t u v : ℤ) → s +ℤ u ≡ t +ℤ (u +ℤ v) → s ≡ t +ℤ v
      shed s t u v e = omega (arith, ints)

  -- one step: x more leaves the node that it sets out from, and x more enters the one that it leads to
  step_moves : (fs : List ℤ) (along : Bool) (i : ℕ) (x : ℤ) (n : ℕ) (a : Arc C) → length fs ≡ length arcs → IsAt arcs i a →
      imbalance arcs (set fs i (get_or fs i (pos 0) +ℤ cond along x (neg_ℤ x))) n ≡ (imbalance arcs fs n +ℤ at_one (near a along) x n) -ℤ at_one (far a along) x n
  step_moves fs true i x n a l at =
      ap₂ ◌-ℤ◌ (change (λ a. a.from) n arcs fs i x a l at) (change (λ a. a.to) n arcs fs i x a l at) ∙ turned (sum_arcs (leaving n) arcs fs) (sum_arcs (entering n) arcs fs) (at_one a.from x n) (at_one a.to x n)
    where
      turned : (o i u v : ℤ) → (o +ℤ u) -ℤ (i +ℤ v) ≡ ((o -ℤ i) +ℤ u) -ℤ v
      turned o i u v = omega (arith, ints)
  step_moves fs false i x n a l at =
      ap₂ ◌-ℤ◌ (change (λ a. a.from) n arcs fs i (neg_ℤ x) a l at) (change (λ a. a.to) n arcs fs i (neg_ℤ x) a l at)
      ∙ ap₂ (λ u v. (sum_arcs (leaving n) arcs fs +ℤ u) -ℤ (sum_arcs (entering n) arcs fs +ℤ v)) (pick_neg (eqb a.from n) x) (pick_neg (eqb a.to n) x)
      ∙ turned (sum_arcs (leaving n) arcs fs) (sum_arcs (entering n) arcs fs) (at_one a.from x n) (at_one a.to x n)
    where
      turned : (o i u v : ℤ) → (o +ℤ neg_ℤ u) -ℤ (i +ℤ neg_ℤ v) ≡ ((o -ℤ i) +ℤ v) -ℤ u
      turned o i u v = omega (arith, ints)

  -- a chain takes x from its start to its end
  chain_moves : (steps : List Step) (end : ℕ) (fs : List ℤ) (x : ℤ) (n : ℕ) → length fs ≡ length arcs → Chain arcs steps end →
      imbalance arcs (sent x steps fs) n ≡ (imbalance arcs fs n +ℤ at_one (first steps end) x n) -ℤ at_one end x n
  chain_moves [] end fs x n l c = sym (+ℤ-neg_ℤ_cancel (imbalance arcs fs n) (at_one end x n))
  chain_moves (s ∷ rest) end fs x n l ((a, at, p, q), cs) =
      let fs' : List ℤ = set fs s.arc (moved x s fs) in
      let one : imbalance arcs fs' n ≡ (imbalance arcs fs n +ℤ at_one s.node x n) -ℤ at_one (first rest end) x n
      = step_moves fs s.along s.arc x n a l at ∙ ap₂ (λ u v. (imbalance arcs fs n +ℤ at_one u x n) -ℤ at_one v x n) p q in
      joined (imbalance arcs fs n) (at_one s.node x n) (at_one (first rest end) x n) (at_one end x n) (imbalance arcs fs' n) (imbalance arcs (sent x rest fs') n) one
      (chain_moves rest end fs' x n (length-set fs s.arc (moved x s fs) ∙ l) cs)
    where
      joined : (b s m e c d : ℤ) → c ≡ (b +ℤ s) -ℤ m → d ≡ (c +ℤ m) -ℤ e → d ≡ (b +ℤ s) -ℤ e
      joined b s m e c d h k = omega (arith, ints)

  same_first : (steps : List Step) (d e : ℕ) → 1 ≤ length steps → first steps d ≡ first steps e
  same_first [] d e h = absurd (omega arith)
  same_first (s ∷ rest) d e h = refl

  pub lap_keeps : (f g : List ℤ) → length f ≡ length arcs → Lap arcs f g → (n : ℕ) → imbalance arcs g n ≡ imbalance arcs f n
  lap_keeps f g l lap n =
      let start : ℕ = first lap.steps 0 in
      let x : ℤ = pos lap.amount in
      ap (λ h. imbalance arcs h n) (sym lap.sent_on) ∙ chain_moves lap.steps start f x n l lap.closed
      ∙ ap (λ k. (imbalance arcs f n +ℤ at_one k x n) -ℤ at_one start x n) (same_first lap.steps start 0 lap.some_steps) ∙ +ℤ-neg_ℤ_cancel (imbalance arcs f n) (at_one start x n)

  pub lap_long : (f g : List ℤ) → Lap arcs f g → length g ≡ length f
  lap_long f g lap = ap length (sym lap.sent_on) ∙ length_sent (pos lap.amount) lap.steps f

module _ {C : Type 0} (K : Kind C) where
  pub laps_keep : LapsKeepImbalances K
  laps_keep arcs f g zero l e node = ap (λ h. imbalance arcs h node) (sym e)
  laps_keep arcs f g (suc n) l (h, lap, better, laps) node = laps_keep arcs h g n (lap_long arcs f h lap ∙ l) laps node ∙ lap_keeps arcs f h l lap node

  -- one lap more, at the end
  pub laps_more : (arcs : List (Arc C)) (f g h : List ℤ) (n : ℕ) → Laps K arcs f n g → Lap arcs g h → Better K arcs g h → Laps K arcs f (suc n) h
  laps_more arcs f g h zero e lap better = (h, subst (λ z. Lap arcs z h) (sym e) lap, subst (λ z. Better K arcs z h) (sym e) better, refl)
  laps_more arcs f g h (suc n) (k, one, better', rest) lap better = (k, one, better', laps_more arcs k g h n rest lap better)

  -- laps leave the needs met
  pub laps_meet : (arcs : List (Arc C)) (needs f g : List ℤ) (n : ℕ) → length f ≡ length arcs → Laps K arcs f n g → Meets arcs needs f → Meets arcs needs g
  laps_meet arcs needs f g n l laps meets m lo hi = laps_keep arcs f g n l laps m ∙ meets m lo hi

  pub laps_long : (arcs : List (Arc C)) (f g : List ℤ) (n : ℕ) → Laps K arcs f n g → length g ≡ length f
  laps_long arcs f g zero e = ap length (sym e)
  laps_long arcs f g (suc n) (h, lap, better, laps) = laps_long arcs h g n laps ∙ lap_long arcs f h lap
