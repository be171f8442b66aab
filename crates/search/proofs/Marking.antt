-- The marks of labelled nodes that are cut off.
use Rattle.std.proofs.Common.{◌≡◌, ℕ, ◌+◌, ◌-◌, ◌<◌, ◌≤◌, Bool, true, false, cond, eqb, ◌⊎◌, List, length, get_or, ℤ, pos, ◌≤ℤ◌, ◌<ℤ◌, sym, refl, ap, ◌∙◌, subst, subst₂, ⊎_elim, arith}
use Rattle.std.proofs.lemmas.List.{get_or_past}
use Rattle.std.proofs.lemmas.Bool.{cases_lt}
use Rattle.costs.specs.Kinds.{Kind}
use Rattle.networks.specs.declared.network.Arc.{Arc}
use Rattle.networks.specs.Nets.{IsAt}
use Rattle.flows.specs.declared.steps.Step.{Step}
use Rattle.flows.specs.Cuts.{marked}
use Rattle.flows.specs.searching.Fits.{Fitting}
use Rattle.flows.proofs.ArcSums.{each_at, each_from, at_place}
use Rattle.flows.specs.searching.Ways.{Stuck}
use Rattle.labels.specs.declared.labelling.Labels.{Labels}
use Rattle.reach.specs.Scans.{is_labelled}
use Rattle.reach.specs.Rounds.{CutOff}
use Rattle.search.specs.Going.{CutMarked}

module _ {C : Type 0} (K : Kind C) (N : ℕ) (arcs : List (Arc C)) (flow : List ℤ) (fitting : Fitting K N arcs) (long : length flow ≡ length arcs) (ls : Labels) (marks : List ℕ) (all : length marks ≡ N)
    (are : (k : ℕ) → k < length marks → get_or marks k 0 ≡ cond (is_labelled ls (k + 1)) 1 0) where
  one_if : (b : Bool) → eqb (cond b 1 0) 1 ≡ b
  one_if true = refl
  one_if false = refl

  same : (n : ℕ) → 1 ≤ n → n ≤ N → is_labelled ls n ≡ marked marks n
  same n l h =
      let back : n - 1 + 1 ≡ n = omega arith in
      sym (ap (λ z. eqb z 1) (are (n - 1) (omega arith)) ∙ one_if (is_labelled ls (n - 1 + 1)) ∙ ap (is_labelled ls) back)

  bits : (n : ℕ) → get_or marks n 0 ≤ 1
  bits n = ⊎_elim (λ (h : n < length marks). subst (λ z. z ≤ 1) (sym (are n h)) (bit (is_labelled ls (n + 1)))) (λ (h : length marks ≤ n). subst (λ z. z ≤ 1) (sym (get_or_past marks n 0 h)) (omega arith)) (cases_lt n (length marks))
    where
      bit : (b : Bool) → cond b 1 0 ≤ 1
      bit true = omega arith
      bit false = omega arith

  -- a fact about the ends of an arc by their labels, said by their marks
  by_marks : (P : Bool → Bool → Type 0) (i : ℕ) (a : Arc C) → IsAt arcs i a → P (is_labelled ls a.from) (is_labelled ls a.to) → P (marked marks a.from) (marked marks a.to)
  by_marks P i a is p = let e = (fitting i a is).ends in subst₂ P (same a.from e.0 e.1) (same a.to e.2 e.3) p

  pub cut_marked : (s : Step) → s.arc < length arcs → CutOff arcs flow s ls → CutMarked arcs flow marks
  cut_marked s h cut =
      let r = at_place arcs s.arc h in
      record {
        bits = bits;
        stuck = each_from (Stuck (marked marks)) arcs flow long (λ i a f is fs. by_marks (λ p q. (p ≡ true → q ≡ false → a.hi ≤ℤ f) × (p ≡ false → q ≡ true → f ≤ℤ a.lo)) i a is (each_at (Stuck (is_labelled ls)) arcs flow i a f cut.stuck is fs));
        place = s.arc;
        arc = r.0;
        there = r.1;
        strained = by_marks (λ p q. ((p ≡ true) × (q ≡ false) × (r.0.hi <ℤ get_or flow s.arc (pos 0))) ⊎ ((p ≡ false) × (q ≡ true) × (get_or flow s.arc (pos 0) <ℤ r.0.lo))) s.arc r.0 r.1 (cut.strained r.0 r.1);
      }
