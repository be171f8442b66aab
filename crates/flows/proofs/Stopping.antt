-- One arc more of which stop comes first.
use Rattle.std.proofs.Common.{◌≡◌, ℕ, suc, ◌+◌, ◌⊎◌, List, [], ◌∷◌, length, ℤ, Some, None, Ok, Err, Result, Bool, true, false, cond, sym, refl, ap, ◌∙◌, ap₂, arith}
use Rattle.networks.specs.declared.network.Arc.{Arc}
use Rattle.networks.specs.Answers.{Told}
use Rattle.flows.specs.Stops.{or_else, arc_stop, arcs_stop}
use Rattle.flows.proofs.Turns.{at_none}
use Rattle.std.specs.Result.{is_ok}
use Rattle.networks.specs.declared.bounds.Bounds.{Bounds}
use Rattle.networks.specs.declared.stops.Stop.{Stop}
use Rattle.networks.specs.Bounding.{made_bounds, read_bounds}
use Rattle.networks.specs.Limits.{bounds_fit}

-- k arcs are done, and the next is x with the flow f
module _ {C : Type 0} (size : C → ℕ) (nodes k i : ℕ) {arcs rest : List (Arc C)} {flow fs : List ℤ} (x : Arc C) (f : ℤ) (p : arcs ≡ x ∷ rest) (q : flow ≡ f ∷ fs) (e : i ≡ k) where
  step : arcs_stop size nodes (k + 1) arcs flow ≡ or_else (arc_stop size nodes (i + 1) x f) (arcs_stop size nodes (suc (k + 1)) rest fs)
  step = ap₂ (arcs_stop size nodes (k + 1)) p q ∙ ap (λ m. or_else (arc_stop size nodes (m + 1) x f) (arcs_stop size nodes (suc (k + 1)) rest fs)) (sym e)

  -- an arc with no fault
  pub arcs_pass : (j : ℕ) → j ≡ k + 1 → None ≡ arc_stop size nodes (i + 1) x f → arcs_stop size nodes (j + 1) rest fs ≡ arcs_stop size nodes (k + 1) arcs flow
  arcs_pass j d h =
      let next : j + 1 ≡ suc (k + 1) = omega arith in
      ap (λ m. arcs_stop size nodes m rest fs) next ∙ sym (step ∙ ap (λ o. or_else o (arcs_stop size nodes (suc (k + 1)) rest fs)) (sym h))

  -- an arc with a fault
  pub arcs_fail : (s : Told) → Some s ≡ arc_stop size nodes (i + 1) x f → arcs_stop size nodes (k + 1) arcs flow ≡ Some s
  arcs_fail s h = step ∙ ap (λ o. or_else o (arcs_stop size nodes (suc (k + 1)) rest fs)) (sym h)

-- no arc is left, or no flow
pub arcs_end : {C : Type 0} (size : C → ℕ) (nodes k : ℕ) (arcs : List (Arc C)) (flow : List ℤ) → (arcs ≡ []) ⊎ (length flow ≡ 0) → arcs_stop size nodes k arcs flow ≡ None
arcs_end size nodes k = at_none (arcs_stop size nodes k) None (λ fs. refl) (λ x xs. refl)

-- a pair of bounds is made where it fits
pub made_ok : (r : Result Bounds Stop) (lo hi : ℤ) → read_bounds r ≡ made_bounds lo hi → is_ok r ≡ bounds_fit lo hi
made_ok r lo hi e = go r (bounds_fit lo hi) e
  where
    go : (r : Result Bounds Stop) (b : Bool) → read_bounds r ≡ cond b (Ok (lo, hi)) (Err (7, 0)) → is_ok r ≡ b
    go (Ok x) true e = refl
    go (Ok x) false e = cc
    go (Err s) true e = cc
    go (Err s) false e = refl
