-- A list of one settle: it is made, it is answered or refused, and the ring of tags stays as it was.
use Rattle.std.proofs.Common.{◌≡◌, ℕ, zero, suc, ◌⊎◌, ◌≤◌, Bool, true, false, cond, List, [], ◌∷◌, get_or, take, Some, None, Ok, Err, Option, Result, sym, refl, ap, ◌∙◌, subst, subst₂, inl, inr, arith}
use Rattle.costs.specs.Kinds.{Kind}
use Rattle.networks.specs.declared.stops.Stop.{Stop}
use Rattle.networks.specs.Answers.{Told}
use Rattle.networks.specs.Rings.{Places}
use Rattle.flows.specs.Kilter.{lap_limit}
use Rattle.search.specs.declared.settling.Answer.{Answer}
use Rattle.runs.specs.declared.calls.Call.{Call}
use Rattle.runs.specs.declared.calls.Call.TheVariants.{Settle}
use Rattle.runs.specs.declared.calls.Outcome.{Outcome}
use Rattle.runs.specs.States.{State, opened}
use Rattle.runs.specs.Events.{settle, Came, settled, done, refused, is_granted, event, came, events}
use Rattle.runs.specs.Steps.{stop_of, Step, Steps}
use Rattle.runs.specs.Runs.{Run}
use Rattle.plans.specs.Keeping.{settle_came}
use Rattle.plans.specs.Lists.{MakesAll, Runs}
use Rattle.planner.specs.Once.{full_settle, SettlesOnce}

-- what came of a settle is never a plain done
pub not_done : {C : Type 0} (K : Kind C) (p q : State C) (budget : ℕ) (o : Came C) → Step K p (event (settle budget) o) q → o ≡ done → ⊥
not_done K p q budget o s is = go (stop_of K p (settle budget)) refl
  where
    go : (x : Option Told) → stop_of K p (settle budget) ≡ x → ⊥
    go None h = let g = s.grants h in let bad : done ≡ settled g.0 = sym is ∙ g.1 in absurd cc
    go (Some t) h = let bad : done ≡ refused t = sym is ∙ (s.refuses t h).0 in absurd cc

-- what the list leaves: its one outcome, and the ring
pub record Once {C : Type 0} (K : Kind C) (arcs : ℕ) (begun left : State C) (places after : Places) (outcomes : List (Outcome C)) : Type 0 where
  pub outcome : Outcome C
  pub is : outcomes ≡ outcome ∷ []
  pub steps : Steps K begun (event (settle (lap_limit arcs)) (came outcome) ∷ []) left
  pub law : Run K begun (event (settle (lap_limit arcs)) (came outcome) ∷ []) left
  pub ring : after ≡ places

pub made_once : {C : Type 0} (K : Kind C) (arcs : ℕ) (begun left : State C) (places after : Places) (o : Outcome C) (made : ℕ) (outcomes : List (Outcome C)) → MakesAll K begun places [] (full_settle arcs) (o ∷ []) made left after outcomes → Run K begun (events [] (take made (full_settle arcs)) (take made outcomes)) left → Once K arcs begun left places after outcomes
made_once K arcs begun left places after o zero outcomes m law = absurd (short (m.early (Settle (lap_limit arcs)) (omega arith, refl)))
  where
    short : (1 ≤ 0) ⊎ ⊥ → ⊥
    short (inl h) = omega arith
    short (inr h) = h
made_once K arcs begun left places after o (suc (suc i)) outcomes m law = absurd (omega (arith, m.among))
made_once K arcs begun left places after o (suc zero) [] m law = absurd (omega (arith, m.noted))
made_once {C} K arcs begun left places after o (suc zero) (x ∷ xs) m law = record {
  outcome = x;
  is = ap (λ (zs : List (Outcome C)). x ∷ zs) m.rest;
  steps = m.steps;
  law = law;
  ring = m.ring ∙ kept (is_granted (came x));
}
  where
    kept : (b : Bool) → cond b places places ≡ places
    kept true = refl
    kept false = refl

module _ {C : Type 0} (K : Kind C) (arcs : ℕ) (found left : State C) (places after : Places) (o : Outcome C) (outcomes : List (Outcome C)) where
  -- the list that is made is this one
  pub listed : (cs : List (Call C)) (os : List (Outcome C)) (r : Result ℕ Stop) → cs ≡ full_settle arcs → os ≡ o ∷ [] → Runs K found places [] cs os r left after outcomes → Runs K found places [] (full_settle arcs) (o ∷ []) r left after outcomes
  listed cs os r one room run = subst₂ (λ xs ys. Runs K found places [] xs ys r left after outcomes) one room run

  -- the ring stays, whether the plan was opened or not
  pub ring_stays : (r : Result ℕ Stop) → Runs K found places [] (full_settle arcs) (o ∷ []) r left after outcomes → after ≡ places
  ring_stays (Err s) run = run.2
  ring_stays (Ok made) run = (made_once K arcs (opened found) left places after o made outcomes run.1 run.2).ring

  -- opened: the first outcome is the settle's
  module _ (made : ℕ) (run : Runs K found places [] (full_settle arcs) (o ∷ []) (Ok made) left after outcomes) (y : Outcome C) (first : y ≡ get_or outcomes 0 y) where
    abbrev once : Once K arcs (opened found) left places after outcomes
    once = made_once K arcs (opened found) left places after o made outcomes run.1 run.2

    is : came y ≡ came once.outcome
    is = ap came first ∙ ap (λ zs. came (get_or zs 0 y)) once.is

    pub first_not_done : came y ≡ done → ⊥
    first_not_done bad =
        let s = once.steps in
        not_done K (opened found) s.0 (lap_limit arcs) (came once.outcome) s.1 (sym is ∙ bad)

    pub settles_once : (r : Result (Answer C) Stop) → settle_came r ≡ came y → SettlesOnce K arcs found r left
    settles_once r told_is =
        let same = told_is ∙ is in
        record {
          stopped = λ s h. absurd (let bad : None ≡ Some s = sym run.0 ∙ h in cc);
          steps = λ _. subst (λ z. Steps K (opened found) (event (settle (lap_limit arcs)) z ∷ []) left) (sym same) once.steps;
          law = λ _. subst (λ z. Run K (opened found) (event (settle (lap_limit arcs)) z ∷ []) left) (sym same) once.law;
        }
