-- A run: opened, or not; and then the calls of a list.
use Rattle.std.proofs.Common.{◌≡◌, ℕ, List, [], take, ℤ, Some, None, Ok, Err, Result, sym, refl, ap, ◌∙◌, subst}
use Rattle.costs.specs.Kinds.{Kind, Laws}
use Rattle.networks.specs.declared.stops.Stop.{Stop}
use Rattle.networks.specs.Stops.{told}
use Rattle.networks.specs.Answers.{unless}
use Rattle.networks.specs.Rings.{Places}
use Rattle.search.specs.declared.settling.Answer.{Answer}
use Rattle.runs.specs.declared.calls.Call.{Call}
use Rattle.runs.specs.declared.calls.Outcome.{Outcome}
use Rattle.runs.specs.States.{State, opening_stop, opened}
use Rattle.runs.specs.Events.{settle, refused, event, events}
use Rattle.runs.proofs.Law.{steps_make_a_run}
use Rattle.plans.specs.Keeping.{settle_came, Keeps}
use Rattle.plans.specs.Lists.{MakesAll, Runs, SettlesNew}
use Rattle.plans.proofs.Opened.{opened_new}

module _ {C : Type 0} (K : Kind C) (found : State C) (places : Places) (offers : List ℤ) (calls : List (Call C)) (outs : List (Outcome C)) where
  pub run_refused : (s : Stop) (left : State C) → Some (told s) ≡ opening_stop K found → left ≡ unless (opening_stop K found) found (opened found) → Runs K found places offers calls outs (Err s) left places outs
  run_refused s left so is =
      let stop = sym so in
      (stop, is ∙ ap (λ o. unless o found (opened found)) stop, refl, refl)

  pub run_made : Laws K → (begun left : State C) (after : Places) (outcomes : List (Outcome C)) (made : ℕ) → None ≡ opening_stop K found → begun ≡ unless (opening_stop K found) found (opened found) →
      MakesAll K begun places offers calls outs made left after outcomes → Runs K found places offers calls outs (Ok made) left after outcomes
  run_made laws begun left after outcomes made so is all =
      let stop = sym so in
      let new = is ∙ ap (λ o. unless o found (opened found)) stop in
      let from = subst (λ z. MakesAll K z places offers calls outs made left after outcomes) new all in
      (stop, from, steps_make_a_run K laws (opened found) left (events offers (take made calls) (take made outcomes)) (opened_new K found stop) from.steps)

-- opened and settled at once
module _ {C : Type 0} (K : Kind C) (found : State C) (budget : ℕ) where
  pub new_refused : (s : Stop) (left : State C) → Some (told s) ≡ opening_stop K found → left ≡ unless (opening_stop K found) found (opened found) → SettlesNew K found budget (Err s) left
  new_refused s left so is =
      let stop = sym so in
      record {
        stopped = λ t h. let same : Some (told s) ≡ Some t = so ∙ h in let e : told s ≡ t = cc in (ap refused e, is ∙ ap (λ o. unless o found (opened found)) stop);
        steps = λ h. absurd (let bad : Some (told s) ≡ None = so ∙ h in cc);
        law = λ h. absurd (let bad : Some (told s) ≡ None = so ∙ h in cc);
      }

  pub new_settled : Laws K → (begun left : State C) (r : Result (Answer C) Stop) → None ≡ opening_stop K found → begun ≡ unless (opening_stop K found) found (opened found) →
      Keeps K begun (event (settle budget) (settle_came r)) left → SettlesNew K found budget r left
  new_settled laws begun left r so is keeps =
      let stop = sym so in
      let new = is ∙ ap (λ o. unless o found (opened found)) stop in
      let one = subst (λ z. Keeps K z (event (settle budget) (settle_came r)) left) new keeps in
      record {
        stopped = λ t h. absurd (let bad : None ≡ Some t = so ∙ h in cc);
        steps = λ _. (left, one.step, refl);
        law = λ _. one.law (opened found) [] (opened_new K found stop) refl;
      }
