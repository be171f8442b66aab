-- A call whose answer and whose effect are equations takes its step, and keeps the law.
use Rattle.std.proofs.Common.{◌≡◌, ℕ, List, ℤ, Some, None, Ok, Err, Option, Result, sym, refl, ap, ◌∙◌, subst}
use Rattle.costs.specs.Kinds.{Kind, Laws}
use Rattle.networks.specs.declared.stops.Stop.{Stop}
use Rattle.networks.specs.declared.tags.Tag.{Tag}
use Rattle.networks.specs.Stops.{told}
use Rattle.networks.specs.Answers.{Told, answer, said, tagged, refusal, returned, answer_back, unless}
use Rattle.networks.specs.Nets.{Net, rebound_stop, rebounded, recost_stop, recosted, take_out_stop, taken, hand_back_stop, handed_back}
use Rattle.flows.specs.Settles.{Tables}
use Rattle.search.specs.declared.settling.Answer.{Answer}
use Rattle.search.specs.Settling.{Settled, answered}
use Rattle.runs.specs.States.{State, with_net, with_flow}
use Rattle.runs.specs.Events.{Asked, settle, rebound, recost, take_out, hand_back, take_up, Came, done, refused, Event, event}
use Rattle.runs.specs.Steps.{stop_of, Grants, Step}
use Rattle.runs.proofs.Law.{lawful}
use Rattle.plans.specs.Keeping.{settle_came, done_came, back_came, Keeps, KeepsTables}

-- what comes of a call that is stopped so, or not at all
abbrev due_came : {C : Type 0} → Option Told → Came C
due_came None = done
due_came (Some s) = refused s

done_due : {C X : Type 0} (r : Result X Stop) (s : Option Told) → refusal r ≡ s → done_came {C = C} r ≡ due_came s
done_due {C} r s e = by_refusal r ∙ ap (due_came {C = C}) e
  where
    by_refusal : {X : Type 0} (r : Result X Stop) → done_came {C = C} r ≡ due_came (refusal r)
    by_refusal (Ok y) = refl
    by_refusal (Err t) = refl

tagged_due : {C : Type 0} (r : Result Tag Stop) (s : Option Told) (a : ℕ) → said (tagged r) ≡ answer s a → done_came {C = C} r ≡ due_came s
tagged_due (Ok y) None a e = refl
tagged_due (Ok y) (Some s) a e = absurd cc
tagged_due (Err t) None a e = absurd cc
tagged_due (Err t) (Some s) a e = let h : told t ≡ s = cc in ap refused h

back_due : {C : Type 0} (r : Result (Unit {0}) (Stop × Tag)) (s : Option Told) (t : Tag) → returned r ≡ answer_back s t → back_came {C = C} r ≡ due_came s
back_due (Ok y) None t e = refl
back_due (Ok y) (Some s) t e = absurd cc
back_due (Err x) None t e = absurd cc
back_due (Err x) (Some s) t e = let h : ◌≡◌ {A = Told × Tag} (told x.0, x.1) (s, t) = cc in ap refused (ap (λ p. p.0) h)

module _ {C : Type 0} (K : Kind C) where
  does : (p q due : State C) (c : Asked C) (o : Came C) (s : Option Told) → stop_of K p c ≡ s → ((z : State C) → z ≡ due → Grants K p c done z) → o ≡ due_came s → q ≡ unless s p due → Step K p (event c o) q
  does p q due c o None stop grant is left = record {
    refuses = λ s h. absurd (let bad : None ≡ Some s = sym stop ∙ h in cc);
    grants = λ h. subst (λ x. Grants K p c x q) (sym is) (grant q left);
  }
  does p q due c o (Some t) stop grant is left = record {
    refuses = λ s h. let same : Some t ≡ Some s = sym stop ∙ h in let e : t ≡ s = cc in (is ∙ ap refused e, left);
    grants = λ h. absurd (let bad : Some t ≡ None = sym stop ∙ h in cc);
  }

  settle_step : (p : State C) (budget : ℕ) (r : Result (Answer C) Stop) (t : Tables C) → refusal r ≡ stop_of K p (settle budget) → Settled K p.net budget p.tables r t → Step K p (event (settle budget) (settle_came r)) (record { net = p.net; tables = t })
  settle_step p budget (Ok a) t stop s = record {
    refuses = λ x h. absurd (let bad : None ≡ Some x = stop ∙ h in cc);
    grants = λ h. (answered a, refl, refl, s);
  }
  settle_step p budget (Err f) t stop s = record {
    refuses = λ x h. let same : Some (told f) ≡ Some x = stop ∙ h in let e : told f ≡ x = cc in (ap refused e, ap (λ (u : Tables C). record { net = p.net; tables = u }) s);
    grants = λ h. absurd (let bad : Some (told f) ≡ None = stop ∙ h in cc);
  }

module _ {C : Type 0} (K : Kind C) (laws : Laws K) where
  keeps : (p q : State C) (e : Event C) → Step K p e q → Keeps K p e q
  keeps p q e s = record { step = s; law = lawful K laws p q e s }

  pub settle_keeps : (p : State C) (budget : ℕ) (r : Result (Answer C) Stop) (t : Tables C) → refusal r ≡ stop_of K p (settle budget) → Settled K p.net budget p.tables r t → Keeps K p (event (settle budget) (settle_came r)) (record { net = p.net; tables = t })
  settle_keeps p budget r t stop s = keeps p (record { net = p.net; tables = t }) (event (settle budget) (settle_came r)) (settle_step K p budget r t stop s)

  pub does_keeps : (p q due : State C) (c : Asked C) (o : Came C) (s : Option Told) → stop_of K p c ≡ s → ((z : State C) → z ≡ due → Grants K p c done z) → o ≡ due_came s → q ≡ unless s p due → Keeps K p (event c o) q
  does_keeps p q due c o s stop grant is left = keeps p q (event c o) (does K p q due c o s stop grant is left)

  -- a call on the network leaves the tables; what is changed already has the stop in it
  on_net : (n m due : Net C) (s : Option Told) (c : Asked C) (o : Came C) (t : Tables C) → let p : State C = record { net = n; tables = t } in
      stop_of K p c ≡ s → ((z : State C) → z ≡ with_net p (unless s n due) → Grants K p c done z) → o ≡ due_came s → m ≡ unless s n due → Keeps K p (event c o) (record { net = m; tables = t })
  on_net n m due s c o t stop grant is left =
      let p : State C = record { net = n; tables = t } in
      does_keeps p (record { net = m; tables = t }) (with_net p (unless s n due)) c o s stop grant is (ap (with_net p) left ∙ whole s)
    where
      whole : (s : Option Told) → ◌≡◌ {A = State C} (record { net = unless s n due; tables = t }) (unless s (record { net = n; tables = t }) (record { net = unless s n due; tables = t }))
      whole None = refl
      whole (Some x) = refl

  pub rebound_keeps : (n m : Net C) (a : ℕ) (lo hi : ℤ) (r : Result (Unit {0}) Stop) → refusal r ≡ rebound_stop n a → m ≡ rebounded n a lo hi → KeepsTables K n (event (rebound a lo hi) (done_came r)) m
  rebound_keeps n m a lo hi r said-so left t = on_net n m _ (rebound_stop n a) (rebound a lo hi) (done_came r) t refl (λ z e. (refl, e)) (done_due r (rebound_stop n a) said-so) left

  pub recost_keeps : (n m : Net C) (a : ℕ) (c : C) (r : Result (Unit {0}) Stop) → refusal r ≡ recost_stop K.size n a c → m ≡ recosted K.size n a c → KeepsTables K n (event (recost a c) (done_came r)) m
  recost_keeps n m a c r said-so left t = on_net n m _ (recost_stop K.size n a c) (recost a c) (done_came r) t refl (λ z e. (refl, e)) (done_due r (recost_stop K.size n a c) said-so) left

  pub take_out_keeps : (n m : Net C) (l a : ℕ) (r : Result Tag Stop) → said (tagged r) ≡ answer (take_out_stop n l a) a → m ≡ taken n l a → KeepsTables K n (event (take_out l a) (done_came r)) m
  take_out_keeps n m l a r said-so left t = on_net n m _ (take_out_stop n l a) (take_out l a) (done_came r) t refl (λ z e. (refl, e)) (tagged_due r (take_out_stop n l a) a said-so) left

  pub hand_back_keeps : (n m : Net C) (l : ℕ) (tag : Tag) (r : Result (Unit {0}) (Stop × Tag)) → returned r ≡ answer_back (hand_back_stop n l tag.arc) tag → m ≡ handed_back n l tag.arc → KeepsTables K n (event (hand_back l tag.arc) (back_came r)) m
  hand_back_keeps n m l tag r said-so left t = on_net n m _ (hand_back_stop n l tag.arc) (hand_back l tag.arc) (back_came r) t refl (λ z e. (refl, e)) (back_due r (hand_back_stop n l tag.arc) tag said-so) left

  -- the same two through a ring of tags, where the answer has no tag
  pub ring_take_out_keeps : (n m : Net C) (l a : ℕ) (r : Result (Unit {0}) Stop) → refusal r ≡ take_out_stop n l a → m ≡ taken n l a → KeepsTables K n (event (take_out l a) (done_came r)) m
  ring_take_out_keeps n m l a r said-so left t = on_net n m _ (take_out_stop n l a) (take_out l a) (done_came r) t refl (λ z e. (refl, e)) (done_due r (take_out_stop n l a) said-so) left

  pub ring_hand_back_keeps : (n m : Net C) (l a : ℕ) (r : Result (Unit {0}) Stop) → refusal r ≡ hand_back_stop n l a → m ≡ handed_back n l a → KeepsTables K n (event (hand_back l a) (done_came r)) m
  ring_hand_back_keeps n m l a r said-so left t = on_net n m _ (hand_back_stop n l a) (hand_back l a) (done_came r) t refl (λ z e. (refl, e)) (done_due r (hand_back_stop n l a) said-so) left

  -- a flow offered: refused, or copied
  pub take_up_refused : (p : State C) (fs : List ℤ) (s : Told) → Some s ≡ stop_of K p (take_up fs) → Keeps K p (event (take_up fs) (refused s)) p
  take_up_refused p fs s stop = does_keeps p p (with_flow p fs) (take_up fs) (refused s) (Some s) (sym stop) (λ z e. (refl, e)) refl refl

  pub take_up_granted : (p : State C) (fs gs : List ℤ) → None ≡ stop_of K p (take_up fs) → gs ≡ fs → Keeps K p (event (take_up fs) done) (with_flow p gs)
  take_up_granted p fs gs stop same = does_keeps p (with_flow p gs) (with_flow p fs) (take_up fs) done None (sym stop) (λ z e. (refl, e)) refl (ap (with_flow p) same)
