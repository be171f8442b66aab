-- The four ways of a step: refused, settled, a change of the network, or a flow taken up.
use Rattle.std.proofs.Common.{◌≡◌, ℕ, suc, Bool, true, false, cond, ◌&&◌, eqb, List, [], ◌∷◌, length, ℤ, Some, None, Option, sym, refl, ap, ◌∙◌, subst, arith}
use Rattle.std.specs.List.{AllByRecursion}
use Rattle.costs.specs.Kinds.{Kind}
use Rattle.networks.specs.declared.network.Arc.{Arc}
use Rattle.networks.specs.Answers.{Told}
use Rattle.networks.specs.Nets.{Net, shown}
use Rattle.networks.proofs.Shown.{length_shown}
use Rattle.flows.specs.Flows.{Ends, Meets}
use Rattle.flows.specs.searching.Fits.{Fitting}
use Rattle.flows.specs.Stops.{stop_unless, or_else, counts_fit, lengths_fit, arcs_stop, needs_stop, first_stop, take_up_stop}
use Rattle.flows.specs.Settles.{Tables, Answered, least, paused, none, Answers, Settles}
use Rattle.flows.proofs.Fitted.{Passed, no_stop}
use Rattle.flows.proofs.Lapping.{laps_meet}
use Rattle.runs.specs.States.{State, with_flow}
use Rattle.runs.specs.Events.{Asked, settle, rebound, recost, take_out, hand_back, take_up, settled, done, refused, Event, is_granted, Granted}
use Rattle.runs.specs.Steps.{stop_of, Grants, Step}
use Rattle.runs.proofs.Ends.{imbalance_same}
use Rattle.runs.proofs.Effects.{Effect, NotOf, no_effect, rebound_effect, recost_effect, take_out_effect, hand_back_effect}

-- no stop comes where settle finds these tables
abbrev pub SettlePasses : {C : Type 0} → Kind C → State C → Type 0
SettlePasses K p = first_stop K.size p.net p.tables.flow p.tables.needs (length p.tables.prices) (length p.tables.marks) ≡ None

pub data Way {C : Type 0} (K : Kind C) (p : State C) (e : Event C) (q : State C) : Type 0 where
  way_refused : (s : Told) → e.outcome ≡ refused s → q ≡ p → Way K p e q
  way_settled : (budget : ℕ) (x : Answered C) → e.call ≡ settle budget → e.outcome ≡ settled x → SettlePasses K p → q.net ≡ p.net → Settles K p.net.nodes (shown p.net) budget p.tables x q.tables → Way K p e q
  way_changed : ((b : ℕ) → e.call ≡ settle b → ⊥) → e.outcome ≡ done → Effect p.net e q.net → q.tables ≡ p.tables → Way K p e q
  way_taken_up : (fs : List ℤ) → e.call ≡ take_up fs → e.outcome ≡ done → SettlePasses K (with_flow p fs) → q ≡ with_flow p fs → Way K p e q

-- a flow that may be taken up could be settled
settles_then : (x y : Bool) (r : Option Told) (s : Told) → cond (x && y) r (Some s) ≡ None → cond y r (Some s) ≡ None
settles_then true y r s e = e
settles_then false y r s e = absurd cc

taken_passes : {C : Type 0} (size : C → ℕ) (n : Net C) (own : ℕ) (fs needs : List ℤ) (prices marks : ℕ) → take_up_stop size n own fs needs prices marks ≡ None → first_stop size n fs needs prices marks ≡ None
taken_passes size n own fs needs prices marks e = go (counts_fit n.nodes (length n.arcs)) e
  where
    inner : Option Told
    inner = or_else (arcs_stop size n.nodes 1 (shown n) fs) (needs_stop (shown n) fs 1 needs)

    long : Bool
    long = lengths_fit n.nodes (length n.arcs) (length fs) (length needs) prices marks

    go : (b : Bool) → stop_unless b 1 0 (stop_unless (eqb own (length n.arcs) && lengths_fit n.nodes (length n.arcs) (length fs) (length needs) prices marks) 2 0 (or_else (arcs_stop size n.nodes 1 (shown n) fs) (needs_stop (shown n) fs 1 needs))) ≡ None →
        stop_unless b 1 0 (stop_unless (lengths_fit n.nodes (length n.arcs) (length fs) (length needs) prices marks) 2 0 (or_else (arcs_stop size n.nodes 1 (shown n) fs) (needs_stop (shown n) fs 1 needs))) ≡ None
    go true h = settles_then (eqb own (length n.arcs)) (lengths_fit n.nodes (length n.arcs) (length fs) (length needs) prices marks) _ (2, 0) h
    go false h = h

module _ {C : Type 0} (K : Kind C) (p : State C) (e : Event C) (q : State C) where
  on_done : e.outcome ≡ done → Granted e
  on_done is = ap is_granted is

  by_call : (c : Asked C) → e.call ≡ c → stop_of K p c ≡ None → Grants K p c e.outcome q → Way K p e q
  by_call (settle budget) c ok (x, is, same, s) = way_settled budget x c is ok same s
  by_call (rebound a lo hi) c ok (is, same) =
      way_changed (λ b k. cc) is (subst (λ m. Effect p.net e m) (sym (ap (λ z. z.net) same)) (rebound_effect p.net e a lo hi c (on_done is) ok)) (ap (λ z. z.tables) same)
  by_call (recost a d) c ok (is, same) =
      way_changed (λ b k. cc) is (subst (λ m. Effect p.net e m) (sym (ap (λ z. z.net) same)) (recost_effect K.size p.net e a d c (on_done is) ok)) (ap (λ z. z.tables) same)
  by_call (take_out l a) c ok (is, same) =
      way_changed (λ b k. cc) is (subst (λ m. Effect p.net e m) (sym (ap (λ z. z.net) same)) (take_out_effect p.net e l a c (on_done is) ok)) (ap (λ z. z.tables) same)
  by_call (hand_back l a) c ok (is, same) =
      way_changed (λ b k. cc) is (subst (λ m. Effect p.net e m) (sym (ap (λ z. z.net) same)) (hand_back_effect p.net e l a c (on_done is) ok)) (ap (λ z. z.tables) same)
  by_call (take_up fs) c ok (is, same) =
      way_taken_up fs c is (taken_passes K.size p.net (length p.tables.flow) fs p.tables.needs (length p.tables.prices) (length p.tables.marks) ok) same

  pub way_of : Step K p e q → Way K p e q
  way_of s = go (stop_of K p e.call) refl
    where
      go : (o : Option Told) → stop_of K p e.call ≡ o → Way K p e q
      go None h = by_call e.call refl h (s.grants h)
      go (Some t) h = let r = s.refuses t h in way_refused t r.0 r.1

  -- an event that is not granted changes nothing
  pub idle : Way K p e q → (Granted e → ⊥) → q ≡ p
  idle (way_refused s is same) no-grant = same
  idle (way_settled b x c is ok same s) no-grant = absurd (no-grant (ap is_granted is))
  idle (way_changed c is effect same) no-grant = absurd (no-grant (ap is_granted is))
  idle (way_taken_up fs c is ok same) no-grant = absurd (no-grant (ap is_granted is))

  none_of_refused : (s : Told) → e.outcome ≡ refused s → NotOf e
  none_of_refused s is = record {
    no_rebound = λ a (lo, hi, (c, g)). never g;
    no_recost = λ a (c, (k, g)). never g;
    no_take_out = λ l a (k, g). never g;
    no_hand_back = λ l a (k, g). never g;
  }
    where
      never : Granted e → ⊥
      never g = let bad : false ≡ true = sym (ap is_granted is) ∙ g in cc

  none_of_settle : (b : ℕ) → e.call ≡ settle b → NotOf e
  none_of_settle b c = record {
    no_rebound = λ a (lo, hi, (k, g)). cc;
    no_recost = λ a (d, (k, g)). cc;
    no_take_out = λ l a (k, g). cc;
    no_hand_back = λ l a (k, g). cc;
  }

  none_of_take_up : (fs : List ℤ) → e.call ≡ take_up fs → NotOf e
  none_of_take_up fs c = record {
    no_rebound = λ a (lo, hi, (k, g)). cc;
    no_recost = λ a (d, (k, g)). cc;
    no_take_out = λ l a (k, g). cc;
    no_hand_back = λ l a (k, g). cc;
  }

  -- what the event does to the network
  pub effect_of : Way K p e q → Effect p.net e q.net
  effect_of (way_refused s is same) = subst (λ z. Effect p.net e z.net) (sym same) (no_effect p.net e (none_of_refused s is))
  effect_of (way_settled b x c is ok same s) = subst (Effect p.net e) (sym same) (no_effect p.net e (none_of_settle b c))
  effect_of (way_changed c is effect same) = effect
  effect_of (way_taken_up fs c is ok same) = subst (λ z. Effect p.net e z.net) (sym same) (no_effect p.net e (none_of_take_up fs c))

  -- the needs stay
  pub needs_of : Way K p e q → q.tables.needs ≡ p.tables.needs
  needs_of (way_refused s is same) = ap (λ z. z.tables.needs) same
  needs_of (way_settled b x c is ok same s) = s.needs_stay
  needs_of (way_changed c is effect same) = ap (λ t. t.needs) same
  needs_of (way_taken_up fs c is ok same) = ap (λ z. z.tables.needs) same

  settled_meets : (b : ℕ) (x : Answered C) → SettlePasses K p → Settles K p.net.nodes (shown p.net) b p.tables x q.tables → Meets (shown p.net) p.tables.needs q.tables.flow
  settled_meets b x ok s = go x s.answers
    where
      passed : Passed K p.net p.tables.flow p.tables.needs (length p.tables.prices) (length p.tables.marks)
      passed = no_stop K p.net p.tables.flow p.tables.needs (length p.tables.prices) (length p.tables.marks) ok

      long : length p.tables.flow ≡ length (shown p.net)
      long = (no_stop K p.net p.tables.flow p.tables.needs (length p.tables.prices) (length p.tables.marks) ok).flow_long ∙ sym (length_shown p.net)

      met : Meets (shown p.net) p.tables.needs p.tables.flow
      met = (no_stop K p.net p.tables.flow p.tables.needs (length p.tables.prices) (length p.tables.marks) ok).meets

      go : (y : Answered C) → Answers K p.net.nodes (shown p.net) b p.tables y q.tables → Meets (shown p.net) p.tables.needs q.tables.flow
      go (least cost laps) r = laps_meet K (shown p.net) p.tables.needs p.tables.flow q.tables.flow laps long r.lapped met
      go (paused laps) r = laps_meet K (shown p.net) p.tables.needs p.tables.flow q.tables.flow laps long r.lapped met
      go none r = subst (Meets (shown p.net) p.tables.needs) (sym r.as_found) met

  -- they are still the imbalances
  pub meets_of : Way K p e q → Meets (shown p.net) p.tables.needs p.tables.flow → Meets (shown q.net) q.tables.needs q.tables.flow
  meets_of (way_refused s is same) met = subst (λ z. Meets (shown z.net) z.tables.needs z.tables.flow) (sym same) met
  meets_of (way_settled b x c is ok same s) met =
      subst (λ m. Meets (shown m) q.tables.needs q.tables.flow) (sym same)
      (subst (λ ns. Meets (shown p.net) ns q.tables.flow) (sym s.needs_stay) (settled_meets b x ok s))
  meets_of (way_changed c is effect same) met =
      subst (λ (t : Tables C). Meets (shown q.net) t.needs t.flow) (sym same)
      (λ n l h. imbalance_same (shown p.net) (shown q.net) p.tables.flow n effect.ends ∙ met n l h)
  meets_of (way_taken_up fs c is ok same) met =
      subst (λ z. Meets (shown z.net) z.tables.needs z.tables.flow) (sym same)
      (no_stop K p.net fs p.tables.needs (length p.tables.prices) (length p.tables.marks) ok).meets

-- the ends of arcs that fit
pub all_ends : {C : Type 0} (K : Kind C) (N : ℕ) (arcs : List (Arc C)) → Fitting K N arcs → AllByRecursion (Ends N) arcs
all_ends K N [] f = tt
all_ends K N (a ∷ rest) f = ((f 0 a (omega arith, refl)).ends, all_ends K N rest (λ i b h. f (suc i) b (omega (arith, h.0), h.1)))
