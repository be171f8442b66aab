-- What one call on a plan does: when it is refused, and what it leaves.
use Rattle.std.specs.Prelude.{◌≡◌, List, [], ◌∷◌, length, Some, None, Option}
use Rattle.costs.specs.Kinds.{Kind}
use Rattle.networks.specs.Answers.{Told}
use Rattle.networks.specs.Nets.{shown, rebound_stop, rebounded, recost_stop, recosted, take_out_stop, taken, hand_back_stop, handed_back}
use Rattle.flows.specs.Stops.{first_stop, take_up_stop}
use Rattle.flows.specs.Settles.{Answered, Settles}
use Rattle.runs.specs.States.{State, with_net, with_flow}
use Rattle.runs.specs.Events.{Asked, settle, rebound, recost, take_out, hand_back, take_up, Came, settled, done, refused, Event}

-- why the call is refused, if so: the first stop
abbrev pub stop_of : {C : Type 0} → Kind C → State C → Asked C → Option Told
stop_of K p (settle budget) = first_stop K.size p.net p.tables.flow p.tables.needs (length p.tables.prices) (length p.tables.marks)
stop_of K p (rebound a lo hi) = rebound_stop p.net a
stop_of K p (recost a c) = recost_stop K.size p.net a c
stop_of K p (take_out l a) = take_out_stop p.net l a
stop_of K p (hand_back l a) = hand_back_stop p.net l a
stop_of K p (take_up fs) = take_up_stop K.size p.net (length p.tables.flow) fs p.tables.needs (length p.tables.prices) (length p.tables.marks)

-- done, and the plan is this one
abbrev pub Does : {C : Type 0} → Came C → State C → State C → Type 0
Does o q due = (o ≡ done) × (q ≡ due)

-- what a granted call answers and leaves
abbrev pub Grants : {C : Type 0} → Kind C → State C → Asked C → Came C → State C → Type 0
Grants {C} K p (settle budget) o q = (x : Answered C) × (o ≡ settled x) × (q.net ≡ p.net) × Settles K p.net.nodes (shown p.net) budget p.tables x q.tables
Grants K p (rebound a lo hi) o q = Does o q (with_net p (rebounded p.net a lo hi))
Grants K p (recost a c) o q = Does o q (with_net p (recosted K.size p.net a c))
Grants K p (take_out l a) o q = Does o q (with_net p (taken p.net l a))
Grants K p (hand_back l a) o q = Does o q (with_net p (handed_back p.net l a))
Grants K p (take_up fs) o q = Does o q (with_flow p fs)

-- the event e leads from the plan p to the plan q: refused exactly as the first stop says, it changes nothing
pub record Step {C : Type 0} (K : Kind C) (p : State C) (e : Event C) (q : State C) : Type 0 where
  pub refuses : (s : Told) → stop_of K p e.call ≡ Some s → (e.outcome ≡ refused s) × (q ≡ p)
  pub grants : stop_of K p e.call ≡ None → Grants K p e.call e.outcome q

-- the events lead from one plan to another, step by step
abbrev pub Steps : {C : Type 0} → Kind C → State C → List (Event C) → State C → Type 0
Steps K p [] q = p ≡ q
Steps {C} K p (e ∷ es) q = (m : State C) × Step K p e m × Steps K m es q
