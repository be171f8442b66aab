-- A worked figure: a network with a flow, calls on its plan, and what each call has to come to.
use Rattle.std.specs.Prelude.{◌≡◌, ℕ, List, [], ◌∷◌, length, ℤ, None}
use Rattle.std.specs.List.{AllByRecursion}
use Rattle.costs.specs.Kinds.{Kind}
use Rattle.costs.specs.Models.{plain_kind, two_tier_kind}
use Rattle.costs.specs.declared.Plain.{Plain}
use Rattle.costs.specs.declared.TwoTier.{TwoTier}
use Rattle.networks.specs.Nets.{Net, shown}
use Rattle.flows.specs.Cuts.{MarksCut}
use Rattle.flows.specs.Passing.{pass_stop}
use Rattle.flows.specs.Settles.{least, none}
use Rattle.runs.specs.States.{State, state, opening_stop, opened}
use Rattle.runs.specs.Events.{Asked, Came, settled, done, event}
use Rattle.runs.specs.Steps.{Step}

-- what is due of a call: least, of this total by this flow alone, which passes at these prices; the same with no lap; none, with these marks a cut; or that it is done
pub data Due (C : Type 0) : Type 0 where
  least_by : C → List ℤ → List C → Due C
  least_at_once : C → List ℤ → List C → Due C
  none_by : List ℕ → Due C
  is_done : Due C

pub record Figure (C : Type 0) : Type 0 where
  pub net : Net C
  pub flow : List ℤ
  pub calls : List (Asked C × Due C)

-- least of that total with so many laps, and the flow left is that one, which passes at those prices
abbrev pub ComesToLeast : {C : Type 0} → Kind C → C → ℕ → List ℤ → List C → Came C → State C → Type 0
ComesToLeast K cost laps flow prices outcome left = (outcome ≡ settled (least cost laps)) × (left.tables.flow ≡ flow) × (pass_stop K left.net flow left.tables.needs prices (length left.tables.marks) ≡ None)

-- the outcome of a call, and the plan that it leaves, are what is due
abbrev pub ComesTo : {C : Type 0} → Kind C → Due C → Came C → State C → Type 0
ComesTo K (least_by cost flow prices) outcome left = (laps : ℕ) × ComesToLeast K cost laps flow prices outcome left
ComesTo K (least_at_once cost flow prices) outcome left = ComesToLeast K cost 0 flow prices outcome left
ComesTo K (none_by marks) outcome left = (outcome ≡ settled none) × MarksCut (shown left.net) left.tables.needs marks
ComesTo K is_done outcome left = outcome ≡ done

-- whatever events with these calls lead on from a plan, by steps, each came to what is due of it
abbrev pub Foretold : {C : Type 0} → Kind C → State C → List (Asked C × Due C) → Type 0
Foretold K found [] = Unit {0}
Foretold {C} K found (c ∷ calls) = (outcome : Came C) (left : State C) → Step K found (event c.0 outcome) left → ComesTo K c.1 outcome left × Foretold K left calls

-- a plan of the figure, whatever its other tables hold
pub record Begins {C : Type 0} (x : Figure C) (p : State C) : Type 0 where
  pub net : p.net ≡ x.net
  pub flow : p.tables.flow ≡ x.flow
  pub needs : length p.tables.needs ≡ x.net.nodes
  pub prices : length p.tables.prices ≡ x.net.nodes
  pub marks : length p.tables.marks ≡ x.net.nodes

-- it opens, and its calls come to what is due
pub record Right {C : Type 0} (K : Kind C) (x : Figure C) (p : State C) : Type 0 where
  pub opens : opening_stop K p ≡ None
  pub calls : Foretold K (opened p) x.calls

-- a figure with costs of one number or of two
pub data Case : Type 0 where
  in_units : Figure Plain → Case
  in_tiers : Figure TwoTier → Case

-- the figure is right for every such plan
abbrev pub RightCase : Case → Type 0
RightCase (in_units x) = (p : State Plain) → Begins x p → Right plain_kind x p
RightCase (in_tiers x) = (p : State TwoTier) → Begins x p → Right two_tier_kind x p

abbrev pub AllRight : List Case → Type 0
AllRight cases = AllByRecursion RightCase cases
