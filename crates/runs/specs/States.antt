-- The state of a plan: what its network means, and its tables.
use Rattle.std.specs.Prelude.{◌≡◌, ℕ, Bool, false, List, length, ℤ, Some, None, Option}
use Rattle.costs.specs.Kinds.{Kind}
use Rattle.networks.specs.Answers.{Told}
use Rattle.networks.specs.Nets.{Lock, Net, lock_at, out_at, shown}
use Rattle.flows.specs.Flows.{imbalances_from}
use Rattle.flows.specs.Stops.{open_stop}
use Rattle.flows.specs.Settles.{Tables}

pub record State (C : Type 0) : Type 0 where
  pub net : Net C
  pub tables : Tables C

abbrev pub state : {C : Type 0} → Net C → List ℤ → List ℤ → List C → List ℕ → State C
state n flow needs prices marks = record { net = n; tables = record { flow = flow; needs = needs; prices = prices; marks = marks } }

-- the same plan with another network, another flow or other needs
abbrev pub with_net : {C : Type 0} → State C → Net C → State C
with_net p n = record { net = n; tables = p.tables }

abbrev pub with_flow : {C : Type 0} → State C → List ℤ → State C
with_flow p fs = state p.net fs p.tables.needs p.tables.prices p.tables.marks

abbrev pub with_needs : {C : Type 0} → State C → List ℤ → State C
with_needs p ns = state p.net p.tables.flow ns p.tables.prices p.tables.marks

-- why a plan cannot be opened, if so
abbrev pub opening_stop : {C : Type 0} → Kind C → State C → Option Told
opening_stop K p = open_stop K.size p.net p.tables.flow (length p.tables.needs) (length p.tables.prices) (length p.tables.marks)

-- the plan once it is opened: its needs are the imbalances
abbrev pub opened : {C : Type 0} → State C → State C
opened p = with_needs p (imbalances_from 1 p.net.nodes (shown p.net) p.tables.flow)

-- a plan is new when open has just been granted, whatever prices and marks it holds
pub record New {C : Type 0} (K : Kind C) (p : State C) : Type 0 where
  pub fits : opening_stop K p ≡ None
  pub needs_are : p ≡ opened p

-- arc a is out at lock-out number l
abbrev pub out_of : Option Lock → ℕ → Bool
out_of None a = false
out_of (Some o) a = out_at o a

abbrev pub out_in : {C : Type 0} → Net C → ℕ → ℕ → Bool
out_in n l a = out_of (lock_at n.locks l) a

-- no arc is out at any lock-out
abbrev pub NoneOut : {C : Type 0} → Net C → Type 0
NoneOut n = (l a : ℕ) → out_in n l a ≡ false
