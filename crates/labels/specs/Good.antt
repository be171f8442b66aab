-- Labellings.
use Rattle.std.specs.Prelude.{◌≡◌, ℕ, ◌+◌, ◌-◌, ◌<◌, ◌≤◌, Bool, true, false, cond, List, [], ◌∷◌, ◌++◌, length, ℤ, pos, Some, None, Option, ◌==◌, nat_lt, slice_index, slice_index_or, slice_set}
use Rattle.costs.specs.Kinds.{Kind}
use Rattle.networks.specs.Limits.{most_nodes}
use Rattle.networks.specs.Nets.{IsAt}
use Rattle.flows.specs.Laps.{Leads, near, far}
use Rattle.networks.specs.declared.network.Arc.{Arc}
use Rattle.flows.specs.declared.steps.Step.{Step}
use Rattle.labels.specs.declared.labelling.Entry.{Entry}
use Rattle.labels.specs.declared.labelling.Labels.{Labels}
use Rattle.labels.specs.Moves.{may}

abbrev pub no_entry : Entry
no_entry = record { node = 0; parent = 0; step = record { node = 0; arc = 0; along = false } }

-- how many nodes are labelled
abbrev pub count : Labels → ℕ
count ls = length ls.entries.items

-- the k-th labelled node, and the place of a node: from 1 on, or 0; and counted from 0, if it has one
abbrev pub entry_at : Labels → ℕ → Entry
entry_at ls k = slice_index_or ls.entries.items k no_entry

abbrev pub node_at : Labels → ℕ → ℕ
node_at ls k = (entry_at ls k).node

abbrev pub place_of : Labels → ℕ → ℕ
place_of ls n = slice_index ls.places (n - 1)

abbrev pub place_at : Labels → ℕ → Option ℕ
place_at ls n = cond (nat_lt 0 (place_of ls n)) (Some (place_of ls n - 1)) None

abbrev pub Labelled : Labels → ℕ → Type 0
Labelled ls n = 0 < place_of ls n

-- how many numbers are not 0
abbrev pub used : List ℕ → ℕ
used [] = 0
used (x ∷ xs) = cond (x == 0) 0 1 + used xs

-- the step over arc i is one that its arc may take, and not of the chosen arc
pub record Open {C : Type 0} (K : Kind C) (arcs : List (Arc C)) (flow : List ℤ) (prices : List C) (chosen : ℕ) (s : Step) (n : ℕ) : Type 0 where
  pub leads : Leads arcs s n
  pub other : s.arc ≡ chosen → ⊥
  pub may_move : (a : Arc C) → IsAt arcs s.arc a → may K prices a s.along (slice_index_or flow s.arc (pos 0)) ≡ true

-- the node at place k was labelled from an earlier one
pub record Linked {C : Type 0} (K : Kind C) (arcs : List (Arc C)) (flow : List ℤ) (prices : List C) (chosen : ℕ) (ls : Labels) (k : ℕ) : Type 0 where
  pub earlier : (entry_at ls k).parent < k
  pub sets_out : (entry_at ls k).step.node ≡ node_at ls (entry_at ls k).parent
  pub opens : Open K arcs flow prices chosen (entry_at ls k).step (node_at ls k)

-- places and entries agree
pub record Whole (N : ℕ) (ls : Labels) : Type 0 where
  pub places_long : length ls.places ≡ most_nodes
  pub few : count ls ≤ most_nodes
  pub tally : used ls.places ≡ count ls
  pub nodes : (k : ℕ) → k < count ls → (1 ≤ node_at ls k) × (node_at ls k ≤ N)
  pub placed : (k : ℕ) → k < count ls → place_of ls (node_at ls k) ≡ k + 1
  pub holds : (n : ℕ) → 1 ≤ n → Labelled ls n → (place_of ls n ≤ count ls) × (node_at ls (place_of ls n - 1) ≡ n)

pub record Good {C : Type 0} (K : Kind C) (arcs : List (Arc C)) (flow : List ℤ) (prices : List C) (chosen : ℕ) (ls : Labels) : Type 0 where
  pub whole : Whole (length prices) ls
  pub some : 1 ≤ count ls
  pub linked : (k : ℕ) → 1 ≤ k → k < count ls → Linked K arcs flow prices chosen ls k

-- what is labelled stays labelled, at its place
pub record Grown (ls ms : Labels) : Type 0 where
  pub more : count ls ≤ count ms
  pub same : (k : ℕ) → k < count ls → entry_at ms k ≡ entry_at ls k
  pub kept : (n : ℕ) → Labelled ls n → place_of ms n ≡ place_of ls n

-- the way over the arc from the node n to one that is not labelled
abbrev pub outward_at : {C : Type 0} → Arc C → ℕ → Labels → Option Bool
outward_at a n ls = cond (a.from == n) (cond (place_of ls a.to == 0) (Some true) None) (cond (a.to == n) (cond (place_of ls a.from == 0) (Some false) None) None)

-- one node more is labelled
abbrev pub pushed : Labels → Entry → Labels
pushed ls e = record { places = slice_set ls.places (e.node - 1) (count ls + 1); entries = record { items = ls.entries.items ++ e ∷ [] } }

-- the node that the step leads to, labelled from the one at place k
abbrev pub linked_by : {C : Type 0} → Arc C → Step → ℕ → Entry
linked_by a s k = record { node = far a s.along; parent = k; step = s }

-- only the source is labelled
pub record Begun (source : ℕ) (ls : Labels) : Type 0 where
  pub whole : (N : ℕ) → source ≤ N → N ≤ most_nodes → Whole N ls
  pub one : count ls ≡ 1
  pub starts : node_at ls 0 ≡ source

-- arc i, where it may move from the node at place k, leads to a labelled node
abbrev pub Followed : {C : Type 0} → Kind C → List (Arc C) → List ℤ → List C → Labels → ℕ → ℕ → Type 0
Followed {C} K arcs flow prices ls k i = (a : Arc C) (along : Bool) → IsAt arcs i a → near a along ≡ node_at ls k → may K prices a along (slice_index_or flow i (pos 0)) ≡ true → Labelled ls (far a along)

-- so does every arc but the chosen one
abbrev pub AllFollowed : {C : Type 0} → Kind C → List (Arc C) → List ℤ → List C → ℕ → Labels → ℕ → Type 0
AllFollowed K arcs flow prices chosen ls k = (i : ℕ) → (i ≡ chosen → ⊥) → Followed K arcs flow prices ls k i
