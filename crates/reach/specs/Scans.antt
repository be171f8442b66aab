-- The arcs between the labelled nodes and the others, and the least slack on them.
use Rattle.std.specs.Prelude.{◌≡◌, ℕ, ◌-◌, ◌<◌, Bool, true, false, cond, List, ℤ, pos, Some, None, Option, int_lt, nat_lt, slice_index_or}
use Rattle.std.specs.declared.ops.ControlFlow.{ControlFlow}
use Rattle.std.specs.declared.ops.ControlFlow.TheVariants.{Continue, Break}
use Rattle.costs.specs.Kinds.{Kind}
use Rattle.flows.specs.Laps.{near}
use Rattle.flows.specs.Kilter.{reduced}
use Rattle.flows.specs.declared.steps.Step.{Step}
use Rattle.networks.specs.Nets.{IsAt}
use Rattle.networks.specs.declared.network.Arc.{Arc}
use Rattle.labels.specs.declared.labelling.Entry.{Entry}
use Rattle.labels.specs.declared.labelling.Labels.{Labels}
use Rattle.labels.specs.Moves.{may, may_at}
use Rattle.labels.specs.Good.{place_of, linked_by}
use Rattle.reach.specs.declared.scans.Best.{Best}

abbrev pub is_labelled : Labels → ℕ → Bool
is_labelled ls n = nat_lt 0 (place_of ls n)

-- the way in which an arc leads from the labelled nodes to the others
abbrev pub crossing_at : {C : Type 0} → Labels → Arc C → Option Bool
crossing_at ls a = cond (is_labelled ls a.from) (cond (is_labelled ls a.to) None (Some true)) (cond (is_labelled ls a.to) (Some false) None)

-- by how much prices may rise before the arc may move
abbrev pub slack_at : {C : Type 0} → Kind C → C → Arc C → Bool → ℤ → Option C
slack_at K c a along f = cond along (cond (K.le c K.zero) None (cond (int_lt f a.hi) (Some c) None)) (cond (K.le K.zero c) None (cond (int_lt a.lo f) (Some (K.neg c)) None))

abbrev pub nearer_of : {C : Type 0} → Kind C → Option (Best C) → Best C → Best C
nearer_of K None b = b
nearer_of K (Some d) b = cond (K.le d.slack b.slack) d b

-- the best with a slack over an arc, or with none
abbrev pub best_of : {C : Type 0} → Kind C → Option C → Step → Option (Best C) → Option (Best C)
best_of K None x best = best
best_of K (Some s) x best = Some (nearer_of K best (record { slack = s; over = x }))

-- what an arc that leads across so, with reduced cost c, makes of the best so far
abbrev pub sight_of : {C : Type 0} → Kind C → C → Arc C → Step → ℤ → Option (Best C) → ControlFlow Step (Option (Best C))
sight_of K c a x f best = cond (may_at K c a x.along f) (Break x) (Continue (best_of K (slack_at K c a x.along f) x best))

abbrev pub AtMost : {C : Type 0} → Kind C → Option (Best C) → C → Type 0
AtMost K None s = ⊥
AtMost K (Some b) s = K.le b.slack s ≡ true

-- arc i, which is not the chosen one, leads that way from the labelled nodes
pub record Across {C : Type 0} (arcs : List (Arc C)) (chosen : ℕ) (ls : Labels) (i : ℕ) (a : Arc C) (along : Bool) : Type 0 where
  pub other : i ≡ chosen → ⊥
  pub is : IsAt arcs i a
  pub leads : crossing_at ls a ≡ Some along

abbrev pub BestIs : {C : Type 0} → Kind C → List (Arc C) → List ℤ → List C → ℕ → Labels → Option (Best C) → Type 0
BestIs K arcs flow prices chosen ls None = Unit {0}
BestIs {C} K arcs flow prices chosen ls (Some b) = (a : Arc C) × Across arcs chosen ls b.over.arc a b.over.along × (b.over.node ≡ near a b.over.along) × (slack_at K (reduced K prices a) a b.over.along (slice_index_or flow b.over.arc (pos 0)) ≡ Some b.slack)

-- what is known of the arcs before the n-th
pub record Sighted {C : Type 0} (K : Kind C) (arcs : List (Arc C)) (flow : List ℤ) (prices : List C) (chosen : ℕ) (ls : Labels) (n : ℕ) (best : Option (Best C)) : Type 0 where
  pub shut : (i : ℕ) → i < n → (a : Arc C) (along : Bool) → Across arcs chosen ls i a along → may K prices a along (slice_index_or flow i (pos 0)) ≡ false
  pub least : (i : ℕ) → i < n → (a : Arc C) (along : Bool) → Across arcs chosen ls i a along → (s : C) → slack_at K (reduced K prices a) a along (slice_index_or flow i (pos 0)) ≡ Some s → AtMost K best s
  pub found : BestIs K arcs flow prices chosen ls best

-- the arc leads that way from the labelled nodes, and may move
abbrev pub Ripe : {C : Type 0} → Kind C → List (Arc C) → List ℤ → List C → ℕ → Labels → Step → Type 0
Ripe {C} K arcs flow prices chosen ls x = (a : Arc C) × Across arcs chosen ls x.arc a x.along × (x.node ≡ near a x.along) × (may K prices a x.along (slice_index_or flow x.arc (pos 0)) ≡ true)

abbrev pub Scanned : {C : Type 0} → Kind C → List (Arc C) → List ℤ → List C → ℕ → Labels → ℕ → ControlFlow Step (Option (Best C)) → Type 0
Scanned K arcs flow prices chosen ls n (Break x) = Ripe K arcs flow prices chosen ls x
Scanned K arcs flow prices chosen ls n (Continue best) = Sighted K arcs flow prices chosen ls n best

-- the label of the far end of an arc that leads across so
abbrev pub link_over : {C : Type 0} → Labels → Arc C → Step → Entry
link_over ls a x = linked_by a x (place_of ls x.node - 1)
