-- The node that is labelled next, and by how much the prices of the nodes that are not yet labelled change.
use Rattle.std.specs.Prelude.{◌≡◌, ℕ, suc, ◌+◌, ◌-◌, ◌*◌, ◌<◌, ◌≤◌, Bool, false, cond, not, List, [], ◌∷◌, length, get_or, Some, None, Option, slice_index_or}
use Rattle.std.specs.List.{AllByRecursion, position}
use Rattle.std.specs.Option.{unwrap_or}
use Rattle.networks.specs.Limits.{most_nodes, cost_limit}
use Rattle.networks.specs.declared.network.Arc.{Arc}
use Rattle.costs.specs.Kinds.{Kind}
use Rattle.tidy.specs.declared.picks.Pick.{Pick}
use Rattle.flows.specs.Kilter.{reduced, largest}
use Rattle.flows.specs.Flows.{Ends}
use Rattle.flows.specs.searching.Prices.{SignsKept, Raised, nearer, SmallInside}
use Rattle.flows.specs.searching.Fits.{Fitting, Bounded, found_limit, change_limit}

-- the node is labelled: of marks with node 1's first
abbrev pub labelled_at : List Bool → ℕ → Bool
labelled_at marks n = slice_index_or marks (n - 1) false

-- prices that may be tidied: of a network that fits, as a search for one chain leaves them
pub record Untidy {C : Type 0} (K : Kind C) (arcs : List (Arc C)) (ps : List C) : Type 0 where
  pub few : length ps ≤ most_nodes
  pub fitting : Fitting K (length ps) arcs
  pub moderate : Bounded K found_limit ps

-- tidied: no sign turns, and every price has a size of at most (N − 1) times the largest cost size
pub record Tidied {C : Type 0} (K : Kind C) (arcs : List (Arc C)) (ps qs : List C) : Type 0 where
  pub signs : SignsKept K arcs ps qs
  pub small : Bounded K ((length ps - 1) * largest K arcs) qs
  pub long : length qs ≡ length ps

-- ends are nodes, and no cost is too large
pub record Sound {C : Type 0} (K : Kind C) (arcs : List (Arc C)) (n : ℕ) : Type 0 where
  pub ends : AllByRecursion (Ends n) arcs
  pub costs : largest K arcs ≤ cost_limit

abbrev pub picked : {C : Type 0} → ℕ → C → Pick C
picked place far = record { place = place; far = far }

-- by how much the nodes that are not labelled have to rise for the arc's reduced cost to be none; only for an arc between labelled and not labelled
abbrev pub slack_of : {C : Type 0} → Kind C → List C → List Bool → Arc C → Option (Pick C)
slack_of K ps ms a = cond (labelled_at ms a.from) (cond (labelled_at ms a.to) None (Some (picked (a.to - 1) (reduced K ps a)))) (cond (labelled_at ms a.to) (Some (picked (a.from - 1) (K.neg (reduced K ps a)))) None)

-- the nearer of the best so far and one more
abbrev pub chosen : {C : Type 0} → Kind C → Option (Pick C) → Option (Pick C) → Option (Pick C)
chosen K best None = best
chosen K None (Some p) = Some p
chosen K (Some b) (Some p) = cond (nearer K b.far p.far) (Some b) (Some p)

abbrev pub nearest_of : {C : Type 0} → Kind C → List C → List Bool → Option (Pick C) → List (Arc C) → Option (Pick C)
nearest_of K ps ms best [] = best
nearest_of K ps ms best (a ∷ rest) = nearest_of K ps ms (chosen K best (slack_of K ps ms a)) rest

-- the first node that is not labelled, and the change that takes its price away
abbrev pub first_free_of : {C : Type 0} → Kind C → List C → List Bool → Pick C
first_free_of K ps ms =
    let i = unwrap_or (position not ms) 0 in
    picked i (K.neg (slice_index_or ps i K.zero))

-- how many are not labelled
abbrev pub unmarked : List Bool → ℕ
unmarked [] = 0
unmarked (m ∷ ms) = cond m (unmarked ms) (suc (unmarked ms))

-- a node that is not labelled, and the change that keeps the signs and gives that node a price which is small where the labelled ones are
pub record GoodPick {C : Type 0} (K : Kind C) (arcs : List (Arc C)) (ms : List Bool) (ps : List C) (p : Pick C) : Type 0 where
  pub inside : p.place < length ps
  pub free : get_or ms p.place false ≡ false
  pub moderate : K.size p.far ≤ change_limit
  pub keeps : (qs : List C) → Raised K (length ps) p.far (labelled_at ms) ps qs → SignsKept K arcs ps qs
  pub lands : (b : ℕ) → SmallInside K (length ps) (labelled_at ms) ps b → K.size (K.plus (slice_index_or ps p.place K.zero) p.far) ≤ b + largest K arcs
  pub lands_first : unmarked ms ≡ length ms → K.size (K.plus (slice_index_or ps p.place K.zero) p.far) ≡ 0
