-- Cuts: nodes that need more than can leave them. A set of nodes is a test of their numbers.
use Rattle.std.specs.Prelude.{ℕ, suc, ◌-◌, ◌≤◌, Bool, cond, not, ◌&&◌, List, [], ◌∷◌, length, ℤ, pos, ◌+ℤ◌, ◌-ℤ◌, ◌<ℤ◌, ◌==◌, slice_index}
use Rattle.std.specs.List.{AllByRecursion}
use Rattle.networks.specs.declared.network.Arc.{Arc}
use Rattle.flows.specs.Flows.{EachArc, Within, Ends, Meets}

-- hi on the arcs leaving the nodes inside, added up
abbrev pub can_leave : {C : Type 0} → (ℕ → Bool) → List (Arc C) → ℤ
can_leave inside [] = pos 0
can_leave inside (a ∷ rest) = cond (inside a.from && not (inside a.to)) a.hi (pos 0) +ℤ can_leave inside rest

-- lo on the arcs entering them, added up
abbrev pub must_enter : {C : Type 0} → (ℕ → Bool) → List (Arc C) → ℤ
must_enter inside [] = pos 0
must_enter inside (a ∷ rest) = cond (inside a.to && not (inside a.from)) a.lo (pos 0) +ℤ must_enter inside rest

-- the needs of the nodes inside added up, the first need being that of node n
abbrev pub needed_from : ℕ → (ℕ → Bool) → List ℤ → ℤ
needed_from n inside [] = pos 0
needed_from n inside (x ∷ needs) = cond (inside n) x (pos 0) +ℤ needed_from (suc n) inside needs

-- the nodes inside are a cut: hi on arcs leaving, less lo on arcs entering, is below the needs inside
abbrev pub Cut : {C : Type 0} → List (Arc C) → List ℤ → (ℕ → Bool) → Type 0
Cut arcs needs inside = (can_leave inside arcs -ℤ must_enter inside arcs) <ℤ needed_from 1 inside needs

-- node n is marked: its mark is 1; marks have node 1's first
abbrev pub marked : List ℕ → ℕ → Bool
marked marks n = slice_index marks (n - 1) == 1

-- every mark is 0 or 1, and the marked nodes are a cut
pub record MarksCut {C : Type 0} (arcs : List (Arc C)) (needs : List ℤ) (marks : List ℕ) : Type 0 where
  pub bits : AllByRecursion (λ m. m ≤ 1) marks
  pub cut : Cut arcs needs (marked marks)

-- where there is a cut, no flow within the bounds has these needs
abbrev pub CutShowsNone : Type 0 → Type 0
CutShowsNone C = (arcs : List (Arc C)) (needs : List ℤ) (inside : ℕ → Bool) → AllByRecursion (Ends (length needs)) arcs → Cut arcs needs inside →
    (flow : List ℤ) → EachArc Within arcs flow → Meets arcs needs flow → ⊥
