-- Changes of prices.
use Rattle.std.specs.Prelude.{◌≡◌, ℕ, suc, ◌<◌, ◌≤◌, Bool, true, cond, ◌&&◌, ◌||◌, List, length, ℤ, ◌≤ℤ◌}
use Rattle.std.specs.List.{AllByRecursion}
use Rattle.costs.specs.Kinds.{Kind}
use Rattle.networks.specs.declared.network.Arc.{Arc}
use Rattle.flows.specs.Flows.{EachArc}
use Rattle.flows.specs.Kilter.{price, reduced, kilter_number}

-- the prices qs are ps with e more at each node of 1 to N that is not inside
abbrev pub Raised : {C : Type 0} → Kind C → ℕ → C → (ℕ → Bool) → List C → List C → Type 0
Raised K N e inside ps qs = (n : ℕ) → 1 ≤ n → n ≤ N → price K qs n ≡ cond (inside n) (price K ps n) (K.plus (price K ps n) e)

-- what a test may answer at each place below N is whether that place's node is inside; node 1's place is 0
abbrev pub Tells : (ℕ → Bool → Type 0) → ℕ → (ℕ → Bool) → Type 0
Tells may_answer N inside = (k : ℕ) → k < N → (b : Bool) → may_answer k b → b ≡ inside (suc k)

-- no price of a node inside has a size above b
abbrev pub SmallInside : {C : Type 0} → Kind C → ℕ → (ℕ → Bool) → List C → ℕ → Type 0
SmallInside K N inside ps b = (n : ℕ) → 1 ≤ n → n ≤ N → inside n ≡ true → K.size (price K ps n) ≤ b

-- the sign does not turn: what is at least zero stays so, and what is at most zero
pub record SignKept {C : Type 0} (K : Kind C) (c d : C) : Type 0 where
  pub up : K.le K.zero c ≡ true → K.le K.zero d ≡ true
  pub down : K.le c K.zero ≡ true → K.le d K.zero ≡ true

-- no reduced cost turns its sign from the prices ps to qs
abbrev pub SignsKept : {C : Type 0} → Kind C → List (Arc C) → List C → List C → Type 0
SignsKept K arcs ps qs = AllByRecursion (λ a. SignKept K (reduced K ps a) (reduced K qs a)) arcs

-- a rise by c comes before one by d: what is at least zero first, then by how far from zero
abbrev pub nearer : {C : Type 0} → Kind C → C → C → Bool
nearer K c d = cond (K.le K.zero d) (K.le K.zero c && K.le c d) (K.le K.zero c || K.le d c)

-- from the prices ps to qs no arc's kilter number rose
abbrev pub Eased : {C : Type 0} → Kind C → List (Arc C) → List ℤ → List C → List C → Type 0
Eased K arcs flow ps qs = EachArc (λ a f. kilter_number K (reduced K qs a) a f ≤ kilter_number K (reduced K ps a) a f) arcs flow

-- where no sign turns, no kilter number rises
abbrev pub KeptSignsEase : {C : Type 0} → Kind C → Type 0
KeptSignsEase {C} K = (arcs : List (Arc C)) (flow : List ℤ) (ps qs : List C) → AllByRecursion (λ a. a.lo ≤ℤ a.hi) arcs → length flow ≡ length arcs → SignsKept K arcs ps qs →
    Eased K arcs flow ps qs
