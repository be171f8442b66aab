-- Which way an arc is out of kilter; and the arcs between marked nodes and the others where nothing more can cross.
use Rattle.std.specs.Prelude.{◌≡◌, ℕ, Bool, true, false, ◌⊎◌, List, ℤ, ◌≤ℤ◌, ◌<ℤ◌}
use Rattle.costs.specs.Kinds.{Kind}
use Rattle.networks.specs.declared.network.Arc.{Arc}
use Rattle.flows.specs.Kilter.{reduced}

-- the arc is out of kilter that way: below lo or of reduced cost below zero, where it has to gain; above hi or of reduced cost above zero, where it has to lose
abbrev pub Amiss : {C : Type 0} → Kind C → List C → Arc C → Bool → ℤ → Type 0
Amiss K ps a along f = (along ≡ true → (f <ℤ a.lo) ⊎ (K.le K.zero (reduced K ps a) ≡ false)) × (along ≡ false → (a.hi <ℤ f) ⊎ (K.le (reduced K ps a) K.zero ≡ false))

-- the arc carries no less than hi out of the nodes inside, no more than lo into them
abbrev pub Stuck : {C : Type 0} → (ℕ → Bool) → Arc C → ℤ → Type 0
Stuck inside a f = (inside a.from ≡ true → inside a.to ≡ false → a.hi ≤ℤ f) × (inside a.from ≡ false → inside a.to ≡ true → f ≤ℤ a.lo)

-- it carries more than hi out of them, or less than lo into them
abbrev pub Strained : {C : Type 0} → (ℕ → Bool) → Arc C → ℤ → Type 0
Strained inside a f = ((inside a.from ≡ true) × (inside a.to ≡ false) × (a.hi <ℤ f)) ⊎ ((inside a.from ≡ false) × (inside a.to ≡ true) × (f <ℤ a.lo))
