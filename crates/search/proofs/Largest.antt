-- The largest size among a list's costs, as the list's greatest number.
use Rattle.std.proofs.Common.{◌≡◌, ℕ, List, [], ◌∷◌, max, map, fold, refl, arith}
use Rattle.std.specs.List.{reduce}
use Rattle.std.specs.Option.{unwrap_or}
use Rattle.costs.specs.Kinds.{Kind}
use Rattle.networks.specs.declared.network.Arc.{Arc}
use Rattle.flows.specs.Kilter.{largest}

folded : {C : Type 0} (K : Kind C) (arcs : List (Arc C)) (n : ℕ) → fold max n (map (λ a. K.size a.cost) arcs) ≡ max n (largest K arcs)
folded K [] n = omega arith
folded K (a ∷ rest) n = let more = folded K rest (max n (K.size a.cost)) in omega (arith, more)

pub reduced_is : {C : Type 0} (K : Kind C) (arcs : List (Arc C)) → unwrap_or (reduce max (map (λ a. K.size a.cost) arcs)) 0 ≡ largest K arcs
reduced_is K [] = refl
reduced_is K (a ∷ rest) = folded K rest (K.size a.cost)
