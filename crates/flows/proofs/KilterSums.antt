-- The kilter numbers of all arcs, added up: their limit, and when they come to zero.
use Rattle.std.proofs.Common.{◌≡◌, ◌*◌, ◌≤◌, List, [], ◌∷◌, length, ℤ, ◌≤ℤ◌, refl, arith}
use Rattle.std.specs.List.{AllByRecursion}
use Rattle.costs.specs.Kinds.{Kind, Laws}
use Rattle.networks.specs.Limits.{flow_limit}
use Rattle.networks.specs.declared.network.Arc.{Arc}
use Rattle.flows.specs.Flows.{EachArc}
use Rattle.flows.specs.Kilter.{reduced, InKilter, kilter_number, kilter_sum, lap_limit, KilterSumIsLimited, KilterSumTells}
use Rattle.flows.proofs.Numbers.{number_limited, number_zero, zero_number}

module _ {C : Type 0} (K : Kind C) where
  pub sum_limited : KilterSumIsLimited K
  sum_limited [] fs ps h = omega arith
  sum_limited (a ∷ rest) [] ps h = absurd h
  sum_limited (a ∷ rest) (f ∷ fs) ps (h, hs) =
      let one : kilter_number K (reduced K ps a) a f ≤ 2 * flow_limit = number_limited (K.le K.zero (reduced K ps a)) (K.le (reduced K ps a) K.zero) a.lo a.hi f h.0 h.1 h.2 in
      let more : kilter_sum K ps rest fs ≤ lap_limit (length rest) = sum_limited rest fs ps hs in
      omega arith

  module _ (laws : Laws K) where
    pub zero_sum : (ps : List C) (arcs : List (Arc C)) (fs : List ℤ) → AllByRecursion (λ a. a.lo ≤ℤ a.hi) arcs → length fs ≡ length arcs → kilter_sum K ps arcs fs ≡ 0 → EachArc (InKilter K ps) arcs fs
    zero_sum ps [] [] h l e = tt
    zero_sum ps [] (f ∷ fs) h l e = absurd (omega arith)
    zero_sum ps (a ∷ rest) [] h l e = absurd (omega arith)
    zero_sum ps (a ∷ rest) (f ∷ fs) (h, hs) l e =
        let n : kilter_number K (reduced K ps a) a f ≡ 0 = omega arith in
        (number_zero (K.le K.zero (reduced K ps a)) (K.le (reduced K ps a) K.zero) a.lo a.hi f (laws.total K.zero (reduced K ps a)) h n, zero_sum ps rest fs hs (omega arith) (omega arith))

    pub sum_zero : (ps : List C) (arcs : List (Arc C)) (fs : List ℤ) → EachArc (InKilter K ps) arcs fs → kilter_sum K ps arcs fs ≡ 0
    sum_zero ps [] fs h = refl
    sum_zero ps (a ∷ rest) [] h = refl
    sum_zero ps (a ∷ rest) (f ∷ fs) (h, hs) =
        let n : kilter_number K (reduced K ps a) a f ≡ 0 = zero_number (K.le K.zero (reduced K ps a)) (K.le (reduced K ps a) K.zero) a.lo a.hi f h in
        let more = sum_zero ps rest fs hs in
        omega arith

    pub sum_tells : KilterSumTells K
    sum_tells arcs fs ps fits l = (zero_sum ps arcs fs fits l, sum_zero ps arcs fs)
