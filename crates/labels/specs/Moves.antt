-- Which way an arc may move, and how far.
use Rattle.std.specs.Prelude.{Bool, true, false, cond, List, ℤ, ◌-ℤ◌, int_lt}
use Rattle.costs.specs.Kinds.{Kind}
use Rattle.networks.specs.declared.network.Arc.{Arc}
use Rattle.flows.specs.Kilter.{reduced}

-- how far an arc of reduced cost c is moved at most: along to hi where c ≤ 0, else to lo; against to lo where c ≥ 0, else to hi
abbrev pub limit_at : {C : Type 0} → Kind C → C → Arc C → Bool → ℤ
limit_at K c a along = cond along (cond (K.le c K.zero) a.hi a.lo) (cond (K.le K.zero c) a.lo a.hi)

-- an arc that carries f may be moved that way: it is short of its limit
abbrev pub may_at : {C : Type 0} → Kind C → C → Arc C → Bool → ℤ → Bool
may_at K c a along f = cond along (int_lt f (limit_at K c a true)) (int_lt (limit_at K c a false) f)

abbrev pub may : {C : Type 0} → Kind C → List C → Arc C → Bool → ℤ → Bool
may K prices a along f = may_at K (reduced K prices a) a along f

-- by how much
abbrev pub room_at : {C : Type 0} → Kind C → List C → Arc C → Bool → ℤ → ℤ
room_at K prices a along f = cond along (limit_at K (reduced K prices a) a true -ℤ f) (f -ℤ limit_at K (reduced K prices a) a false)
