-- Networks that stand on no other: they are kept in rows, and have no lock-out.
use Rattle.std.specs.Prelude.{ℕ, ◌-◌, cond, ◌||◌, List, [], Some, None, Option, ◌==◌, nat_lt}
use Rattle.std.specs.Option.{unwrap_or}
use Rattle.networks.specs.declared.network.Arc.{Arc}
use Rattle.networks.specs.Nets.{Net, mapped_from}
use Rattle.makes.specs.declared.kept.Kept.{Kept}

-- so many nodes and these arcs
abbrev pub base_net : {C : Type 0} → ℕ → List (Arc C) → Net C
base_net nodes arcs = record { nodes = nodes; arcs = arcs; locks = [] }

-- no node and no arc
abbrev pub unfit_net : {C : Type 0} → Net C
unfit_net = base_net 0 []

-- each row turned into an arc by its number, the first of number k
abbrev pub arcs_from : {R C : Type 0} → (ℕ → R → Arc C) → ℕ → List R → List (Arc C)
arcs_from f k rows = mapped_from f k rows

-- the place, counted from 0, of the a-th of so many
abbrev pub place_of : ℕ → ℕ → Option ℕ
place_of count a = cond (a == 0 || nat_lt count a) None (Some (a - 1))

-- the rows that are shown: none where there is no count of nodes
abbrev pub shown_of : {R : Type 0} → Option ℕ → List R → List R
shown_of None rows = []
shown_of (Some n) rows = rows

abbrev pub shown_rows : {S R : Type 0} → Kept S R → List R
shown_rows k = shown_of k.nodes k.rows.now

-- the network that is kept in rows, where f says which arc a row is, by the shape and its number
abbrev pub kept_net : {S R C : Type 0} → (S → ℕ → R → Arc C) → Kept S R → Net C
kept_net f k = base_net (unwrap_or k.nodes 0) (arcs_from (f k.shape) 1 (shown_rows k))
