-- The network that an arc table stands for.
use Rattle.std.specs.Prelude.{ℕ, false, cond, List, map, length, Some, None, Option, ◌==◌}
use Rattle.networks.specs.declared.network.Arc.{Arc}
use Rattle.networks.specs.Limits.{counts_fit}
use Rattle.networks.specs.Answers.{Told, unless}
use Rattle.networks.specs.Nets.{Net}
use Rattle.makes.specs.declared.table.Counts.{Counts}
use Rattle.makes.specs.declared.table.Row.{Row}
use Rattle.makes.specs.declared.kept.Kept.{Kept}
use Rattle.makes.specs.Bases.{base_net, unfit_net, kept_net}

-- why no table is made: 1 for the counts, then 2 for the rows
abbrev pub table_stop : ℕ → ℕ → ℕ → Option Told
table_stop nodes arcs rows = cond (counts_fit nodes arcs) (cond (rows == arcs) None (Some (2, 0))) (Some (1, 0))

-- no arc is held or fixed
abbrev pub row_arc : {C : Type 0} → Row C → Arc C
row_arc r = record { from = r.from; to = r.to; lo = r.lo; hi = r.hi; cost = r.cost; held = false; fixed = false }

-- the network of these rows; unfit, it shows no node and no arc
abbrev pub rows_net : {C : Type 0} → ℕ → ℕ → List (Row C) → Net C
rows_net nodes arcs rows = unless (table_stop nodes arcs (length rows)) unfit_net (base_net nodes (map row_arc rows))

-- what a table shows: each of its rows is an arc as it stands
abbrev pub table_net : {C : Type 0} → Kept Counts (Row C) → Net C
table_net t = kept_net (λ s a r. row_arc r) t
