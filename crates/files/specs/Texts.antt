-- A network file as text: what its counts and its rows spell.
use Rattle.std.specs.Prelude.{ℕ, if◌then◌else◌, List, [], ◌++◌, map, length, decimal, codes, nat_lt}
use Rattle.std.specs.List.{flat_map}
use Rattle.std.specs.Fmt.{signed_decimal}
use Rattle.networks.specs.declared.network.Arc.{Arc}
use Rattle.networks.specs.Nets.{Net, shown}
use Rattle.makes.specs.declared.table.Row.{Row}
use Rattle.files.specs.Kinds.{Tiers}
use Rattle.files.specs.Tables.{Counts}

-- the first line
abbrev pub header_text : Counts → List ℕ
header_text h =
    codes "(net (nodes " ++ decimal h.nodes ++ codes ") (arcs " ++ decimal h.arcs
    ++ codes ") (tiers " ++ decimal h.tiers ++ codes "))\n"

-- a cost is its numbers, with a blank between two
abbrev pub second_text : {C : Type 0} → Tiers C → C → List ℕ
second_text t c = if nat_lt 1 t.count then codes " " ++ signed_decimal (t.second c) else []

abbrev pub cost_text : {C : Type 0} → Tiers C → C → List ℕ
cost_text t c = signed_decimal (t.first c) ++ second_text t c

-- the line of an arc
abbrev pub arc_text : {C : Type 0} → Tiers C → Row C → List ℕ
arc_text t r =
    codes "(arc (from " ++ decimal r.from ++ codes ") (to " ++ decimal r.to
    ++ codes ") (lo " ++ signed_decimal r.lo ++ codes ") (hi " ++ signed_decimal r.hi
    ++ codes ") (cost " ++ cost_text t r.cost ++ codes "))\n"

-- a whole file
abbrev pub table_text : {C : Type 0} → Tiers C → Counts → List (Row C) → List ℕ
table_text t h rows = header_text h ++ flat_map (arc_text t) rows

-- the counts and the rows of a network
abbrev pub net_counts : {C : Type 0} → Tiers C → Net C → Counts
net_counts t n = record { nodes = n.nodes; arcs = length n.arcs; tiers = t.count }

abbrev pub row_of : {C : Type 0} → Arc C → Row C
row_of x = record { from = x.from; to = x.to; lo = x.lo; hi = x.hi; cost = x.cost }

abbrev pub net_rows : {C : Type 0} → Net C → List (Row C)
net_rows n = map row_of (shown n)

-- a network as a file
abbrev pub net_text : {C : Type 0} → Tiers C → Net C → List ℕ
net_text t n = table_text t (net_counts t n) (net_rows n)
