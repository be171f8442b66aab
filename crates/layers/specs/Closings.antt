-- The network that a closing over another stands for.
use Rattle.std.specs.Prelude.{◌≡◌, ℕ, ◌+◌, ◌<◌, ◌≤◌, min, Bool, true, false, cond, ◌||◌, List, [], ◌∷◌, ◌++◌, map, length, Some, None, Option, ◌==◌, nat_le, nat_lt}
use Rattle.networks.specs.declared.network.Arc.{Arc}
use Rattle.networks.specs.declared.bounds.Bounds.{Bounds}
use Rattle.networks.specs.Limits.{most_nodes, most_arcs}
use Rattle.networks.specs.Answers.{Told, unless}
use Rattle.networks.specs.Nets.{Lock, Net}
use Rattle.networks.specs.Locks.{no_net}
use Rattle.layers.specs.declared.entry.Side.{Side}
use Rattle.layers.specs.declared.entry.Side.TheVariants.{Supply, Demand}
use Rattle.layers.specs.declared.entry.Entry.{Entry}
use Rattle.layers.specs.declared.closing.Closing.{Closing}
use Rattle.layers.specs.declared.closing.Part.{Part}
use Rattle.layers.specs.declared.closing.Part.TheVariants.{Lower, Own, Back}

abbrev pub most_entries : ℕ
most_entries = 32

-- over N nodes the sink is N + 1 and the source N + 2: a supply comes from the source, a demand goes to the sink
abbrev pub ends : ℕ → Side → ℕ → ℕ × ℕ
ends nodes Supply node = (nodes + 2, node)
ends nodes Demand node = (node, nodes + 1)

-- an entry as an arc, at a fixed cost of zero
abbrev pub entry_arc : {C : Type 0} → ℕ → C → Entry → Arc C
entry_arc nodes zero e = record { from = (ends nodes e.side e.node).0; to = (ends nodes e.side e.node).1; lo = e.bounds.lo; hi = e.bounds.hi; cost = zero; held = false; fixed = true }

-- from the sink back to the source
abbrev pub return_arc : {C : Type 0} → ℕ → Bounds → C → Arc C
return_arc nodes b c = record { from = nodes + 1; to = nodes + 2; lo = b.lo; hi = b.hi; cost = c; held = false; fixed = false }

-- a lock-out stands over no more than n arcs
abbrev pub within : ℕ → Lock → Lock
within n o = record { over = min o.over n; lines = o.lines }

-- after the arcs below come the entries and then the return arc; a lock-out below stands over arcs below only
abbrev pub closed_net : {C : Type 0} → Net C → C → List Entry → Bounds → C → Net C
closed_net n zero es b c = record { nodes = n.nodes + 2; arcs = n.arcs ++ (map (entry_arc n.nodes zero) es ++ return_arc n.nodes b c ∷ []); locks = map (within (length n.arcs)) n.locks }

-- why no closing can stand over a network: 1 where it has no node, or with two nodes and an arc more is too large
abbrev pub closing_stop : {C : Type 0} → Net C → Option Told
closing_stop n = cond (n.nodes == 0 || (nat_lt most_nodes (n.nodes + 2) || nat_lt most_arcs (length n.arcs + 1))) (Some (1, 0)) None

-- unfit, it shows nothing
abbrev pub closing_net : {C : Type 0} → Net C → C → List Entry → Bounds → C → Net C
closing_net n zero es b c = unless (closing_stop n) no_net (closed_net n zero es b c)

-- why an entry is refused: 8 where there is no such node below, 11 where 32 are in, 1 where its arc is one too many
abbrev pub entry_stop : {C : Type 0} → Net C → List Entry → ℕ → Option Told
entry_stop n es node = cond (node == 0 || nat_lt n.nodes node) (Some (8, node)) (cond (nat_le most_entries (length es)) (Some (11, 0)) (cond (nat_lt most_arcs (length n.arcs + (length es + 2))) (Some (1, 0)) None))

-- the entries after one more was asked for
abbrev pub added : {C : Type 0} → Net C → List Entry → Entry → List Entry
added n es e = unless (entry_stop n es e.node) es (es ++ e ∷ [])

-- what a closing keeps: the network below, the entries, and the bounds and cost of the return arc
pub record Keeps {N C : Type 0} (s : Closing N C) (below : N) (es : List Entry) (b : Bounds) (c : C) : Type 0 where
  pub lower : s.below ≡ below
  pub listed : s.entries.items ≡ es
  pub bounds : s.bounds ≡ b
  pub cost : s.cost ≡ c

-- a closing can stand over a network
abbrev pub is_fit : {C : Type 0} → Net C → Bool
is_fit n = unless (closing_stop n) false true

-- arc a is one of those below
abbrev pub is_lower : {C : Type 0} → Net C → ℕ → Bool
is_lower n a = unless (closing_stop n) false (nat_le a (length n.arcs))

-- where arc a lies, if there is one
abbrev pub Lies : {C : Type 0} → Net C → List Entry → ℕ → Option Part → Type 0
Lies n es a (Some Lower) = (closing_stop n ≡ None) × (a ≤ length n.arcs)
Lies n es a (Some (Own i)) = (closing_stop n ≡ None) × ((i < length es) × (a ≡ length n.arcs + (i + 1)))
Lies n es a (Some Back) = (closing_stop n ≡ None) × (a ≡ length n.arcs + (length es + 1))
Lies n es a None = closing_stop n ≡ None → length n.arcs + (length es + 1) < a
