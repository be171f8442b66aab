-- Why a network is not written.
use Rattle.std.specs.Prelude.{ℕ, List, length, ℤ, pos, replicate, None, Option, nat_le}
use Rattle.networks.specs.Limits.{counts_fit}
use Rattle.networks.specs.Answers.{Told}
use Rattle.networks.specs.Nets.{Net, shown}
use Rattle.flows.specs.Stops.{stop_unless, or_else, arcs_stop}
use Rattle.files.specs.Kinds.{Tiers}
use Rattle.files.specs.Texts.{net_text}

-- zero flow
abbrev pub no_flow : ℕ → List ℤ
no_flow arcs = replicate arcs (pos 0)

-- but for want of room: 1 for the counts, then arc by arc 3, 4, 7
abbrev pub unfit_stop : {C : Type 0} → (C → ℕ) → Net C → Option Told
unfit_stop size n = stop_unless (counts_fit n.nodes (length n.arcs)) 1 0 (arcs_stop size n.nodes 1 (shown n) (no_flow (length n.arcs)))

-- then 2 where the text is longer than the room
abbrev pub write_stop : {C : Type 0} → (C → ℕ) → Tiers C → Net C → ℕ → Option Told
write_stop size t n room = or_else (unfit_stop size n) (stop_unless (nat_le (length (net_text t n)) room) 2 0 None)
