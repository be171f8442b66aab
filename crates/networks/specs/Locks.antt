-- The network that a lock-out over another stands for.
use Rattle.std.specs.Prelude.{ℕ, cond, List, [], ◌∷◌, length, Some, None, Option}
use Rattle.networks.specs.declared.lockout.Lockout.{Lockout}
use Rattle.networks.specs.Limits.{counts_fit}
use Rattle.networks.specs.Answers.{Told, unless}
use Rattle.networks.specs.Nets.{Lock, Net}

-- nothing at all
abbrev pub no_net : {C : Type 0} → Net C
no_net = record { nodes = 0; arcs = []; locks = [] }

-- a lock-out over these arcs, with these lines
abbrev pub lock_over : {X : Type 0} → List X → List ℕ → Lock
lock_over arcs lines = record { over = length arcs; lines = lines }

-- nodes and arcs as below, with one lock-out more on top
abbrev pub topped : {C : Type 0} → Net C → List ℕ → Net C
topped n lines = record { nodes = n.nodes; arcs = n.arcs; locks = lock_over n.arcs lines ∷ n.locks }

-- why no lock-out can stand over a network: 1 where its counts do not fit
abbrev pub locked_stop : {C : Type 0} → Net C → Option Told
locked_stop n = cond (counts_fit n.nodes (length n.arcs)) None (Some (1, 0))

-- unfit, it shows nothing
abbrev pub locked_net : {C : Type 0} → Net C → List ℕ → Net C
locked_net n lines = unless (locked_stop n) no_net (topped n lines)

-- what a lock-out shows, by what the network below means
abbrev pub lockout_net : {N C : Type 0} → (N → Net C) → Lockout N → Net C
lockout_net meaning s = cond s.fit (topped (meaning s.below) s.lines) no_net
