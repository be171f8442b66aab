-- The network that an hour chain stands for: H hours in a ring, each with its sun, mains, generator, lamp and
-- battery. Node h is hour h, and node H + 1 is what lies outside the hours.
use Rattle.std.specs.Prelude.{ℕ, ◌+◌, ◌-◌, ◌*◌, ◌/◌, ◌%◌, false, cond, ◌||◌, List, length, Some, None, Option, ◌==◌, nat_lt}
use Rattle.networks.specs.declared.network.Arc.{Arc}
use Rattle.networks.specs.Answers.{Told, unless}
use Rattle.networks.specs.Nets.{Net}
use Rattle.hours.specs.declared.chain.Source.{Source}
use Rattle.hours.specs.declared.chain.Source.TheVariants.{Sun, Mains, Generator, Lamp, Battery}
use Rattle.hours.specs.declared.chain.HourRow.{HourRow}
use Rattle.makes.specs.declared.kept.Kept.{Kept}
use Rattle.makes.specs.Bases.{base_net, unfit_net, arcs_from, kept_net}

abbrev pub most_hours : ℕ
most_hours = 48

-- why no chain is made: 1 for the hours, then 2 for the rows, of which each hour has five
abbrev pub chain_stop : ℕ → ℕ → Option Told
chain_stop hours rows = cond (hours == 0 || nat_lt most_hours hours) (Some (1, 0)) (cond (rows == 5 * hours) None (Some (2, 0)))

-- the hour of arc a
abbrev pub hour_of : ℕ → ℕ
hour_of a = 1 + (a - 1) / 5

-- the source of arc a: within an hour they come in this order
abbrev pub source_number : ℕ → Source
source_number s = cond (s == 0) Sun (cond (s == 1) Mains (cond (s == 2) Generator (cond (s == 3) Lamp Battery)))

abbrev pub source_of : ℕ → Source
source_of a = source_number ((a - 1) % 5)

-- where an arc of hour h runs from and to: the last hour's battery leads to hour 1
abbrev pub ends : ℕ → ℕ → Source → ℕ × ℕ
ends H h Sun = (H + 1, h)
ends H h Mains = (H + 1, h)
ends H h Generator = (H + 1, h)
ends H h Lamp = (h, H + 1)
ends H h Battery = (h, cond (h == H) 1 (h + 1))

-- arc a of H hours, with the bounds and the cost of its row; no arc is held or fixed
abbrev pub hour_arc : {C : Type 0} → ℕ → ℕ → HourRow C → Arc C
hour_arc H a r = record { from = (ends H (hour_of a) (source_of a)).0; to = (ends H (hour_of a) (source_of a)).1; lo = r.lo; hi = r.hi; cost = r.cost; held = false; fixed = false }

-- the network of these rows; unfit, it shows no node and no arc
abbrev pub hours_net : {C : Type 0} → ℕ → List (HourRow C) → Net C
hours_net H rows = unless (chain_stop H (length rows)) unfit_net (base_net (H + 1) (arcs_from (hour_arc H) 1 rows))

-- what a chain shows: of its nodes, all but one are hours
abbrev pub chain_net : {C : Type 0} → Kept ℕ (HourRow C) → Net C
chain_net c = kept_net (λ n. hour_arc (n - 1)) c
