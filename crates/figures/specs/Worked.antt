-- The worked figures, each built by the rule of its network: a table, an hour chain, a closing, a lock-out.
use Rattle.std.specs.Prelude.{ℕ, List, [], ◌∷◌, ℤ, pos, negsuc, ◌≤ℤ◌, replicate}
use Rattle.costs.specs.declared.Plain.{Plain}
use Rattle.costs.specs.declared.TwoTier.{TwoTier}
use Rattle.costs.specs.Models.{units, tiers}
use Rattle.networks.specs.declared.bounds.Bounds.{Bounds}
use Rattle.networks.specs.Nets.{Net}
use Rattle.networks.specs.Locks.{locked_net}
use Rattle.makes.specs.declared.table.Row.{Row}
use Rattle.makes.specs.Tables.{rows_net}
use Rattle.hours.specs.declared.chain.HourRow.{HourRow}
use Rattle.hours.specs.Hours.{hours_net}
use Rattle.layers.specs.declared.entry.Entry.{Entry}
use Rattle.layers.specs.declared.entry.Side.TheVariants.{Supply, Demand}
use Rattle.layers.specs.Closings.{closing_net}
use Rattle.flows.specs.Kilter.{lap_limit}
use Rattle.runs.specs.Events.{Asked, settle, rebound, take_out, hand_back}
use Rattle.figures.specs.Figures.{Due, least_by, least_at_once, none_by, is_done, Figure, Case, in_units, in_tiers}

-- a settle with the full budget of so many arcs
abbrev pub settle_all : {C : Type 0} → ℕ → Asked C
settle_all arcs = settle (lap_limit arcs)

abbrev pub row : {C : Type 0} → ℕ → ℕ → ℤ → ℤ → C → Row C
row from to lo hi cost = record { from = from; to = to; lo = lo; hi = hi; cost = cost }

-- from 1 to 2 to 3 and from 1 to 3, and just 6 back from 3 to 1
abbrev pub triangle : Net Plain
triangle = rows_net 3 4 (row 1 2 (pos 0) (pos 5) (units (pos 2)) ∷ row 2 3 (pos 0) (pos 5) (units (pos 1)) ∷ row 1 3 (pos 0) (pos 4) (units (pos 4)) ∷ row 3 1 (pos 6) (pos 6) (units (pos 0)) ∷ [])

abbrev pub no_flow : ℕ → List ℤ
no_flow arcs = replicate arcs (pos 0)

-- prices 0, 2, 4 at the nodes of the triangle
abbrev pub triangle_prices : List Plain
triangle_prices = units (pos 0) ∷ units (pos 2) ∷ units (pos 4) ∷ []

abbrev pub triangle_flow : List ℤ
triangle_flow = pos 5 ∷ pos 5 ∷ pos 1 ∷ pos 6 ∷ []

-- 6 go round; then 9 have to; then 10, which node 1 alone shows to be too many
abbrev pub triangle_figure : Figure Plain
triangle_figure = record {
  net = triangle;
  flow = no_flow 4;
  calls =
      (settle_all 4, least_by (units (pos 19)) triangle_flow triangle_prices) ∷
      (rebound 4 (pos 9) (pos 9), is_done) ∷
      (settle_all 4, least_by (units (pos 31)) (pos 5 ∷ pos 5 ∷ pos 4 ∷ pos 9 ∷ []) triangle_prices) ∷
      (rebound 4 (pos 10) (pos 10), is_done) ∷
      (settle_all 4, none_by (1 ∷ 0 ∷ 0 ∷ [])) ∷ [];
}

-- under a lock-out, with arc 3 taken out and handed back
abbrev pub lockout_figure : Figure Plain
lockout_figure = record {
  net = locked_net triangle (replicate 16 0);
  flow = no_flow 4;
  calls =
      (take_out 1 3, is_done) ∷
      (settle_all 4, none_by (1 ∷ 0 ∷ 0 ∷ [])) ∷
      (hand_back 1 3, is_done) ∷
      (settle_all 4, least_by (units (pos 19)) triangle_flow triangle_prices) ∷ [];
}

-- one node with a loop from −2 to 3, at a cost
abbrev pub loop : ℤ → Net Plain
loop cost = rows_net 1 1 (row 1 1 (negsuc 1) (pos 3) (units cost) ∷ [])

abbrev pub loop_figure : ℤ → Due Plain → Figure Plain
loop_figure cost due = record { net = loop cost; flow = no_flow 1; calls = (settle_all 1, due) ∷ [] }

-- two nodes with one arc, opened at a flow
abbrev pub line : Net Plain
line = rows_net 2 1 (row 1 2 (pos 0) (pos 5) (units (pos 1)) ∷ [])

abbrev pub line_figure : ℤ → Due Plain → Figure Plain
line_figure flow due = record { net = line; flow = flow ∷ []; calls = (settle_all 1, due) ∷ [] }

-- bounds from zero, which are in order and within the limits
abbrev pub up_to : (hi : ℤ) → pos 0 ≤ℤ hi → hi ≤ℤ pos 1000000 → Bounds
up_to hi ordered high = record { lo = pos 0; hi = hi; ordered = ordered; low = record { le = tt }; high = high }

abbrev pub to_nine : Bounds
to_nine = up_to (pos 9) (record { le = tt }) (record { le = tt })

abbrev pub to_four : Bounds
to_four = up_to (pos 4) (record { le = tt }) (record { le = tt })

abbrev pub to_limit : Bounds
to_limit = up_to (pos 1000000) (record { le = tt }) (record { le = tt })

-- one arc closed by a supply, a demand and a return that pays 10 a unit
abbrev pub closing_figure : Figure Plain
closing_figure = record {
  net = closing_net line (units (pos 0))
      (record { node = 1; bounds = to_nine; side = Supply } ∷ record { node = 2; bounds = to_four; side = Demand } ∷ [])
      to_limit (units (negsuc 9));
  flow = no_flow 4;
  calls = (settle_all 4, least_by (units (negsuc 35)) (pos 4 ∷ pos 4 ∷ pos 4 ∷ pos 4 ∷ []) (units (pos 0) ∷ units (pos 1) ∷ units (pos 10) ∷ units (pos 0) ∷ [])) ∷ [];
}

-- a row of an hour chain in units
abbrev pub hour_row : ℕ → ℕ → ℕ → HourRow Plain
hour_row lo hi cost = record { lo = pos lo; hi = pos hi; cost = units (pos cost) }

-- two hours: sun in the first alone, mains to 3 at 5; then mains to 2, and the lamp cannot burn
abbrev pub chain_figure : Figure Plain
chain_figure = record {
  net = hours_net 2 (
      hour_row 0 8 0 ∷ hour_row 0 3 5 ∷ hour_row 0 0 0 ∷ hour_row 2 2 0 ∷ hour_row 1 4 0 ∷
      hour_row 0 0 0 ∷ hour_row 0 3 5 ∷ hour_row 0 0 0 ∷ hour_row 6 6 0 ∷ hour_row 1 4 0 ∷ []);
  flow = no_flow 10;
  calls =
      (settle_all 10, least_by (units (pos 15)) (pos 5 ∷ pos 0 ∷ pos 0 ∷ pos 2 ∷ pos 4 ∷ pos 0 ∷ pos 3 ∷ pos 0 ∷ pos 6 ∷ pos 1 ∷ []) (units (pos 0) ∷ units (pos 5) ∷ units (pos 0) ∷ [])) ∷
      (rebound 2 (pos 0) (pos 2), is_done) ∷
      (rebound 7 (pos 0) (pos 2), is_done) ∷
      (settle_all 10, none_by (1 ∷ 0 ∷ 1 ∷ [])) ∷ [];
}

-- two arcs of two tiers: the second is dearer in the second tier, and cheaper in the first
abbrev pub tiers_figure : Figure TwoTier
tiers_figure = record {
  net = rows_net 2 3 (row 1 2 (pos 0) (pos 5) (tiers (pos 1) (pos 0)) ∷ row 1 2 (pos 0) (pos 5) (tiers (pos 0) (pos 9)) ∷ row 2 1 (pos 3) (pos 3) (tiers (pos 0) (pos 0)) ∷ []);
  flow = no_flow 3;
  calls = (settle_all 3, least_by (tiers (pos 0) (pos 27)) (pos 0 ∷ pos 3 ∷ pos 3 ∷ []) (tiers (pos 0) (pos 0) ∷ tiers (pos 0) (pos 9) ∷ [])) ∷ [];
}

abbrev pub worked : List Case
worked =
    in_units triangle_figure ∷
    in_units lockout_figure ∷
    in_units (loop_figure (negsuc 0) (least_by (units (negsuc 2)) (pos 3 ∷ []) (units (pos 0) ∷ []))) ∷
    in_units (loop_figure (pos 1) (least_by (units (negsuc 1)) (negsuc 1 ∷ []) (units (pos 0) ∷ []))) ∷
    in_units (line_figure (pos 3) (least_at_once (units (pos 3)) (pos 3 ∷ []) (units (pos 0) ∷ units (pos 1) ∷ []))) ∷
    in_units (line_figure (pos 6) (none_by (1 ∷ 0 ∷ []))) ∷
    in_units closing_figure ∷
    in_units chain_figure ∷
    in_tiers tiers_figure ∷ []
