-- The line of an arc.
use Rattle.std.specs.Prelude.{ℕ, Ok, codes}
use Rattle.makes.specs.declared.table.Row.{Row}
use Rattle.files.specs.Kinds.{Tiers}
use Rattle.files.specs.Costs.{cost_in}
use Rattle.lines.specs.Readings.{Reading, Outcome, then}
use Rattle.lines.specs.Lines.{expects, starts, finishes, count_in, bounds_in}

-- the ends are from 1 to the count of nodes
abbrev pub ends_in : ℕ → Reading → Outcome (ℕ × ℕ)
ends_in nodes r = then (starts (codes "arc") r) (λ _ s. then (count_in (codes "from") 1 nodes s) (λ a u.
    then (expects (codes " ") u) (λ _ v. then (count_in (codes "to") 1 nodes v) (λ b w. Ok ((a, b), w)))))

-- the row of a whole line
abbrev pub arc_in : {C : Type 0} → Tiers C → ℕ → Reading → Outcome (Row C)
arc_in t nodes r = then (ends_in nodes r) (λ e s. then (expects (codes " ") s) (λ _ u. then (bounds_in u) (λ b v.
    then (expects (codes " ") v) (λ _ w. then (cost_in t w) (λ c x. then (finishes x) (λ _ y.
    Ok (record { from = e.0; to = e.1; lo = b.0; hi = b.1; cost = c }, y)))))))
