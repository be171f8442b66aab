-- An arc table's rows are arcs as they stand.
use Rattle.std.proofs.Common.{◌≡◌, ℕ, suc, List, [], ◌∷◌, map, refl, ap}
use Rattle.makes.specs.declared.table.Row.{Row}
use Rattle.makes.specs.Bases.{arcs_from}
use Rattle.makes.specs.Tables.{row_arc}

pub as_they_stand : {C : Type 0} (k : ℕ) (rows : List (Row C)) → arcs_from (λ a r. row_arc r) k rows ≡ map row_arc rows
as_they_stand k [] = refl
as_they_stand k (r ∷ rest) = ap (λ xs. row_arc r ∷ xs) (as_they_stand (suc k) rest)
