-- What a network file spells.
use Rattle.std.specs.Prelude.{◌≡◌, ℕ, List, None}
use Rattle.makes.specs.declared.table.Row.{Row}
use Rattle.makes.specs.Tables.{rows_net}
use Rattle.files.specs.Kinds.{Tiers}
use Rattle.files.specs.Tables.{Counts}
use Rattle.files.specs.Texts.{table_text}
use Rattle.files.specs.Stopping.{unfit_stop}

-- counts and rows in order: the tiers are the kind's, and only want of room can stop the writing of their table
pub record Orderly {C : Type 0} (size : C → ℕ) (t : Tiers C) (h : Counts) (rows : List (Row C)) : Type 0 where
  pub tiers : h.tiers ≡ t.count
  pub unstopped : unfit_stop size (rows_net h.nodes h.arcs rows) ≡ None

-- the text spells these counts and rows
pub record Spells {C : Type 0} (size : C → ℕ) (t : Tiers C) (h : Counts) (rows : List (Row C)) (text : List ℕ) : Type 0 where
  pub orderly : Orderly size t h rows
  pub text_is : text ≡ table_text t h rows
