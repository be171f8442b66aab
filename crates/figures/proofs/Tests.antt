-- Tests that compute, and what passing them shows.
use Rattle.std.proofs.Common.{◌≡◌, ℕ, ◌≤◌, Bool, true, false, not, ◌&&◌, leb, List, [], ◌∷◌, ℤ, ◌-ℤ◌, ◌<ℤ◌, sym, subst, arith, refl}
use lib.Signed.{lt_z}
use borrow.Author.Differences.{ints}
use Rattle.std.specs.List.{AllByRecursion}
use Rattle.std.proofs.lemmas.Bool.{leb-true}
use Rattle.networks.specs.declared.network.Arc.{Arc}
use Rattle.flows.specs.Cuts.{can_leave, must_enter, needed_from, marked, MarksCut}

-- every mark is 0 or 1
abbrev pub bits : List ℕ → Bool
bits [] = true
bits (m ∷ ms) = leb m 1 && bits ms

bits_pass : (ms : List ℕ) → bits ms ≡ true → AllByRecursion (λ m. m ≤ 1) ms
bits_pass [] e = tt
bits_pass (m ∷ ms) e = (leb-true m 1 (grind arith), bits_pass ms (grind arith))

module _ {C : Type 0} where
  -- the marked nodes are a cut
  abbrev pub cuts : List (Arc C) → List ℤ → List ℕ → Bool
  cuts arcs needs marks = bits marks && lt_z (can_leave (marked marks) arcs -ℤ must_enter (marked marks) arcs) (needed_from 1 (marked marks) needs)

  pub cuts_pass : (arcs : List (Arc C)) (needs : List ℤ) (marks : List ℕ) → cuts arcs needs marks ≡ true → MarksCut arcs needs marks
  cuts_pass arcs needs marks e = record { bits = bits_pass marks (grind arith); cut = grind (arith, ints) }
