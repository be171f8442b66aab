-- Rows that count from 1: which is there.
use Rattle.std.proofs.Common.{◌≡◌, ℕ, ◌+◌, ◌-◌, ◌<◌, Bool, true, false, cond, ◌||◌, eqb, ltb, List, length, Some, None, Ok, Err, Option, sym, refl, arith, ltb-false, ltb-true}
use borrow.Author.Tests.{eqb-false}
use Rattle.std.specs.List.{slice_get}
use Rattle.std.specs.Option.{ok_or}
use Rattle.std.proofs.lemmas.Option.{slice_get_past}
use Rattle.networks.specs.declared.stops.Stop.{Stop}
use Rattle.networks.specs.declared.stops.Stop.TheVariants.{Absent}
use Rattle.networks.specs.Nets.{numbered}
use Rattle.makes.specs.Bases.{place_of}

-- a number with no place is that of no row
pub no_place : {X : Type 0} (xs : List X) (a : ℕ) → None ≡ place_of (length xs) a → None ≡ numbered xs a
no_place xs a = go (eqb a 0) (ltb (length xs) a) refl
  where
    go : (b d : Bool) → ltb (length xs) a ≡ d → None ≡ cond (b || d) None (Some (a - 1)) → None ≡ cond b None (slice_get xs (a - 1))
    go true d q e = refl
    go false true q e = sym (slice_get_past xs (a - 1) (omega (arith, ltb-true)))
    go false false q e = cc

-- a number is one above its place, and a place is that of a row
pub a_place : (n a i : ℕ) → Some i ≡ place_of n a → (i + 1 ≡ a) × (i < n)
a_place n a i = go (eqb a 0) (ltb n a) refl refl
  where
    go : (b d : Bool) → eqb a 0 ≡ b → ltb n a ≡ d → Some i ≡ cond (b || d) None (Some (a - 1)) → (i + 1 ≡ a) × (i < n)
    go true d p q e = cc
    go false true p q e = cc
    go false false p q e = let j : i ≡ a - 1 = cc in (omega (arith, eqb-false), omega (arith, eqb-false, ltb-false))

-- what a place says, or the stop where there is none
pub found : (o : Option ℕ) (a i : ℕ) → Ok i ≡ ok_or o (Absent a) → Some i ≡ o
found None a i e = cc
found (Some j) a i e = cc

pub absent : (o : Option ℕ) (a : ℕ) (s : Stop) → Err s ≡ ok_or o (Absent a) → (None ≡ o) × (s ≡ Absent a)
absent None a s e = (refl, cc)
absent (Some j) a s e = cc
