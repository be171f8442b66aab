-- Nodes that are not labelled.
use Rattle.std.proofs.Common.{◌≡◌, ℕ, zero, suc, ◌<◌, ◌≤◌, Bool, true, false, cond, not, List, [], ◌∷◌, length, get_or, take, set, replicate, Some, sym, refl, ap, subst, arith}
use Rattle.std.specs.List.{position, position_or_len}
use Rattle.std.specs.Option.{is_some, unwrap_or}
use Rattle.std.proofs.lemmas.List.Sums.{passes_at_first}
use Rattle.std.proofs.lemmas.Bool.{cond-true, lt-ltb, not-true}
use Rattle.tidy.specs.Picks.{unmarked}

-- one mark more
pub one_less : (ms : List Bool) (i : ℕ) → i < length ms → get_or ms i false ≡ false → suc (unmarked (set ms i true)) ≡ unmarked ms
one_less [] i h e = absurd (omega arith)
one_less (m ∷ ms) zero h e = ap (λ b. cond b (unmarked ms) (suc (unmarked ms))) (sym e)
one_less (true ∷ ms) (suc i) h e = one_less ms i (omega arith) e
one_less (false ∷ ms) (suc i) h e = ap suc (one_less ms i (omega arith) e)

-- none left: each is labelled
pub all_labelled_at : (ms : List Bool) → unmarked ms ≡ 0 → (i : ℕ) → i < length ms → get_or ms i false ≡ true
all_labelled_at [] e i h = absurd (omega arith)
all_labelled_at (true ∷ ms) e zero h = refl
all_labelled_at (true ∷ ms) e (suc i) h = all_labelled_at ms e i (omega arith)
all_labelled_at (false ∷ ms) e i h = absurd (omega arith)

at_most : (ms : List Bool) → unmarked ms ≤ length ms
at_most [] = omega arith
at_most (true ∷ ms) = omega (arith, at_most ms)
at_most (false ∷ ms) = omega (arith, at_most ms)

pub some_labelled_at : (ms : List Bool) (i : ℕ) → get_or ms i false ≡ true → unmarked ms < length ms
some_labelled_at [] i e = cc
some_labelled_at (true ∷ ms) zero e = omega (arith, at_most ms)
some_labelled_at (false ∷ ms) zero e = cc
some_labelled_at (true ∷ ms) (suc i) e = omega (arith, some_labelled_at ms i e)
some_labelled_at (false ∷ ms) (suc i) e = omega (arith, some_labelled_at ms i e)

pub all_clear : (n m : ℕ) → unmarked (take n (replicate m false)) ≡ length (take n (replicate m false))
all_clear zero zero = refl
all_clear zero (suc m) = refl
all_clear (suc n) zero = refl
all_clear (suc n) (suc m) = ap suc (all_clear n m)

-- the first mark that is not set
inside : (ms : List Bool) → 1 ≤ unmarked ms → position_or_len not ms < length ms
inside [] h = absurd (omega arith)
inside (true ∷ ms) h = omega (arith, inside ms h)
inside (false ∷ ms) h = omega arith

there : (ms : List Bool) → 1 ≤ unmarked ms → position not ms ≡ Some (position_or_len not ms)
there ms some = cond-true _ _ _ (lt-ltb (position_or_len not ms) (length ms) (inside ms some))

pub some_free : (ms : List Bool) → 1 ≤ unmarked ms → is_some (position not ms) ≡ true
some_free ms some = ap is_some (there ms some)

pub first_free : (ms : List Bool) → 1 ≤ unmarked ms → (unwrap_or (position not ms) 0 < length ms) × (get_or ms (unwrap_or (position not ms) 0) false ≡ false)
first_free ms some =
    subst (λ i. (i < length ms) × (get_or ms i false ≡ false)) (ap (λ o. unwrap_or o 0) (sym (there ms some))) (inside ms some, not-true _ (passes_at_first not ms false (inside ms some)))
