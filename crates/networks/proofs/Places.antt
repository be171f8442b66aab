-- The first place of a number in a list.
use Rattle.std.proofs.Common.{◌≡◌, ℕ, suc, ◌<◌, ◌≤◌, Bool, true, false, cond, eqb, List, [], ◌∷◌, length, get_or, set, refl, ap, ◌∙◌, arith}
use Rattle.std.proofs.lemmas.Bool.{cond-true, cond-false, eq-eqb, eqb-true}
use Rattle.networks.specs.Nets.{place}

-- what stands there, and a number written over it

place_at' : (b : Bool) (x y : ℕ) (ys : List ℕ) → eqb y x ≡ b → (place x ys < length ys → get_or ys (place x ys) 0 ≡ x) → cond b 0 (suc (place x ys)) < suc (length ys) → get_or (y ∷ ys) (cond b 0 (suc (place x ys))) 0 ≡ x
place_at' true x y ys q more h = eqb-true y x q
place_at' false x y ys q more h = more (omega arith)

pub place_at : (x : ℕ) (xs : List ℕ) → place x xs < length xs → get_or xs (place x xs) 0 ≡ x
place_at x [] h = absurd (omega arith)
place_at x (y ∷ ys) h = place_at' (eqb y x) x y ys refl (place_at x ys) h

place_written' : (b c : Bool) (a y : ℕ) (ys : List ℕ) → eqb y a ≡ c → (length ys ≤ place a ys → place 0 ys < length ys → place a (set ys (place 0 ys) a) ≡ place 0 ys) → suc (length ys) ≤ cond c 0 (suc (place a ys)) → cond b 0 (suc (place 0 ys)) < suc (length ys) → place a (set (y ∷ ys) (cond b 0 (suc (place 0 ys))) a) ≡ cond b 0 (suc (place 0 ys))
place_written' b true a y ys q more n h = absurd (omega arith)
place_written' true false a y ys q more n h = cond-true _ _ _ (eq-eqb a a refl)
place_written' false false a y ys q more n h = cond-false _ _ _ q ∙ ap suc (more (omega arith) (omega arith))

-- where a is nowhere yet, and is written at the first 0, there it is found
pub place_written : (a : ℕ) (xs : List ℕ) → length xs ≤ place a xs → place 0 xs < length xs → place a (set xs (place 0 xs) a) ≡ place 0 xs
place_written a [] n h = absurd (omega arith)
place_written a (y ∷ ys) n h = place_written' (eqb y 0) (eqb y a) a y ys refl (place_written a ys) n h
