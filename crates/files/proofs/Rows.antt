-- Rows read one line at a time.
use Rattle.std.proofs.Common.{◌≡◌, ℕ, suc, ◌+◌, ◌-◌, ◌<◌, List, [], ◌∷◌, ◌++◌, Ok, Err, sym, refl, ap, ◌∙◌, append_assoc, arith}
use Rattle.makes.specs.declared.table.Row.{Row}
use Rattle.tokens.specs.declared.spots.LineFault.{LineFault}
use Rattle.files.specs.Kinds.{Tiers}
use Rattle.lines.specs.Readings.{Reading, Outcome, then}
use Rattle.files.specs.Arcs.{arc_in}
use Rattle.files.specs.Tables.{rows_in, passed}

-- what is read, with rows that were read before in front
abbrev pub put : {C : Type 0} → List (Row C) → Outcome (List (Row C)) → Outcome (List (Row C))
put done m = then m (λ ys r. Ok (done ++ ys, r))

put_more : {C : Type 0} (done : List (Row C)) (x : Row C) (m : Outcome (List (Row C)))
    → put done (then m (λ ys r. Ok (x ∷ ys, r))) ≡ put (done ++ x ∷ []) m
put_more done x (Ok m) = ap (λ ys. Ok (ys, m.1)) (sym (append_assoc done (x ∷ []) m.0))
put_more done x (Err e) = refl

passed_more : {C : Type 0} (x : Row C) (m : Outcome (List (Row C))) → passed (then m (λ ys r. Ok (x ∷ ys, r))) ≡ passed m
passed_more x (Ok m) = refl
passed_more x (Err e) = refl

-- the first of the lines that are left
first : {C : Type 0} (t : Tiers C) (nodes n i : ℕ) (s : Reading) → i < n
    → rows_in t nodes (n - i) s ≡ then (arc_in t nodes s) (λ x r. then (rows_in t nodes (n - (i + 1)) r) (λ xs u. Ok (x ∷ xs, u)))
first t nodes n i s h = let e : n - i ≡ suc (n - (i + 1)) = omega arith in ap (λ (k : ℕ). rows_in t nodes k s) e

pub row_put : {C : Type 0} (t : Tiers C) (nodes n i : ℕ) (done : List (Row C)) (x : Row C) (s r : Reading) (whole : Outcome (List (Row C))) → i < n
    → Ok (x, r) ≡ arc_in t nodes s → put done (rows_in t nodes (n - i) s) ≡ whole → put (done ++ x ∷ []) (rows_in t nodes (n - (i + 1)) r) ≡ whole
row_put t nodes n i done x s r whole h e inv =
    let one : put done (rows_in t nodes (n - i) s) ≡ put (done ++ x ∷ []) (rows_in t nodes (n - (i + 1)) r) =
    rw (first t nodes n i s h, ← e) (put_more done x (rows_in t nodes (n - (i + 1)) r)) in
    sym one ∙ inv

pub row_passed : {C : Type 0} (t : Tiers C) (nodes n i : ℕ) (x : Row C) (s r : Reading) (whole : Outcome (Unit {0})) → i < n
    → Ok (x, r) ≡ arc_in t nodes s → passed (rows_in t nodes (n - i) s) ≡ whole → passed (rows_in t nodes (n - (i + 1)) r) ≡ whole
row_passed t nodes n i x s r whole h e inv =
    let one : passed (rows_in t nodes (n - i) s) ≡ passed (rows_in t nodes (n - (i + 1)) r) =
    rw (first t nodes n i s h, ← e) (passed_more x (rows_in t nodes (n - (i + 1)) r)) in
    sym one ∙ inv

-- a line with a fault
pub row_fault : {C B : Type 0} (t : Tiers C) (nodes n i : ℕ) (f : List (Row C) → Reading → Outcome B) (e : LineFault) (s r : Reading) (whole : Outcome B) → i < n
    → Err (e, r) ≡ arc_in t nodes s → then (rows_in t nodes (n - i) s) f ≡ whole → Err (e, r) ≡ whole
row_fault t nodes n i f e s r whole h p inv =
    let one : then (rows_in t nodes (n - i) s) f ≡ Err (e, r) = rw (first t nodes n i s h, ← p) refl in
    sym one ∙ inv
