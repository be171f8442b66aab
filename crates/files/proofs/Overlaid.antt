-- Texts put over bytes, one after another.
use Rattle.std.proofs.Common.{◌≡◌, ℕ, zero, suc, ◌+◌, ◌≤◌, ◌⊎◌, min, List, [], ◌∷◌, ◌++◌, length, take, drop, map, sym, refl, ap, ap₂, ◌∙◌, ⊎_elim, length-append, arith}
use Rattle.std.specs.List.{flat_map}
use Rattle.std.proofs.lemmas.List.Concat.{flat_map-cons}
use Rattle.networks.specs.Limits.{most_counted}
use Rattle.files.specs.Sheets.{over, Sheet, inked}

-- the bytes before the place, the text as far as it fits, and the bytes after it
pub put_down : (xs text : List ℕ) (at start k : ℕ) → start ≡ min at (length xs) → start + k ≡ min (at + length text) (length xs)
    → take start xs ++ (take k text ++ drop k (drop start xs)) ≡ over xs at text
put_down [] text at zero zero s e = refl
put_down [] text at zero (suc k) s e = absurd (omega arith)
put_down [] text at (suc n) k s e = absurd (omega arith)
put_down (b ∷ bytes) [] zero zero zero s e = refl
put_down (b ∷ bytes) [] zero zero (suc k) s e = absurd (omega arith)
put_down (b ∷ bytes) (x ∷ text) zero zero zero s e = absurd (omega arith)
put_down (b ∷ bytes) (x ∷ text) zero zero (suc k) s e = ap (λ t. x ∷ t) (put_down bytes text zero zero k (omega arith) (omega arith))
put_down (b ∷ bytes) text zero (suc n) k s e = absurd (omega arith)
put_down (b ∷ bytes) text (suc at) zero k s e = absurd (omega arith)
put_down (b ∷ bytes) text (suc at) (suc n) k s e = ap (λ t. b ∷ t) (put_down bytes text at n k (omega arith) (omega arith))

-- one text and then another are both in one
over_more : (bytes : List ℕ) (at : ℕ) (x y : List ℕ) → over (over bytes at x) (at + length x) y ≡ over bytes at (x ++ y)
over_more [] at x y = refl
over_more (b ∷ bytes) zero [] y = refl
over_more (b ∷ bytes) zero (a ∷ x) y =
    let i : zero + suc (length x) ≡ suc (zero + length x) = omega arith in
    ap (λ n. over (a ∷ over bytes zero x) n y) i ∙ ap (λ t. a ∷ t) (over_more bytes zero x y)
over_more (b ∷ bytes) (suc at) x y =
    let i : suc at + length x ≡ suc (at + length x) = omega arith in
    ap (λ n. over (b ∷ over bytes at x) n y) i ∙ ap (λ t. b ∷ t) (over_more bytes at x y)

length-over : (bytes : List ℕ) (at : ℕ) (text : List ℕ) → length (over bytes at text) ≡ length bytes
length-over [] at text = refl
length-over (b ∷ bytes) zero [] = refl
length-over (b ∷ bytes) zero (x ∷ text) = ap suc (length-over bytes zero text)
length-over (b ∷ bytes) (suc at) text = ap suc (length-over bytes at text)

-- past their end nothing is put down
over_past : (bytes : List ℕ) (at : ℕ) (text : List ℕ) → length bytes ≤ at → over bytes at text ≡ bytes
over_past [] at text h = refl
over_past (b ∷ bytes) zero text h = absurd (omega arith)
over_past (b ∷ bytes) (suc at) text h = ap (λ t. b ∷ t) (over_past bytes at text (omega arith))

over_min : (bytes : List ℕ) (at : ℕ) (text : List ℕ) → length bytes ≤ most_counted → over bytes (min at most_counted) text ≡ over bytes at text
over_min bytes at text h =
    ⊎_elim (λ (p : min at most_counted ≡ at). ap (λ n. over bytes n text) p)
    (λ (p : (min at most_counted ≡ most_counted) × (most_counted ≤ at)). over_past bytes (min at most_counted) text (let q = p.0 in omega arith) ∙ sym (over_past bytes at text (let q = p.1 in omega arith))) cases
  where
    cases : (min at most_counted ≡ at) ⊎ ((min at most_counted ≡ most_counted) × (most_counted ≤ at))
    cases = grind arith

-- two texts one after another are one text
pub inked_more : (s u v : Sheet) (x y : List ℕ) → length s.bytes ≤ most_counted → u ≡ inked x s → v ≡ inked y u → v ≡ inked (x ++ y) s
unfolding inked
inked_more s u v x y h p q =
    let l = length-over s.bytes s.count x in
    let n : min (min (s.count + length x) most_counted + length y) most_counted ≡ min (s.count + length (x ++ y)) most_counted = omega (arith, length-append x y) in
    q ∙ ap (inked y) p ∙ ap₂ (λ bytes n. record { bytes = bytes; count = n }) (over_min (over s.bytes s.count x) (s.count + length x) y (omega arith) ∙ over_more s.bytes s.count x y) n

-- a text that fits
pub over_whole : (bytes text : List ℕ) → length text ≤ length bytes → over bytes 0 text ≡ text ++ drop (length text) bytes
over_whole [] [] h = refl
over_whole [] (x ∷ text) h = absurd (omega arith)
over_whole (b ∷ bytes) [] h = refl
over_whole (b ∷ bytes) (x ∷ text) h = ap (λ t. x ∷ t) (over_whole bytes text (omega arith))

-- no text changes nothing
over_none : (bytes : List ℕ) (at : ℕ) → over bytes at [] ≡ bytes
over_none [] at = refl
over_none (b ∷ bytes) zero = refl
over_none (b ∷ bytes) (suc at) = ap (λ t. b ∷ t) (over_none bytes at)

pub inked_none : (s : Sheet) → s.count ≤ most_counted → inked [] s ≡ s
unfolding inked
inked_none s h = let n : min (s.count + 0) most_counted ≡ s.count = omega arith in ap₂ (λ bytes n. record { bytes = bytes; count = n }) (over_none s.bytes s.count) n

-- what is put down from the first byte on
pub inked_whole : (text bytes : List ℕ) (s : Sheet) → s ≡ inked text (record { bytes = bytes; count = 0 }) → (s.count ≡ min (length text) most_counted) × (s.bytes ≡ over bytes 0 text)
unfolding inked
inked_whole text bytes s e = (ap (λ z. z.count) e ∙ ap (λ n. min n most_counted) (let z : 0 + length text ≡ length text = omega arith in z), ap (λ z. z.bytes) e)

pub length-inked : (text : List ℕ) (s u : Sheet) → u ≡ inked text s → length u.bytes ≡ length s.bytes
unfolding inked
length-inked text s u e = ap (λ z. length z.bytes) e ∙ length-over s.bytes s.count text

-- one line of a table, and those after it
pub inked_next : {C X : Type 0} (f : X → List ℕ) (row : C → X) (x : C) (left rest : List C) (s u : Sheet) → length s.bytes ≤ most_counted → left ≡ x ∷ rest → u ≡ inked (f (row x)) s
    → inked (flat_map f (map row rest)) u ≡ inked (flat_map f (map row left)) s
inked_next f row x left rest s u h e p =
    inked_more s u (inked (flat_map f (map row rest)) u) (f (row x)) (flat_map f (map row rest)) h p refl
    ∙ ap (λ t. inked t s) (sym (flat_map-cons f (row x) (map row rest)) ∙ ap (λ z. flat_map f (map row z)) (sym e))

-- two texts from the first byte on
pub inked_both : (a b bytes : List ℕ) (s u v : Sheet) → length bytes ≤ most_counted → s ≡ record { bytes = bytes; count = 0 } → u ≡ inked a s → v ≡ inked b u
    → (v.count ≡ min (length (a ++ b)) most_counted) × (v.bytes ≡ over bytes 0 (a ++ b))
inked_both a b bytes s u v h i p q = inked_whole (a ++ b) bytes v (inked_more (record { bytes = bytes; count = 0 }) u v a b h (p ∙ ap (inked a) i) q)
