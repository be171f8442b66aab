-- The token at the front of a text, and the text after it.
use Rattle.std.proofs.Common.{◌≡◌, ℕ, zero, suc, ◌+◌, ◌≤◌, ◌<◌, min, Bool, true, false, cond, ◌||◌, eqb, ltb, List, [], ◌∷◌, ◌++◌, length, take, drop, get_or, ℤ, pos, negsuc, nat_abs, Ok, Err, Result, sym, refl, ap, ap₂, ◌∙◌, subst, length-take, take-append-drop, arith, rules}
use Rattle.std.specs.Prelude.{nat_lt}
use Rattle.std.specs.Fmt.{decimal, signed_decimal}
use Rattle.std.proofs.lemmas.Bool.Decides.{nat_tests}
use Rattle.std.specs.Char.{is_ascii_digit, is_ascii_lowercase}
use Rattle.std.specs.Str.{all_ascii_digits}
use Rattle.std.specs.List.{prefix_len}
use Rattle.std.proofs.lemmas.List.{drop_min, drop_at}
use Rattle.tokens.specs.Tokens.{Shape, opens, closes, space, line_feed, word, number, bytes_of, sign_of, malformed, number_of, number_at, mark_of, front_of, value_of}
use Rattle.tokens.specs.declared.spots.Cause.{Cause}
use Rattle.tokens.specs.declared.spots.Cause.TheVariants as cause
use Rattle.tokens.proofs.Numerals.{written, decimal_digits, decimal_some}

-- the text is its first bytes and those after them
abbrev pub Fronts : List ℕ → List ℕ → Type 0
Fronts xs bytes = xs ≡ bytes ++ drop (length bytes) xs

take_fronts : (k : ℕ) (xs : List ℕ) → Fronts xs (take k xs)
take_fronts k xs = sym (ap (λ n. take k xs ++ drop n xs) (length-take k xs) ∙ ap (λ t. take k xs ++ t) (drop_min k xs) ∙ take-append-drop k xs)

number_fronts : (sign digits : ℕ) (xs : List ℕ) (s : Shape) → number_of sign digits xs ≡ Ok s → Fronts xs (bytes_of s)
number_fronts sign digits xs s e = go (malformed sign digits (get_or xs sign 0)) e
  where
    go : (b : Bool) → cond b (Err cause.Number) (Ok (number (take (sign + digits) xs))) ≡ Ok s → Fronts xs (bytes_of s)
    go true e = absurd cc
    go false e = let i : number (take (sign + digits) xs) ≡ s = cc in subst (λ z. Fronts xs (bytes_of z)) i (take_fronts (sign + digits) xs)

mark_fronts : (b : ℕ) (rest : List ℕ) (s : Shape) → mark_of b ≡ Ok s → Fronts (b ∷ rest) (bytes_of s)
mark_fronts b rest s e = go (eqb b 40) (eqb b 41) (eqb b 32) (eqb b 10) refl refl refl refl e
  where
    go : (p q r t : Bool) → eqb b 40 ≡ p → eqb b 41 ≡ q → eqb b 32 ≡ r → eqb b 10 ≡ t
        → cond p (Ok opens) (cond q (Ok closes) (cond r (Ok space) (cond t (Ok line_feed) (Err cause.Byte)))) ≡ Ok s → Fronts (b ∷ rest) (bytes_of s)
    go true q r t hp hq hr ht e = let i : opens ≡ s = cc in subst (λ z. Fronts (b ∷ rest) (bytes_of z)) i (ap (λ n. n ∷ rest) (let h : b ≡ 40 = grind (arith, nat_tests) in h))
    go false true r t hp hq hr ht e = let i : closes ≡ s = cc in subst (λ z. Fronts (b ∷ rest) (bytes_of z)) i (ap (λ n. n ∷ rest) (let h : b ≡ 41 = grind (arith, nat_tests) in h))
    go false false true t hp hq hr ht e = let i : space ≡ s = cc in subst (λ z. Fronts (b ∷ rest) (bytes_of z)) i (ap (λ n. n ∷ rest) (let h : b ≡ 32 = grind (arith, nat_tests) in h))
    go false false false true hp hq hr ht e = let i : line_feed ≡ s = cc in subst (λ z. Fronts (b ∷ rest) (bytes_of z)) i (ap (λ n. n ∷ rest) (let h : b ≡ 10 = grind (arith, nat_tests) in h))
    go false false false false hp hq hr ht e = absurd cc

-- what stands at the front of a text with a byte in it
abbrev pub some_front : ℕ → List ℕ → Result Shape Cause
some_front x ys = cond (nat_lt 0 (prefix_len is_ascii_lowercase (x ∷ ys))) (Ok (word (take (prefix_len is_ascii_lowercase (x ∷ ys)) (x ∷ ys)))) (cond (eqb x 45 || is_ascii_digit x) (number_at (x ∷ ys)) (mark_of x))

pub front_some : (x : ℕ) (ys : List ℕ) → front_of (x ∷ ys) ≡ some_front x ys
front_some x ys = let n : eqb (length (x ∷ ys)) 0 ≡ false = grind (arith, nat_tests) in ap (λ b. cond b (Err cause.End) (some_front x ys)) n

-- a token's bytes are the first of the text that it is read of
pub front_fronts : (xs : List ℕ) (s : Shape) → front_of xs ≡ Ok s → Fronts xs (bytes_of s)
front_fronts [] s e = absurd cc
front_fronts (x ∷ ys) s e = go (nat_lt 0 (prefix_len is_ascii_lowercase (x ∷ ys))) (eqb x 45 || is_ascii_digit x) (sym (front_some x ys) ∙ e)
  where
    go : (p q : Bool) → cond p (Ok (word (take (prefix_len is_ascii_lowercase (x ∷ ys)) (x ∷ ys)))) (cond q (number_at (x ∷ ys)) (mark_of x)) ≡ Ok s → Fronts (x ∷ ys) (bytes_of s)
    go true q e = let i : word (take (prefix_len is_ascii_lowercase (x ∷ ys)) (x ∷ ys)) ≡ s = cc in subst (λ z. Fronts (x ∷ ys) (bytes_of z)) i (take_fronts (prefix_len is_ascii_lowercase (x ∷ ys)) (x ∷ ys))
    go false true e = number_fronts (sign_of (x ∷ ys)) (prefix_len is_ascii_digit (drop (sign_of (x ∷ ys)) (x ∷ ys))) (x ∷ ys) s e
    go false false e = mark_fronts x ys s e

-- a minus or a digit begins a number
number_next : (b : ℕ) (ys : List ℕ) → is_ascii_lowercase b ≡ false → (eqb b 45 || is_ascii_digit b) ≡ true → front_of (b ∷ ys) ≡ number_at (b ∷ ys)
number_next b ys l d =
    let none : prefix_len is_ascii_lowercase (b ∷ ys) ≡ 0 = ap (λ p. cond p (1 + prefix_len is_ascii_lowercase ys) 0) l in
    front_some b ys ∙ ap₂ (λ n p. cond (nat_lt 0 n) (Ok (word (take n (b ∷ ys)))) (cond p (number_at (b ∷ ys)) (mark_of b))) none d

digits_next : (ds rest : List ℕ) → all_ascii_digits ds ≡ true → 0 < length ds → front_of (ds ++ rest) ≡ number_at (ds ++ rest)
digits_next [] rest d h = absurd (omega arith)
digits_next (x ∷ xs) rest d h = number_next x (xs ++ rest) (grind arith) (grind arith)

-- a number of at most seven digits is read as it is written, before what is no digit
pub number_front : (z : ℤ) (rest : List ℕ) → nat_abs z ≤ 9999999 → prefix_len is_ascii_digit rest ≡ 0 → front_of (signed_decimal z ++ rest) ≡ Ok (number (signed_decimal z))
number_front (pos n) rest h e = digits_next (decimal n) rest (decimal_digits n h) (decimal_some n h) ∙ (written (pos n) rest h e).0
number_front (negsuc n) rest h e = number_next 45 (decimal (suc n) ++ rest) refl refl ∙ (written (negsuc n) rest h e).0

-- a number at the front begins there
pub front_number : (xs w : List ℕ) → front_of xs ≡ Ok (number w) → number_at xs ≡ Ok (number w)
front_number [] w e = absurd cc
front_number (x ∷ ys) w e = go (nat_lt 0 (prefix_len is_ascii_lowercase (x ∷ ys))) (eqb x 45 || is_ascii_digit x) (sym (front_some x ys) ∙ e)
  where
    mark : (p q r t : Bool) → cond p (Ok opens) (cond q (Ok closes) (cond r (Ok space) (cond t (Ok line_feed) (Err cause.Byte)))) ≡ Ok (number w) → ⊥
    mark true q r t e = cc
    mark false true r t e = cc
    mark false false true t e = cc
    mark false false false true e = cc
    mark false false false false e = cc

    go : (p q : Bool) → cond p (Ok (word (take (prefix_len is_ascii_lowercase (x ∷ ys)) (x ∷ ys)))) (cond q (number_at (x ∷ ys)) (mark_of x)) ≡ Ok (number w) → number_at (x ∷ ys) ≡ Ok (number w)
    go true q e = absurd cc
    go false true e = e
    go false false e = absurd (mark (eqb x 40) (eqb x 41) (eqb x 32) (eqb x 10) e)
