-- What is read is spelled so: each reading that gives a value steps over the spelling of that value.
use Rattle.std.proofs.Common.{◌≡◌, ℕ, zero, suc, ◌+◌, ◌<◌, ◌≤◌, Bool, true, false, cond, ◌&&◌, leb, List, [], ◌∷◌, ◌++◌, length, take, drop, ℤ, pos, negsuc, nat_abs, Ok, Err, Result, Decides, sym, refl, ap, ap₂, ◌∙◌, subst, append_assoc, arith, rules}
use Rattle.std.specs.Prelude.{codes, int_le, unsigned_abs}
use Rattle.std.specs.Fmt.{decimal, signed_decimal}
use Rattle.std.specs.Str.{bytes_eq}
use Rattle.std.proofs.lemmas.Slice.Eq.{bytes_eq-Decides}
use Rattle.std.proofs.lemmas.Bool.Decides.{nat_tests}
use Rattle.networks.specs.Limits.{bounds_fit}
use Rattle.networks.specs.declared.stops.Stop.TheVariants as stop
use Rattle.tokens.specs.declared.spots.Spot.{Spot}
use Rattle.tokens.specs.declared.spots.Cause.{Cause}
use Rattle.tokens.specs.declared.spots.LineFault.{LineFault}
use Rattle.tokens.specs.declared.spots.Cause.TheVariants as cause
use Rattle.tokens.specs.Tokens.{Shape, opens, closes, space, line_feed, word, number, bytes_of, front_of, value_of}
use Rattle.tokens.proofs.Fronts.{front_fronts, front_number}
use Rattle.tokens.proofs.Numerals.{was_read}
use Rattle.lines.specs.declared.Numeral.{Numeral}
use Rattle.lines.specs.Readings.{Reading, Outcome, then, past, fault_at, ended}
use Rattle.lines.specs.Lines.{token_or, expected, expects, starts, numeral, number_in, ranged, within_in, value_in, count_in, finishes, pair_of, in_line, low_in, high_in, bounds_in}

-- what goes well goes well in both parts
pub then_ok : {A B : Type 0} (o : Outcome A) (f : A → Reading → Outcome B) (y : B × Reading) → then o f ≡ Ok y → (m : A × Reading) × ((o ≡ Ok m) × (f m.0 m.1 ≡ Ok y))
then_ok (Ok m) f y e = (m, (refl, e))
then_ok (Err x) f y e = absurd cc

bytes_are : (xs ys : List ℕ) → bytes_eq xs ys ≡ true → xs ≡ ys
bytes_are xs ys e = go (bytes_eq xs ys) (bytes_eq-Decides xs ys) e
  where
    go : (b : Bool) → Decides b (xs ≡ ys) → b ≡ true → xs ≡ ys
    go true d e = d.0 e
    go false d e = absurd cc

pub expects_takes : (due : List ℕ) (r : Reading) (m : Unit {0} × Reading) → expects due r ≡ Ok m → r.rest ≡ due ++ m.1.rest
expects_takes due r m e = go (front_of r.rest) refl e
  where
    is : (s : Shape) (b : Bool) → bytes_eq (bytes_of s) due ≡ b → front_of r.rest ≡ Ok s → cond {A = Outcome (Unit {0})} b (Ok (tt, past s r)) (Err (fault_at r cause.NotDue, r)) ≡ Ok m → r.rest ≡ due ++ m.1.rest
    is s true q f e =
        let i : (tt, past s r) ≡ m = cc in
        front_fronts r.rest s f ∙ ap₂ ◌++◌ (bytes_are (bytes_of s) due q) (ap (λ (z : Unit {0} × Reading). z.1.rest) i)
    is s false q f e = absurd cc

    go : (o : Result Shape Cause) → front_of r.rest ≡ o → expected due r (token_or r o) ≡ Ok m → r.rest ≡ due ++ m.1.rest
    go (Ok s) f e = is s (bytes_eq (bytes_of s) due) refl f e
    go (Err c) f e = absurd cc

pub starts_takes : (name : List ℕ) (r : Reading) (m : Unit {0} × Reading) → starts name r ≡ Ok m → r.rest ≡ codes "(" ++ (name ++ (codes " " ++ m.1.rest))
starts_takes name r m e =
    let a = then_ok (expects (codes "(") r) (λ _ s. then (expects name s) (λ _ t. expects (codes " ") t)) m e in
    let b = then_ok (expects name a.0.1) (λ _ t. expects (codes " ") t) m a.1.1 in
    expects_takes (codes "(") r a.0 a.1.0 ∙ ap (λ t. codes "(" ++ t) (expects_takes name a.0.1 b.0 b.1.0 ∙ ap (λ t. name ++ t) (expects_takes (codes " ") b.0.1 m b.1.1))

pub finishes_takes : (r : Reading) (m : Unit {0} × Reading) → finishes r ≡ Ok m → r.rest ≡ codes ")\n" ++ m.1.rest
finishes_takes r m e =
    let a = then_ok (expects (codes ")") r) (λ _ s. expects (10 ∷ []) s) m e in
    expects_takes (codes ")") r a.0 a.1.0 ∙ ap (λ t. codes ")" ++ t) (expects_takes (10 ∷ []) a.0.1 m a.1.1)

pub number_takes : (r : Reading) (m : Numeral × Reading) → number_in r ≡ Ok m → r.rest ≡ signed_decimal m.0.value ++ m.1.rest
number_takes r m e = go (front_of r.rest) refl e
  where
    go : (o : Result Shape Cause) → front_of r.rest ≡ o → numeral r (token_or r o) ≡ Ok m → r.rest ≡ signed_decimal m.0.value ++ m.1.rest
    go (Ok (number w)) f e =
        let i : (let z : Numeral × Reading = (record { value = value_of w; spot = r.spot }, past (number w) r) in z) ≡ m = cc in
        front_fronts r.rest (number w) f ∙ ap (λ t. t ++ drop (length w) r.rest) (sym (was_read r.rest w (front_number r.rest w f))) ∙ ap (λ z. signed_decimal z.0.value ++ z.1.rest) i
    go (Ok opens) f e = absurd cc
    go (Ok closes) f e = absurd cc
    go (Ok space) f e = absurd cc
    go (Ok line_feed) f e = absurd cc
    go (Ok (word w)) f e = absurd cc
    go (Err c) f e = absurd cc

pub within_takes : (least most : ℤ) (r : Reading) (m : Numeral × Reading) → within_in least most r ≡ Ok m → (r.rest ≡ signed_decimal m.0.value ++ m.1.rest) × ((int_le least m.0.value && int_le m.0.value most) ≡ true)
within_takes least most r m e =
    let a = then_ok (number_in r) (λ n s. ended (ranged least most n) s) m e in
    let n = a.0.0 in
    let i = is n a.0.1 (int_le least n.value && int_le n.value most) refl a.1.1 in
    (number_takes r a.0 a.1.0 ∙ ap (λ z. signed_decimal z.0.value ++ z.1.rest) i.0, subst (λ z. (int_le least z.0.value && int_le z.0.value most) ≡ true) i.0 i.1)
  where
    is : (n : Numeral) (s : Reading) (b : Bool) → (int_le least n.value && int_le n.value most) ≡ b → ended (cond b (Ok n) (Err (record { spot = n.spot; cause = cause.Range }))) s ≡ Ok m → ((n, s) ≡ m) × ((int_le least n.value && int_le n.value most) ≡ true)
    is n s true q e = (cc, q)
    is n s false q e = absurd cc

pub value_takes : (least most : ℤ) (r : Reading) (m : ℤ × Reading) → value_in least most r ≡ Ok m → (r.rest ≡ signed_decimal m.0 ++ m.1.rest) × ((int_le least m.0 && int_le m.0 most) ≡ true)
value_takes least most r m e =
    let a = then_ok (within_in least most r) (λ n s. Ok (n.value, s)) m e in
    let w = within_takes least most r a.0 a.1.0 in
    let i : (a.0.0.value, a.0.1) ≡ m = cc in
    (w.0 ∙ ap (λ z. signed_decimal z.0 ++ z.1.rest) i, subst (λ z. (int_le least z.0 && int_le z.0 most) ≡ true) i w.1)

pub count_takes : (name : List ℕ) (least most : ℕ) (r : Reading) (m : ℕ × Reading) → count_in name least most r ≡ Ok m
    → (r.rest ≡ codes "(" ++ (name ++ (codes " " ++ (decimal m.0 ++ (codes ")" ++ m.1.rest))))) × ((least ≤ m.0) × (m.0 ≤ most))
count_takes name least most r m e =
    let f = λ (v : ℤ) (t : Reading). then (expects (codes ")") t) (λ _ u. Ok (unsigned_abs v, u)) in
    let a = then_ok (starts name r) (λ _ s. then (value_in (pos least) (pos most) s) f) m e in
    let b = then_ok (value_in (pos least) (pos most) a.0.1) f m a.1.1 in
    let d = then_ok (expects (codes ")") b.0.1) (λ _ u. Ok (unsigned_abs b.0.0, u)) m b.1.1 in
    let w = value_takes (pos least) (pos most) a.0.1 b.0 b.1.0 in
    let n = natural b.0.0 w.1 in
    let i : (unsigned_abs b.0.0, d.0.1) ≡ m = cc in
    let k : unsigned_abs b.0.0 ≡ m.0 = ap (λ z. z.0) i in
    let s : signed_decimal b.0.0 ≡ decimal m.0 = ap signed_decimal n.0 ∙ ap decimal k in
    (starts_takes name r a.0 a.1.0 ∙ ap (λ t. codes "(" ++ (name ++ (codes " " ++ t))) (w.0 ∙ ap₂ ◌++◌ s (expects_takes (codes ")") b.0.1 d.0 d.1.0 ∙ ap (λ z. codes ")" ++ z.1.rest) i)), (omega (arith, n.1.0, k), omega (arith, n.1.1, k)))
  where
    natural : (z : ℤ) → (int_le (pos least) z && int_le z (pos most)) ≡ true → (z ≡ pos (unsigned_abs z)) × ((least ≤ unsigned_abs z) × (unsigned_abs z ≤ most))
    natural (pos n) h = (refl, (grind (arith, nat_tests), grind (arith, nat_tests)))
    natural (negsuc n) h = absurd cc

low_takes : (r : Reading) (m : Numeral × Reading) → low_in r ≡ Ok m → r.rest ≡ codes "(lo " ++ (signed_decimal m.0.value ++ (codes ")" ++ m.1.rest))
low_takes r m e =
    let f = λ (v : Numeral) (t : Reading). then (expects (codes ")") t) (λ _ u. Ok (v, u)) in
    let a = then_ok (starts (codes "lo") r) (λ _ s. then (number_in s) f) m e in
    let b = then_ok (number_in a.0.1) f m a.1.1 in
    let d = then_ok (expects (codes ")") b.0.1) (λ _ u. Ok (b.0.0, u)) m b.1.1 in
    let i : (b.0.0, d.0.1) ≡ m = cc in
    starts_takes (codes "lo") r a.0 a.1.0 ∙ ap (λ t. codes "(lo " ++ t) (number_takes a.0.1 b.0 b.1.0 ∙ ap (λ t. signed_decimal b.0.0.value ++ t) (expects_takes (codes ")") b.0.1 d.0 d.1.0))
    ∙ ap (λ z. codes "(lo " ++ (signed_decimal z.0.value ++ (codes ")" ++ z.1.rest))) i

paired : (lo hi : Numeral) (s : Reading) (m : (ℤ × ℤ) × Reading) → ended (in_line (pair_of lo hi)) s ≡ Ok m → (((lo.value, hi.value), s) ≡ m) × (bounds_fit lo.value hi.value ≡ true)
paired lo hi s m e = go (bounds_fit lo.value hi.value) refl e
  where
    go : (b : Bool) → bounds_fit lo.value hi.value ≡ b → ended (in_line (cond b (Ok (lo.value, hi.value)) (Err (record { spot = hi.spot; stop = stop.Bounds 0 })))) s ≡ Ok m → (((lo.value, hi.value), s) ≡ m) × (bounds_fit lo.value hi.value ≡ true)
    go true q e = (cc, q)
    go false q e = absurd cc

high_takes : (lo : Numeral) (r : Reading) (m : (ℤ × ℤ) × Reading) → high_in lo r ≡ Ok m
    → (r.rest ≡ codes "(hi " ++ (signed_decimal m.0.1 ++ (codes ")" ++ m.1.rest))) × ((m.0.0 ≡ lo.value) × (bounds_fit m.0.0 m.0.1 ≡ true))
high_takes lo r m e =
    let g = λ (v : ℤ × ℤ) (t : Reading). then (expects (codes ")") t) (λ _ u. Ok (v, u)) in
    let f = λ (hi : Numeral) (t : Reading). then (ended (in_line (pair_of lo hi)) t) g in
    let a = then_ok (starts (codes "hi") r) (λ _ s. then (number_in s) f) m e in
    let b = then_ok (number_in a.0.1) f m a.1.1 in
    let d = then_ok (ended (in_line (pair_of lo b.0.0)) b.0.1) g m b.1.1 in
    let x = then_ok (expects (codes ")") d.0.1) (λ _ u. Ok (d.0.0, u)) m d.1.1 in
    let p = paired lo b.0.0 b.0.1 d.0 d.1.0 in
    let i : (d.0.0, x.0.1) ≡ m = cc in
    let whole = starts_takes (codes "hi") r a.0 a.1.0 ∙ ap (λ t. codes "(hi " ++ t) (number_takes a.0.1 b.0 b.1.0 ∙ ap (λ z. signed_decimal z.0.1 ++ z.1.rest) p.0 ∙ ap (λ t. signed_decimal d.0.0.1 ++ t) (expects_takes (codes ")") d.0.1 x.0 x.1.0))
    ∙ ap (λ z. codes "(hi " ++ (signed_decimal z.0.1 ++ (codes ")" ++ z.1.rest))) i in
    let v : (lo.value, b.0.0.value) ≡ m.0 = ap (λ z. z.0) p.0 ∙ ap (λ z. z.0) i in
    (whole, (sym (ap (λ z. z.0) v), subst (λ z. bounds_fit z.0 z.1 ≡ true) v p.1))

pub bounds_takes : (r : Reading) (m : (ℤ × ℤ) × Reading) → bounds_in r ≡ Ok m
    → (r.rest ≡ codes "(lo " ++ (signed_decimal m.0.0 ++ (codes ") (hi " ++ (signed_decimal m.0.1 ++ (codes ")" ++ m.1.rest))))) × (bounds_fit m.0.0 m.0.1 ≡ true)
bounds_takes r m e =
    let f = λ (lo : Numeral) (s : Reading). then (expects (codes " ") s) (λ _ t. high_in lo t) in
    let a = then_ok (low_in r) f m e in
    let b = then_ok (expects (codes " ") a.0.1) (λ _ t. high_in a.0.0 t) m a.1.1 in
    let h = high_takes a.0.0 b.0.1 m b.1.1 in
    (low_takes r a.0 a.1.0 ∙ ap₂ (λ v t. codes "(lo " ++ (signed_decimal v ++ (codes ")" ++ t))) (sym h.1.0) (expects_takes (codes " ") a.0.1 b.0 b.1.0 ∙ ap (λ t. codes " " ++ t) h.0), h.1.1)
