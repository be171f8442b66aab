-- Which arcs are out at a lock-out after a take-out and after a hand-back.
use Rattle.std.proofs.Common.{◌≡◌, ℕ, zero, suc, ◌<◌, ◌≤◌, Bool, true, false, cond, eqb, ltb, ◌⊎◌, List, [], ◌∷◌, length, get_or, set, Some, None, sym, refl, ap, ◌∙◌, subst, inl, inr, ⊎_elim, arith}
use Rattle.std.proofs.lemmas.List.{length-set, get_or-set_same, get_or-set_other}
use Rattle.std.proofs.lemmas.Bool.{cond-true, cond-false, eqb-false, eq-eqb, lt-ltb, ltb-true, or_parts, cases_eq, true≢false}
use Rattle.networks.specs.Answers.{Told}
use Rattle.networks.specs.Nets.{Lock, place, has, lacks, out_at, relined, line_stop}
use Rattle.networks.proofs.Places.{place_at}

-- b stands in the list
abbrev pub Holds : List ℕ → ℕ → Type 0
Holds xs b = (i : ℕ) × ((i < length xs) × (get_or xs i 0 ≡ b))

place_first : (b : ℕ) (xs : List ℕ) (i : ℕ) → i < length xs → get_or xs i 0 ≡ b → place b xs ≤ i
place_first b [] i h e = absurd (omega arith)
place_first b (y ∷ ys) zero h e = let t = cond-true (eqb y b) 0 (suc (place b ys)) (eq-eqb y b e) in omega (arith, t)
place_first b (y ∷ ys) (suc i) h e = go (eqb y b) (place_first b ys i (omega arith) e)
  where
    go : (t : Bool) → place b ys ≤ i → cond t 0 (suc (place b ys)) ≤ suc i
    go true l = omega arith
    go false l = omega arith

has_holds : (b : ℕ) (xs : List ℕ) → has b xs ≡ true → Holds xs b
has_holds b xs h = let l : place b xs < length xs = ltb-true _ _ h in (place b xs, (l, place_at b xs l))

pub holds_has : (b : ℕ) (xs : List ℕ) → Holds xs b → has b xs ≡ true
holds_has b xs (i, (h, e)) = let l = place_first b xs i h e in lt-ltb (place b xs) (length xs) (omega arith)

-- the number names an arc that the lock-out stands over
abbrev Names : Lock → ℕ → Type 0
Names o b = lacks o b ≡ false

out_is : (o : Lock) (b : ℕ) → out_at o b ≡ true → Names o b × Holds o.lines b
out_is o b h = let p = go (lacks o b) (has b o.lines) h in (p.0, has_holds b o.lines p.1)
  where
    go : (g t : Bool) → cond g false t ≡ true → (g ≡ false) × (t ≡ true)
    go true t e = absurd cc
    go false t e = (refl, e)

is_out : (o : Lock) (b : ℕ) → Names o b → Holds o.lines b → out_at o b ≡ true
is_out o b g h = cond-false _ _ _ g ∙ holds_has b o.lines h

not_zero : (o : Lock) (b : ℕ) → Names o b → b ≡ 0 → ⊥
not_zero o b g = eqb-false b 0 (or_parts (eqb b 0) (ltb o.over b) g).0

-- no arc that is out stands on two lines
abbrev pub Once : Lock → Type 0
Once o = (i j : ℕ) → i < length o.lines → j < length o.lines → get_or o.lines i 0 ≡ get_or o.lines j 0 → out_at o (get_or o.lines i 0) ≡ true → i ≡ j

-- what a list holds after a write at k
written : (xs : List ℕ) (k v i b : ℕ) → k < length xs → i < length (set xs k v) → get_or (set xs k v) i 0 ≡ b → (v ≡ b) ⊎ ((i ≡ k → ⊥) × ((i < length xs) × (get_or xs i 0 ≡ b)))
written xs k v i b l h e =
    let long = length-set xs k v in
    ⊎_elim
    (λ (q : i ≡ k). inl (sym (get_or-set_same xs k v 0 l) ∙ ap (λ j. get_or (set xs k v) j 0) (sym q) ∙ e))
    (λ (q : i ≡ k → ⊥). inr (q, (omega (arith, long), sym (get_or-set_other xs k i v 0 q) ∙ e))) (cases_eq i k)

kept : (xs : List ℕ) (k v i b : ℕ) → (i ≡ k → ⊥) → i < length xs → get_or xs i 0 ≡ b → Holds (set xs k v) b
kept xs k v i b q h e = let long = length-set xs k v in (i, (omega (arith, long), get_or-set_other xs k i v 0 q ∙ e))

-- ---- a take-out that is granted

pub free : (p q r : Bool) (s t u : Told) → cond p (Some s) (cond q (Some t) (cond r None (Some u))) ≡ None → (p ≡ false) × (q ≡ false) × (r ≡ true)
free true q r s t u e = absurd cc
free false true r s t u e = absurd cc
free false false false s t u e = absurd cc
free false false true s t u e = (refl, refl, refl)

module _ (o : Lock) (a : ℕ) (ok : line_stop a (Some o) ≡ None) where
  xs : List ℕ
  xs = o.lines

  k : ℕ
  k = place 0 o.lines

  over : Names o a
  over = (free (lacks o a) (has a o.lines) (has 0 o.lines) (8, a) (9, a) (11, 0) ok).0

  nowhere : Holds o.lines a → ⊥
  nowhere h =
      let no = (free (lacks o a) (has a o.lines) (has 0 o.lines) (8, a) (9, a) (11, 0) ok).1 in
      let yes = holds_has a o.lines h in
      true≢false (sym yes ∙ no)

  room : place 0 o.lines < length o.lines
  room = ltb-true _ _ (free (lacks o a) (has a o.lines) (has 0 o.lines) (8, a) (9, a) (11, 0) ok).2

  empty : get_or o.lines (place 0 o.lines) 0 ≡ 0
  empty = place_at 0 o.lines room

  pub taken_out : (b : ℕ) → out_at (relined 0 a o) b ≡ true → (b ≡ a) ⊎ (out_at o b ≡ true)
  taken_out b h =
      let p = out_is (relined 0 a o) b h in
      ⊎_elim (λ (e : a ≡ b). inl (sym e)) (λ w. inr (is_out o b p.0 (p.1.0, w.1)))
      (written o.lines (place 0 o.lines) a p.1.0 b room p.1.1.0 p.1.1.1)

  pub out_taken : (b : ℕ) → (b ≡ a) ⊎ (out_at o b ≡ true) → out_at (relined 0 a o) b ≡ true
  out_taken b (inl e) =
      let long = length-set o.lines (place 0 o.lines) a in
      subst (λ c. out_at (relined 0 a o) c ≡ true) (sym e)
      (is_out (relined 0 a o) a over (place 0 o.lines, (omega (arith, room, long), get_or-set_same o.lines (place 0 o.lines) a 0 room)))
  out_taken b (inr h) =
      let p = out_is o b h in
      let i = p.1.0 in
      let ne : i ≡ place 0 o.lines → ⊥ = λ e. not_zero o b p.0 (sym p.1.1.1 ∙ ap (λ j. get_or o.lines j 0) e ∙ empty) in
      is_out (relined 0 a o) b p.0 (kept o.lines (place 0 o.lines) a i b ne p.1.1.0 p.1.1.1)

  pub once_taken : Once o → Once (relined 0 a o)
  once_taken once i j hi hj same out =
      let ys = set o.lines (place 0 o.lines) a in
      let v = get_or ys i 0 in
      let p = out_is (relined 0 a o) v out in
      ⊎_elim
      (λ (q : i ≡ place 0 o.lines). ⊎_elim (λ (r : j ≡ place 0 o.lines). q ∙ sym r)
      (λ (r : j ≡ place 0 o.lines → ⊥). absurd (nowhere (j, (omega (arith, hj, length-set o.lines (place 0 o.lines) a), sym (get_or-set_other o.lines (place 0 o.lines) j a 0 r) ∙ sym same ∙ ap (λ m. get_or ys m 0) q ∙ get_or-set_same o.lines (place 0 o.lines) a 0 room))))
      (cases_eq j (place 0 o.lines)))
      (λ (q : i ≡ place 0 o.lines → ⊥). ⊎_elim
      (λ (r : j ≡ place 0 o.lines). absurd (nowhere (i, (omega (arith, hi, length-set o.lines (place 0 o.lines) a), sym (get_or-set_other o.lines (place 0 o.lines) i a 0 q) ∙ same ∙ ap (λ m. get_or ys m 0) r ∙ get_or-set_same o.lines (place 0 o.lines) a 0 room))))
      (λ (r : j ≡ place 0 o.lines → ⊥).
      let ei = get_or-set_other o.lines (place 0 o.lines) i a 0 q in
      let ej = get_or-set_other o.lines (place 0 o.lines) j a 0 r in
      let li : i < length o.lines = omega (arith, hi, length-set o.lines (place 0 o.lines) a) in
      once i j li (omega (arith, hj, length-set o.lines (place 0 o.lines) a)) (sym ei ∙ same ∙ ej)
      (is_out o (get_or o.lines i 0) (subst (λ c. Names o c) ei p.0) (i, (li, refl))))
      (cases_eq j (place 0 o.lines))) (cases_eq i (place 0 o.lines))

-- ---- a hand-back that is granted

module _ (o : Lock) (a : ℕ) (ok : out_at o a ≡ true) where
  at : place a o.lines < length o.lines
  at = let p = out_is o a ok in ltb-true _ _ (holds_has a o.lines p.1)

  stands : get_or o.lines (place a o.lines) 0 ≡ a
  stands = place_at a o.lines at

  pub handed_out : Once o → (b : ℕ) → out_at (relined a 0 o) b ≡ true → (b ≡ a → ⊥) × (out_at o b ≡ true)
  handed_out once b h =
      let p = out_is (relined a 0 o) b h in
      let i = p.1.0 in
      ⊎_elim (λ (e : 0 ≡ b). absurd (not_zero o b p.0 (sym e)))
      (λ w. (
        (λ (e : b ≡ a). w.0 (once i (place a o.lines) w.1.0 at (w.1.1 ∙ e ∙ sym stands) (subst (λ c. out_at o c ≡ true) (sym (w.1.1 ∙ e)) ok))),
        is_out o b p.0 (i, w.1),
      ))
      (written o.lines (place a o.lines) 0 i b at p.1.1.0 p.1.1.1)

  pub out_handed : (b : ℕ) → (b ≡ a → ⊥) → out_at o b ≡ true → out_at (relined a 0 o) b ≡ true
  out_handed b ne h =
      let p = out_is o b h in
      let i = p.1.0 in
      let q : i ≡ place a o.lines → ⊥ = λ e. ne (sym p.1.1.1 ∙ ap (λ j. get_or o.lines j 0) e ∙ stands) in
      is_out (relined a 0 o) b p.0 (kept o.lines (place a o.lines) 0 i b q p.1.1.0 p.1.1.1)

  pub once_handed : Once o → Once (relined a 0 o)
  once_handed once i j hi hj same out =
      let ys = set o.lines (place a o.lines) 0 in
      let long = length-set o.lines (place a o.lines) 0 in
      let p = out_is (relined a 0 o) (get_or ys i 0) out in
      let ne : (m : ℕ) → get_or ys m 0 ≡ get_or ys i 0 → m ≡ place a o.lines → ⊥
      = λ m s q. not_zero o (get_or ys i 0) p.0 (sym s ∙ ap (λ l. get_or ys l 0) q ∙ get_or-set_same o.lines (place a o.lines) 0 0 at) in
      let ei = get_or-set_other o.lines (place a o.lines) i 0 0 (ne i refl) in
      let ej = get_or-set_other o.lines (place a o.lines) j 0 0 (ne j (sym same)) in
      let li : i < length o.lines = omega (arith, hi, long) in
      once i j li (omega (arith, hj, long)) (sym ei ∙ same ∙ ej) (is_out o (get_or o.lines i 0) (subst (λ c. Names o c) ei p.0) (i, (li, refl)))
