-- An arc that was taken out can be handed back at once, and the network is then as it was.
use Rattle.std.proofs.Common.{◌≡◌, ℕ, suc, ◌<◌, ◌≤◌, Bool, true, false, cond, eqb, List, [], ◌∷◌, length, set, Some, None, Ok, Err, Option, Result, sym, refl, ap, ◌∙◌, arith}
use Rattle.std.proofs.lemmas.List.{length-set, set-set, set-get_or}
use Rattle.std.proofs.lemmas.Bool.{cond-true, cond-false, lt-ltb, ltb-true, ltb-false}
use Rattle.networks.specs.declared.stops.Stop.{Stop}
use Rattle.networks.specs.declared.tags.Tag.{Tag}
use Rattle.networks.specs.Answers.{Told, answer, answer_back, returned, unless}
use Rattle.networks.specs.Nets.{Lock, Net, place, has, lacks, out_at, lock_at, with_lock, relocked, line_stop, take_out_stop, relined, taken, back_stop, hand_back_stop, handed_back}
use Rattle.networks.proofs.Places.{place_at, place_written}

-- ---- at the lock-out itself

free : (p q r : Bool) (s t u : Told) → cond p (Some s) (cond q (Some t) (cond r None (Some u))) ≡ None → (p ≡ false) × (q ≡ false) × (r ≡ true)
free true q r s t u e = cc
free false true r s t u e = cc
free false false false s t u e = cc
free false false true s t u e = (refl, refl, refl)

here : (o : Lock) (a : ℕ) → line_stop a (Some o) ≡ None → (out_at (relined 0 a o) a ≡ true) × (relined a 0 (relined 0 a o) ≡ o)
here o a e =
    let xs = o.lines in
    let k = place 0 xs in
    let f = free (lacks o a) (has a xs) (has 0 xs) (8, a) (9, a) (11, 0) e in
    let nowhere : length xs ≤ place a xs = ltb-false _ _ f.1 in
    let room : k < length xs = ltb-true _ _ f.2 in
    let at : place a (set xs k a) ≡ k = place_written a xs nowhere room in
    let long = length-set xs k a in (
      cond-false _ _ _ f.0 ∙ lt-ltb (place a (set xs k a)) (length (set xs k a)) (omega (arith, long)),
      ap (λ (ys : List ℕ). record { over = o.over; lines = ys }) (ap (λ i. set (set xs k a) i 0) at ∙ set-set xs k a 0 ∙ ap (set xs k) (sym (place_at 0 xs room)) ∙ set-get_or xs k 0),
    )

-- ---- at one lock-out of a pile

pub length_with : (os : List Lock) (l : ℕ) (f : Lock → Lock) → length (with_lock os l f) ≡ length os
length_with [] l f = refl
length_with (o ∷ os) l f = go (eqb l (suc (length os))) (length_with os l f)
  where
    go : (b : Bool) → length (with_lock os l f) ≡ length os → length (cond b (f o ∷ os) (o ∷ with_lock os l f)) ≡ suc (length os)
    go true more = refl
    go false more = ap suc more

abbrev Undone : List Lock → ℕ → ℕ → List Lock → Type 0
Undone after l a before = (back_stop a (lock_at after l) ≡ None) × (with_lock after l (relined a 0) ≡ before)

back : (os : List Lock) (l a : ℕ) → line_stop a (lock_at os l) ≡ None → Undone (with_lock os l (relined 0 a)) l a os
back [] l a e = cc
back (o ∷ os) l a e = go (eqb l (suc (length os))) refl (back os l a) e
  where
    go : (b : Bool) → eqb l (suc (length os)) ≡ b → (line_stop a (lock_at os l) ≡ None → Undone (with_lock os l (relined 0 a)) l a os) → line_stop a (cond b (Some o) (lock_at os l)) ≡ None → Undone (cond b (relined 0 a o ∷ os) (o ∷ with_lock os l (relined 0 a))) l a (o ∷ os)
    go true q more s =
        let h = here o a s in
        (ap (back_stop a) (cond-true _ _ _ q) ∙ cond-true _ _ _ h.0, cond-true _ _ _ q ∙ ap (λ p. p ∷ os) h.1)
    go false q more s =
        let h = more s in
        let same = ap (λ m. eqb l (suc m)) (length_with os l (relined 0 a)) ∙ q in
        (ap (back_stop a) (cond-false _ _ _ same) ∙ h.0, cond-false _ _ _ same ∙ ap (λ ps. o ∷ ps) h.1)

-- ---- of a whole network

module _ {C : Type 0} (n : Net C) (l a : ℕ) (e : take_out_stop n l a ≡ None) where
  abbrev out : Net C
  out = relocked n l (relined 0 a)

  out_is : taken n l a ≡ out
  out_is = ap (λ s. unless s n out) e

  accepted : hand_back_stop (taken n l a) l a ≡ None
  accepted = ap (λ m. hand_back_stop m l a) out_is ∙ (back n.locks l a e).0

  restored : handed_back (taken n l a) l a ≡ n
  restored = ap (λ m. handed_back m l a) out_is ∙ ap (λ s. unless s out (relocked out l (relined a 0))) (back n.locks l a e).0 ∙ ap (λ (os : List Lock). record { nodes = n.nodes; arcs = n.arcs; locks = os }) (back n.locks l a e).1

-- what a tag says of the call that gave it
granted : (s : Option Told) (x a : ℕ) → Ok x ≡ answer s a → (s ≡ None) × (x ≡ a)
granted None x a h = (refl, cc)
granted (Some s) x a h = cc

-- where it was refused, all is as it was
pub stopped : {C : Type 0} (n m : Net C) (l a : ℕ) (s : Told) → Err s ≡ answer (take_out_stop n l a) a → m ≡ taken n l a → (Some s ≡ take_out_stop n l a) × (m ≡ n)
stopped n m l a s h after =
    let e = go (take_out_stop n l a) h in
    (e, after ∙ sym (ap (λ o. unless o n (relocked n l (relined 0 a))) e))
  where
    go : (o : Option Told) → Err s ≡ answer o a → Some s ≡ o
    go None q = cc
    go (Some t) q = cc

-- n before the take-out, m after it, and k after the hand-back
module _ {C : Type 0} (n m : Net C) (l a : ℕ) (t : Tag) (given : Ok t.arc ≡ answer (take_out_stop n l a) a) (after : m ≡ taken n l a) where
  pub as_before : (k : Net C) → k ≡ handed_back m l t.arc → (None ≡ take_out_stop n l a) × (k ≡ n)
  as_before k h =
      let g = granted (take_out_stop n l a) t.arc a given in
      (sym g.0, h ∙ ap (λ p. handed_back p l t.arc) after ∙ ap (handed_back (taken n l a) l) g.1 ∙ restored n l a g.0)

  -- the hand-back is granted
  pub handed : (r : Result (Unit {0}) (Stop × Tag)) → returned r ≡ answer_back (hand_back_stop m l t.arc) t → r ≡ Ok tt
  handed r h =
      let g = granted (take_out_stop n l a) t.arc a given in
      let none : hand_back_stop m l t.arc ≡ None = ap (λ p. hand_back_stop p l t.arc) after ∙ ap (hand_back_stop (taken n l a) l) g.1 ∙ accepted n l a g.0 in
      go r (h ∙ ap (λ o. answer_back o t) none)
    where
      go : (x : Result (Unit {0}) (Stop × Tag)) → returned x ≡ Ok tt → x ≡ Ok tt
      go (Ok u) e = refl
      go (Err e) q = cc
