-- Lock-outs of a pile: which one a number names after another was changed, and when an arc is out at some.
use Rattle.std.proofs.Common.{◌≡◌, ℕ, suc, ◌≤◌, Bool, true, false, cond, eqb, List, [], ◌∷◌, length, Some, sym, refl, ap, ◌∙◌, arith}
use Rattle.std.specs.Option.{option_map}
use Rattle.std.proofs.lemmas.Bool.{cond-true, cond-false, eqb-true, eq-eqb, ne_eqb, false≢true}
use Rattle.networks.specs.Nets.{Lock, out_at, is_out, lock_at, with_lock}
use Rattle.networks.proofs.Back.{length_with}
use Rattle.runs.specs.States.{out_of}

-- the lock-out that was changed
pub with_same : (os : List Lock) (l : ℕ) (f : Lock → Lock) → lock_at (with_lock os l f) l ≡ option_map f (lock_at os l)
with_same [] l f = refl
with_same (o ∷ os) l f = go (with_same os l f) (eqb l (suc (length os))) refl
  where
    go : lock_at (with_lock os l f) l ≡ option_map f (lock_at os l) → (b : Bool) → eqb l (suc (length os)) ≡ b → lock_at (cond b (f o ∷ os) (o ∷ with_lock os l f)) l ≡ option_map f (cond b (Some o) (lock_at os l))
    go more true q = cond-true _ _ _ q
    go more false q = cond-false _ _ _ (ap (λ m. eqb l (suc m)) (length_with os l f) ∙ q) ∙ more

-- any other
pub with_other : (os : List Lock) (l k : ℕ) (f : Lock → Lock) → (k ≡ l → ⊥) → lock_at (with_lock os l f) k ≡ lock_at os k
with_other [] l k f ne = refl
with_other (o ∷ os) l k f ne = go (with_other os l k f ne) (eqb l (suc (length os))) refl
  where
    inner : lock_at (with_lock os l f) k ≡ lock_at os k → (c : Bool) → eqb k (suc (length os)) ≡ c → lock_at (o ∷ with_lock os l f) k ≡ cond c (Some o) (lock_at os k)
    inner more true q = cond-true _ _ _ (ap (λ m. eqb k (suc m)) (length_with os l f) ∙ q)
    inner more false q = cond-false _ _ _ (ap (λ m. eqb k (suc m)) (length_with os l f) ∙ q) ∙ more

    go : lock_at (with_lock os l f) k ≡ lock_at os k → (b : Bool) → eqb l (suc (length os)) ≡ b → lock_at (cond b (f o ∷ os) (o ∷ with_lock os l f)) k ≡ cond (eqb k (suc (length os))) (Some o) (lock_at os k)
    go more true q =
        let off : eqb k (suc (length os)) ≡ false = ne_eqb k (suc (length os)) (λ e. ne (e ∙ sym (eqb-true l (suc (length os)) q))) in
        cond-false _ _ _ off ∙ sym (cond-false _ _ _ off)
    go more false q = inner more (eqb k (suc (length os))) refl

-- what is out at a lock-out that a number names
pub lock_small : (os : List Lock) (l a : ℕ) → out_of (lock_at os l) a ≡ true → l ≤ length os
lock_small [] l a h = absurd cc
lock_small (o ∷ os) l a h = go (lock_small os l a) (eqb l (suc (length os))) refl h
  where
    go : (out_of (lock_at os l) a ≡ true → l ≤ length os) → (b : Bool) → eqb l (suc (length os)) ≡ b → out_of (cond b (Some o) (lock_at os l)) a ≡ true → l ≤ suc (length os)
    go more true q h = let e = eqb-true l (suc (length os)) q in omega arith
    go more false q h = let m = more h in omega arith

-- out at one is out at some
pub some_out : (os : List Lock) (l a : ℕ) → out_of (lock_at os l) a ≡ true → is_out os a ≡ true
some_out [] l a h = absurd cc
some_out (o ∷ os) l a h = go (some_out os l a) (eqb l (suc (length os))) h
  where
    later : (c : Bool) → is_out os a ≡ true → cond c true (is_out os a) ≡ true
    later true e = refl
    later false e = e

    go : (out_of (lock_at os l) a ≡ true → is_out os a ≡ true) → (b : Bool) → out_of (cond b (Some o) (lock_at os l)) a ≡ true → cond (out_at o a) true (is_out os a) ≡ true
    go more true h = cond-true _ _ _ h
    go more false h = later (out_at o a) (more h)

-- out at some is out at one
pub out_some : (os : List Lock) (a : ℕ) → is_out os a ≡ true → (l : ℕ) × (out_of (lock_at os l) a ≡ true)
out_some [] a h = absurd cc
out_some (o ∷ os) a h = go (out_some os a) (out_at o a) refl h
  where
    go : (is_out os a ≡ true → (l : ℕ) × (out_of (lock_at os l) a ≡ true)) → (b : Bool) → out_at o a ≡ b → cond b true (is_out os a) ≡ true → (l : ℕ) × (out_of (lock_at (o ∷ os) l) a ≡ true)
    go more true q h = (suc (length os), ap (λ x. out_of x a) (cond-true _ _ _ (eq-eqb (suc (length os)) (suc (length os)) refl)) ∙ q)
    go more false q h =
        let r = more h in
        let small = lock_small os r.0 a r.1 in
        (r.0, ap (λ x. out_of x a) (cond-false _ _ _ (ne_eqb r.0 (suc (length os)) (λ e. omega arith))) ∙ r.1)

pub nowhere_out : (os : List Lock) (a : ℕ) → ((l : ℕ) → out_of (lock_at os l) a ≡ false) → is_out os a ≡ false
nowhere_out os a none = go (is_out os a) refl
  where
    go : (b : Bool) → is_out os a ≡ b → b ≡ false
    go true e = let r = out_some os a e in absurd (false≢true (sym (none r.0) ∙ r.1))
    go false e = refl
