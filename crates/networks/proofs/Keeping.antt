-- The places of a ring of tags.
use Rattle.std.proofs.Common.{◌≡◌, ℕ, suc, ◌+◌, ◌<◌, Bool, true, false, cond, [], ◌∷◌, length, get_or, set, Some, None, Err, Option, sym, refl, ap, ap₂, ◌∙◌, arith}
use Rattle.std.specs.List.{position_or_len}
use Rattle.std.proofs.lemmas.List.{set-set, set-get_or}
use Rattle.std.proofs.lemmas.List.Recursion.{is_position_or_len}
use Rattle.std.proofs.lemmas.Bool.{eqb-true, ltb-true, cond-true}
use Rattle.networks.specs.declared.tags.Tag.{Tag}
use Rattle.networks.specs.Answers.{Told, answer_back, unless}
use Rattle.networks.specs.Rings.{Places, tag_of, is_free, holds, first_place, any_place, found_place, keeps, without_tag, given_out, given_out_answer}

-- ---- the first place that is so

module _ (so : Option Tag → Bool) where
  pub is_first : (xs : Places) → first_place so xs ≡ position_or_len so xs
  is_first xs = is_position_or_len (first_place so) so refl (λ y ys. let e : suc (first_place so ys) ≡ 1 + first_place so ys = omega arith in ap (cond (so y) 0) e) xs

  pub so_there : (xs : Places) (d : Option Tag) → first_place so xs < length xs → so (get_or xs (first_place so xs) d) ≡ true
  so_there [] d h = absurd (omega arith)
  so_there (x ∷ xs) d h = go (so_there xs d) (so x) refl h
    where
      go : (first_place so xs < length xs → so (get_or xs (first_place so xs) d) ≡ true) → (b : Bool) → so x ≡ b → cond b 0 (suc (first_place so xs)) < suc (length xs) → so (get_or (x ∷ xs) (cond b 0 (suc (first_place so xs))) d) ≡ true
      go more true e h = e
      go more false e h = more (omega arith)

  -- a place was found
  pub found : (xs : Places) (i : ℕ) → Some i ≡ found_place so xs → (any_place so xs ≡ true) × (i ≡ first_place so xs) × (first_place so xs < length xs)
  found xs i e = go (any_place so xs) refl e
    where
      go : (b : Bool) → any_place so xs ≡ b → Some i ≡ cond b (Some (first_place so xs)) None → (b ≡ true) × (i ≡ first_place so xs) × (first_place so xs < length xs)
      go true q h = (refl, cc, ltb-true _ _ q)
      go false q h = cc

  pub absent : (xs : Places) → None ≡ found_place so xs → any_place so xs ≡ false
  absent xs e = go (any_place so xs) e
    where
      go : (b : Bool) → None ≡ cond {A = Option ℕ} b (Some (first_place so xs)) None → b ≡ false
      go true h = cc
      go false h = refl

-- ---- what stands in a place that is so

pub free_is : (p : Option Tag) → is_free p ≡ true → p ≡ None
free_is None e = refl
free_is (Some t) e = cc

pub held_is : (a : ℕ) (p : Option Tag) → holds a p ≡ true → p ≡ Some (tag_of a)
held_is a None e = cc
held_is a (Some t) e = ap (λ n. Some (tag_of n)) (eqb-true t.arc a e)

pub free_there : (xs : Places) (i : ℕ) (d : Option Tag) → Some i ≡ found_place is_free xs → get_or xs i d ≡ None
free_there xs i d e = let f = found is_free xs i e in ap (λ k. get_or xs k d) f.1 ∙ free_is _ (so_there is_free xs d f.2)

pub held_there : (a : ℕ) (xs : Places) (i : ℕ) (d : Option Tag) → Some i ≡ found_place (holds a) xs → get_or xs i d ≡ Some (tag_of a)
held_there a xs i d e = let f = found (holds a) xs i e in ap (λ k. get_or xs k d) f.1 ∙ held_is a _ (so_there (holds a) xs d f.2)

-- ---- a tag that was given out and comes back

given_tag : (xs : Places) (a : ℕ) (t : Tag) → Some t ≡ given_out_answer xs a → (keeps xs a ≡ true) × (t ≡ tag_of a)
given_tag xs a t e = go (keeps xs a) e
  where
    go : (b : Bool) → Some t ≡ cond b (Some (tag_of a)) None → (b ≡ true) × (t ≡ tag_of a)
    go true h = (refl, cc)
    go false h = cc

refused_back : (s : Option Told) (t u : Tag) (x : Told) → Err (x, u) ≡ answer_back s t → (s ≡ Some x) × (u ≡ t)
refused_back None t u x e = absurd cc
refused_back (Some y) t u x e = let h : ◌≡◌ {A = Told × Tag} (x, u) (y, t) = cc in (sym (ap (λ p. Some p.0) h), ap (λ p. p.1) h)

back_in : (xs : Places) (a i : ℕ) → Some i ≡ found_place (holds a) xs → set (given_out xs a) i (Some (tag_of a)) ≡ xs
back_in xs a i e =
    let f = found (holds a) xs i e in
    let k = first_place (holds a) xs in
    ap₂ (λ ys j. set ys j (Some (tag_of a))) (cond-true (keeps xs a) (without_tag xs a) xs f.0) f.1
    ∙ set-set xs k None (Some (tag_of a))
    ∙ ap (set xs k) (sym (held_is a (get_or xs k None) (so_there (holds a) xs None f.2)))
    ∙ set-get_or xs k None

-- the ring is as it was; S is why a hand-back of an arc is refused
pub as_it_was : (S : ℕ → Option Told) (xs ys : Places) (a i : ℕ) (t u : Tag) (x : Told) → Some i ≡ found_place (holds a) xs → Some t ≡ given_out_answer xs a → ys ≡ given_out xs a → Err (x, u) ≡ answer_back (S t.arc) t →
    set ys i (Some u) ≡ cond (keeps xs a) (unless (S a) xs (without_tag xs a)) xs
as_it_was S xs ys a i t u x at given left refused =
    let g = given_tag xs a t given in
    let r = refused_back (S t.arc) t u x refused in
    let stop : S a ≡ Some x = sym (ap (λ (z : Tag). S z.arc) g.1) ∙ r.0 in
    ap₂ (λ zs (z : Tag). set zs i (Some z)) left (r.1 ∙ g.1)
    ∙ back_in xs a i at
    ∙ sym (cond-true (keeps xs a) (unless (S a) xs (without_tag xs a)) xs g.0 ∙ ap (λ s. unless s xs (without_tag xs a)) stop)
