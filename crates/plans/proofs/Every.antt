-- Where the ring keeps a tag of each arc that is out, and has a place for each line, no call is short of tags.
use Rattle.std.proofs.Common.{◌≡◌, ℕ, suc, ◌+◌, ◌<◌, ◌≤◌, min, Bool, true, false, cond, ◌||◌, eqb, ltb, List, [], ◌∷◌, length, get_or, set, take, ℤ, Some, None, Ok, Err, Option, Result, sym, refl, ap, ◌∙◌, subst, subst₂, ⊎_elim, arith}
use Rattle.std.specs.List.{sum_by}
use Rattle.std.proofs.lemmas.List.{length-set, get_or_default}
use Rattle.std.proofs.lemmas.List.Sums.{sum_by-cons, sum_by-set, get_or-le-sum_by}
use Rattle.std.proofs.lemmas.Bool.{cond-true, cond-false, eq-eqb, ltb-true, ltb-false, ne_eqb, cases_lt, false≢true}
use Rattle.costs.specs.Kinds.{Kind}
use Rattle.networks.specs.declared.stops.Stop.{Stop}
use Rattle.networks.specs.declared.tags.Tag.{Tag}
use Rattle.networks.specs.Answers.{Told, unless}
use Rattle.networks.specs.Nets.{Lock, Net, place, has, lacks, out_at, lock_at, with_lock, relocked, line_stop, take_out_stop, relined, taken, back_stop, hand_back_stop, handed_back}
use Rattle.networks.specs.Rings.{Places, tag_of, is_free, holds, first_place, free_of_tags, has_room, keeps, with_tag, without_tag}
use Rattle.networks.proofs.Places.{place_at}
use Rattle.networks.proofs.Numbered.{item_at}
use Rattle.networks.proofs.Keeping.{so_there, free_is, held_is}
use Rattle.runs.specs.declared.calls.Call.{Call}
use Rattle.runs.specs.declared.calls.Outcome.{Outcome}
use Rattle.runs.specs.States.{State, out_of, opened}
use Rattle.runs.specs.Events.{Asked, settle, rebound, recost, take_out, hand_back, take_up, Came, is_granted, Event, event, asked, events}
use Rattle.runs.specs.Steps.{stop_of, Grants, Step, Steps}
use Rattle.runs.proofs.Lines.{Holds, holds_has, free}
use Rattle.runs.proofs.Locks.{lock_small}
use Rattle.runs.proofs.Effects.{lock_there}
use Rattle.plans.specs.Lists.{ShortOfTags, retagged, ring_after, MakesAll, Runs, lines_of, EveryCallMade}

-- ---- sums over the tags that are kept, and over the lines whose arcs are out

abbrev tag_weight : (ℕ → ℕ) → Option Tag → ℕ
tag_weight f None = 0
tag_weight f (Some t) = f t.arc

abbrev line_weight : (ℕ → ℕ) → ℕ → ℕ → ℕ
line_weight f over x = cond (eqb x 0 || ltb over x) 0 (f x)

abbrev kept_weight : (ℕ → ℕ) → Places → ℕ
kept_weight f ps = sum_by (tag_weight f) ps

abbrev lock_weight : (ℕ → ℕ) → Lock → ℕ
lock_weight f o = sum_by (line_weight f o.over) o.lines

abbrev out_weight : (ℕ → ℕ) → List Lock → ℕ
out_weight f [] = 0
out_weight f (o ∷ os) = lock_weight f o + out_weight f os

-- the tags kept are those of the arcs that are out, and there is a place for each line
pub record Matches (os : List Lock) (ps : Places) : Type 0 where
  pub same : (f : ℕ → ℕ) → kept_weight f ps ≡ out_weight f os
  pub roomy : lines_of os ≤ length ps

-- ---- a line rewritten

module _ (f : ℕ → ℕ) (x y : ℕ) where
  relined_weight : (o : Lock) → place x o.lines < length o.lines → lock_weight f (relined x y o) + line_weight f o.over x ≡ lock_weight f o + line_weight f o.over y
  relined_weight o h =
      let g = line_weight f o.over in
      ap (λ z. sum_by g (set o.lines (place x o.lines) y) + g z) (sym (place_at x o.lines h)) ∙ sum_by-set g o.lines (place x o.lines) y 0 h

  relocked_weight : (os : List Lock) (l : ℕ) (o : Lock) → lock_at os l ≡ Some o → place x o.lines < length o.lines → out_weight f (with_lock os l (relined x y)) + line_weight f o.over x ≡ out_weight f os + line_weight f o.over y
  relocked_weight [] l o e h = absurd cc
  relocked_weight (p ∷ os) l o e h = go (eqb l (suc (length os))) (λ q. relocked_weight os l o q h) e
    where
      go : (b : Bool) → (lock_at os l ≡ Some o → out_weight f (with_lock os l (relined x y)) + line_weight f o.over x ≡ out_weight f os + line_weight f o.over y) → cond b (Some p) (lock_at os l) ≡ Some o →
          out_weight f (cond b (relined x y p ∷ os) (p ∷ with_lock os l (relined x y))) + line_weight f o.over x ≡ lock_weight f p + out_weight f os + line_weight f o.over y
      go true more q =
          let s : o ≡ p = cc in
          let r = relined_weight o h in
          subst (λ z. lock_weight f (relined x y z) + out_weight f os + line_weight f o.over x ≡ lock_weight f z + out_weight f os + line_weight f o.over y) s (omega (arith, r))
      go false more q = let r = more q in omega (arith, r)

lines_same : (os : List Lock) (l x y : ℕ) → lines_of (with_lock os l (relined x y)) ≡ lines_of os
lines_same [] l x y = refl
lines_same (o ∷ os) l x y = go (eqb l (suc (length os))) (lines_same os l x y)
  where
    go : (b : Bool) → lines_of (with_lock os l (relined x y)) ≡ lines_of os → lines_of (cond b (relined x y o ∷ os) (o ∷ with_lock os l (relined x y))) ≡ length o.lines + lines_of os
    go true more = ap (λ k. k + lines_of os) (length-set o.lines (place x o.lines) y)
    go false more = ap (λ k. length o.lines + k) more

-- ---- a tag put in, and a tag taken out

with_weight : (f : ℕ → ℕ) (ps : Places) (a : ℕ) → has_room ps ≡ true → kept_weight f (with_tag ps a) ≡ kept_weight f ps + f a
with_weight f ps a room =
    let k = first_place is_free ps in
    let h : k < length ps = ltb-true _ _ room in
    let s = sum_by-set (tag_weight f) ps k (Some (tag_of a)) None h in
    let z : tag_weight f (get_or ps k None) ≡ 0 = ap (tag_weight f) (free_is _ (so_there is_free ps None h)) in
    omega (arith, s, z)

without_weight : (f : ℕ → ℕ) (ps : Places) (a : ℕ) → keeps ps a ≡ true → kept_weight f (without_tag ps a) + f a ≡ kept_weight f ps
without_weight f ps a kept =
    let k = first_place (holds a) ps in
    let h : k < length ps = ltb-true _ _ kept in
    let s = sum_by-set (tag_weight f) ps k None None h in
    let z : tag_weight f (get_or ps k None) ≡ f a = ap (tag_weight f) (held_is a _ (so_there (holds a) ps None h)) in
    omega (arith, s, z)

-- ---- a full ring, and a line that is free

abbrev one : ℕ → ℕ
one x = 1

full : (ps : Places) → length ps ≤ first_place is_free ps → kept_weight one ps ≡ length ps
full [] h = refl
full (None ∷ ps) h = absurd (omega arith)
full (Some t ∷ ps) h =
    let s = sum_by-cons (tag_weight one) (Some t) ps in
    let r = full ps (omega arith) in
    omega (arith, s, r)

at_most_one : (over x : ℕ) → line_weight one over x ≤ 1
at_most_one over x = go (eqb x 0 || ltb over x)
  where
    go : (b : Bool) → cond b 0 1 ≤ 1
    go true = omega arith
    go false = omega arith

within_length : (over : ℕ) (xs : List ℕ) → sum_by (line_weight one over) xs ≤ length xs
within_length over [] = omega arith
within_length over (x ∷ xs) =
    let s = sum_by-cons (line_weight one over) x xs in
    let r = within_length over xs in
    let w = at_most_one over x in
    omega (arith, s, r, w)

below_length : (over : ℕ) (xs : List ℕ) → place 0 xs < length xs → sum_by (line_weight one over) xs < length xs
below_length over [] h = absurd (omega arith)
below_length over (x ∷ xs) h = go (eqb x 0) refl (below_length over xs) h
  where
    go : (b : Bool) → eqb x 0 ≡ b → (place 0 xs < length xs → sum_by (line_weight one over) xs < length xs) → cond b 0 (suc (place 0 xs)) < suc (length xs) → sum_by (line_weight one over) (x ∷ xs) < suc (length xs)
    go true e more h =
        let s = sum_by-cons (line_weight one over) x xs in
        let w : line_weight one over x ≡ 0 = ap (λ b. cond (b || ltb over x) 0 1) e in
        let r = within_length over xs in
        omega (arith, s, w, r)
    go false e more h =
        let s = sum_by-cons (line_weight one over) x xs in
        let w = at_most_one over x in
        let r = more (omega arith) in
        omega (arith, s, w, r)

spare : (os : List Lock) (l : ℕ) (o : Lock) → lock_at os l ≡ Some o → place 0 o.lines < length o.lines → out_weight one os < lines_of os
spare [] l o e h = absurd cc
spare (p ∷ os) l o e h = go (eqb l (suc (length os))) (λ q. spare os l o q h) e
  where
    all_within : (os : List Lock) → out_weight one os ≤ lines_of os
    all_within [] = omega arith
    all_within (q ∷ os) = let r = all_within os in let w = within_length q.over q.lines in omega (arith, r, w)

    go : (b : Bool) → (lock_at os l ≡ Some o → out_weight one os < lines_of os) → cond b (Some p) (lock_at os l) ≡ Some o → lock_weight one p + out_weight one os < length p.lines + lines_of os
    go true more q =
        let s : o ≡ p = cc in
        let r = all_within os in
        let w = below_length o.over o.lines h in
        subst (λ z. lock_weight one z + out_weight one os < length z.lines + lines_of os) s (omega (arith, r, w))
    go false more q =
        let r = more q in
        let w = within_length p.over p.lines in
        omega (arith, r, w)

-- ---- a tag that is not kept, and an arc that is out

abbrev is_arc : ℕ → ℕ → ℕ
is_arc a x = cond (eqb x a) 1 0

not_kept : (a : ℕ) (ps : Places) → length ps ≤ first_place (holds a) ps → kept_weight (is_arc a) ps ≡ 0
not_kept a [] h = refl
not_kept a (None ∷ ps) h =
    let s = sum_by-cons (tag_weight (is_arc a)) None ps in
    let r = not_kept a ps (omega arith) in
    omega (arith, s, r)
not_kept a (Some t ∷ ps) h = sum_by-cons (tag_weight (is_arc a)) (Some t) ps ∙ go (eqb t.arc a) (not_kept a ps) h
  where
    go : (b : Bool) → (length ps ≤ first_place (holds a) ps → kept_weight (is_arc a) ps ≡ 0) → suc (length ps) ≤ cond b 0 (suc (first_place (holds a) ps)) → cond b 1 0 + kept_weight (is_arc a) ps ≡ 0
    go true more h = absurd (omega arith)
    go false more h = let r = more (omega arith) in omega (arith, r)

out_parts : (b c : Bool) → cond b false c ≡ true → (b ≡ false) × (c ≡ true)
out_parts true c e = absurd cc
out_parts false c e = (refl, e)

out_counts : (o : Lock) (a : ℕ) → out_at o a ≡ true → 1 ≤ lock_weight (is_arc a) o
out_counts o a out =
    let p = out_parts (lacks o a) (has a o.lines) out in
    let h : place a o.lines < length o.lines = ltb-true _ _ p.1 in
    let g = line_weight (is_arc a) o.over in
    let le = get_or-le-sum_by g o.lines (place a o.lines) 0 h in
    let is : g (get_or o.lines (place a o.lines) 0) ≡ 1 = ap g (place_at a o.lines h) ∙ cond-false _ _ _ p.0 ∙ cond-true _ _ _ (eq-eqb a a refl) in
    omega (arith, le, is)

some_counts : (os : List Lock) (l a : ℕ) → out_of (lock_at os l) a ≡ true → 1 ≤ out_weight (is_arc a) os
some_counts [] l a h = absurd cc
some_counts (o ∷ os) l a h = go (eqb l (suc (length os))) (some_counts os l a) h
  where
    go : (b : Bool) → (out_of (lock_at os l) a ≡ true → 1 ≤ out_weight (is_arc a) os) → out_of (cond b (Some o) (lock_at os l)) a ≡ true → 1 ≤ lock_weight (is_arc a) o + out_weight (is_arc a) os
    go true more q = let r = out_counts o a q in omega (arith, r)
    go false more q = let r = more q in omega (arith, r)

-- ---- an empty ring over lock-outs with none out

none_kept : (f : ℕ → ℕ) (ps : Places) → free_of_tags ps ≡ true → kept_weight f ps ≡ 0
none_kept f [] e = refl
none_kept f (None ∷ ps) e =
    let s = sum_by-cons (tag_weight f) None ps in
    let r = none_kept f ps e in
    omega (arith, s, r)
none_kept f (Some t ∷ ps) e = absurd cc

all_zero : (g : ℕ → ℕ) (xs : List ℕ) → ((i : ℕ) → i < length xs → g (get_or xs i 0) ≡ 0) → sum_by g xs ≡ 0
all_zero g [] z = refl
all_zero g (x ∷ xs) z =
    let s = sum_by-cons g x xs in
    let w = z 0 (omega arith) in
    let r = all_zero g xs (λ i h. z (suc i) (omega arith)) in
    omega (arith, s, w, r)

lock_empty : (f : ℕ → ℕ) (o : Lock) → ((a : ℕ) → out_at o a ≡ false) → lock_weight f o ≡ 0
lock_empty f o none = all_zero (line_weight f o.over) o.lines (λ i h. go (get_or o.lines i 0) (i, (h, refl)))
  where
    inner : (b : Bool) (x : ℕ) → lacks o x ≡ b → Holds o.lines x → cond b 0 (f x) ≡ 0
    inner true x e h = refl
    inner false x e h = absurd (false≢true (sym (none x) ∙ cond-false _ _ _ e ∙ holds_has x o.lines h))

    go : (x : ℕ) → Holds o.lines x → line_weight f o.over x ≡ 0
    go x h = inner (lacks o x) x refl h

none_out : (f : ℕ → ℕ) (os : List Lock) → ((l a : ℕ) → out_of (lock_at os l) a ≡ false) → out_weight f os ≡ 0
none_out f [] none = refl
none_out f (o ∷ os) none =
    let r = none_out f os (λ l a. below l a (out_of (lock_at os l) a) refl) in
    let w = lock_empty f o (λ a. sym (ap (λ b. out_of (cond b (Some o) (lock_at os (suc (length os)))) a) (eq-eqb (suc (length os)) (suc (length os)) refl)) ∙ none (suc (length os)) a) in
    omega (arith, r, w)
  where
    below : (l a : ℕ) (b : Bool) → out_of (lock_at os l) a ≡ b → b ≡ false
    below l a false e = refl
    below l a true e =
        let small = lock_small os l a e in
        let other : eqb l (suc (length os)) ≡ false = ne_eqb l (suc (length os)) (λ q. omega arith) in
        absurd (false≢true (sym (none l a) ∙ ap (λ b. out_of (cond b (Some o) (lock_at os l)) a) other ∙ e))

pub matches_empty : (os : List Lock) (ps : Places) → ((l a : ℕ) → out_of (lock_at os l) a ≡ false) → free_of_tags ps ≡ true → lines_of os ≤ length ps → Matches os ps
matches_empty os ps none empty roomy = record { same = λ f. none_kept f ps empty ∙ sym (none_out f os none); roomy = roomy }

-- ---- the tags suffice

module _ {C : Type 0} (n : Net C) (ps : Places) (m : Matches n.locks ps) (l a : ℕ) where
  -- there is a place for the tag of an arc that can be taken out
  place_for : (o : Lock) → lock_at n.locks l ≡ Some o → place 0 o.lines < length o.lines → has_room ps ≡ true
  place_for o is spares = go (has_room ps) refl
    where
      go : (b : Bool) → has_room ps ≡ b → b ≡ true
      go true e = refl
      go false e =
          let f = full ps (ltb-false _ _ e) in
          let s = m.same one in
          let w = spare n.locks l o is spares in
          absurd (omega (arith, f, s, w, m.roomy))

  -- the tag of an arc that is out is kept
  tag_for : out_of (lock_at n.locks l) a ≡ true → keeps ps a ≡ true
  tag_for out = go (keeps ps a) refl
    where
      go : (b : Bool) → keeps ps a ≡ b → b ≡ true
      go true e = refl
      go false e =
          let f = not_kept a ps (ltb-false _ _ e) in
          let s = m.same (is_arc a) in
          let w = some_counts n.locks l a out in
          absurd (omega (arith, f, s, w))

  -- the lock-out of a take-out that is granted
  abbrev Takes : Lock → Type 0
  Takes o = (lock_at n.locks l ≡ Some o) × ((lacks o a ≡ false) × (place 0 o.lines < length o.lines))

  taking : take_out_stop n l a ≡ None → (o : Lock) × Takes o
  taking ok =
      let t = lock_there n.locks l (λ x. line_stop a x ≡ None) (λ h. cc) ok in
      let o = t.0 in
      let f = free (lacks o a) (has a o.lines) (has 0 o.lines) (8, a) (9, a) (11, 0) t.1.1 in
      (o, (t.1.0, (f.0, ltb-true _ _ f.2)))

  take_has_room : take_out_stop n l a ≡ None → has_room ps ≡ true
  take_has_room ok = let t = taking ok in place_for t.0 t.1.0 t.1.1.1

  taken_matches : take_out_stop n l a ≡ None → Matches (taken n l a).locks (with_tag ps a)
  taken_matches ok =
      let t = taking ok in
      let o = t.0 in
      let room = take_has_room ok in
      subst (λ s. Matches (unless s n (relocked n l (relined 0 a))).locks (with_tag ps a)) (sym ok)
      (record {
        same = λ f.
            let w = with_weight f ps a room in
            let r = relocked_weight f 0 a n.locks l o t.1.0 t.1.1.1 in
            let x : line_weight f o.over a ≡ f a = cond-false _ _ _ t.1.1.0 in
            let s = m.same f in
            omega (arith, w, r, x, s);
        roomy =
            let s = lines_same n.locks l 0 a in
            let k = length-set ps (first_place is_free ps) (Some (tag_of a)) in
            omega (arith, s, k, m.roomy);
      })

  -- the lock-out of a hand-back that is granted
  abbrev Gives : Lock → Type 0
  Gives o = (lock_at n.locks l ≡ Some o) × ((lacks o a ≡ false) × (place a o.lines < length o.lines))

  giving : hand_back_stop n l a ≡ None → (o : Lock) × Gives o
  giving ok =
      let t = lock_there n.locks l (λ x. back_stop a x ≡ None) (λ h. cc) ok in
      let o = t.0 in
      let p = out_parts (lacks o a) (has a o.lines) (is_there (out_at o a) t.1.1) in
      (o, (t.1.0, (p.0, ltb-true _ _ p.1)))
    where
      is_there : (b : Bool) → cond {A = Option Told} b None (Some (12, a)) ≡ None → b ≡ true
      is_there true h = refl
      is_there false h = absurd cc

  back_has_tag : hand_back_stop n l a ≡ None → keeps ps a ≡ true
  back_has_tag ok = tag_for (go (lock_at n.locks l) ok)
    where
      go : (x : Option Lock) → back_stop a x ≡ None → out_of x a ≡ true
      go None h = absurd cc
      go (Some o) h = is_there (out_at o a) h
        where
          is_there : (b : Bool) → cond {A = Option Told} b None (Some (12, a)) ≡ None → b ≡ true
          is_there true h = refl
          is_there false h = absurd cc

  handed_matches : hand_back_stop n l a ≡ None → Matches (handed_back n l a).locks (without_tag ps a)
  handed_matches ok =
      let t = giving ok in
      let o = t.0 in
      let kept = back_has_tag ok in
      subst (λ s. Matches (unless s n (relocked n l (relined a 0))).locks (without_tag ps a)) (sym ok)
      (record {
        same = λ f.
            let w = without_weight f ps a kept in
            let r = relocked_weight f a 0 n.locks l o t.1.0 t.1.1.1 in
            let x : line_weight f o.over a ≡ f a = cond-false _ _ _ t.1.1.0 in
            let s = m.same f in
            omega (arith, w, r, x, s);
        roomy =
            let s = lines_same n.locks l a 0 in
            let k = length-set ps (first_place (holds a) ps) None in
            omega (arith, s, k, m.roomy);
      })

never_short : {C : Type 0} (n : Net C) (ps : Places) → Matches n.locks ps → (c : Asked C) → ShortOfTags n ps c → ⊥
never_short n ps m (settle budget) short = short
never_short n ps m (rebound a lo hi) short = short
never_short n ps m (recost a c) short = short
never_short n ps m (take_out l a) short = false≢true (sym short.1 ∙ take_has_room n ps m l a short.0)
never_short n ps m (hand_back l a) short = false≢true (sym short.1 ∙ back_has_tag n ps m l a short.0)
never_short n ps m (take_up fs) short = short

-- ---- from event to event

locks_kept : {C : Type 0} (s : Option Told) (n k : Net C) → k.locks ≡ n.locks → (unless s n k).locks ≡ n.locks
locks_kept None n k e = e
locks_kept (Some s) n k e = refl

module _ {C : Type 0} (K : Kind C) where
  granted_matches : (p q : State C) (c : Asked C) (o : Came C) (ps : Places) → Matches p.net.locks ps → stop_of K p c ≡ None → Grants K p c o q → Matches q.net.locks (cond (is_granted o) (retagged ps c) ps)
  granted_matches p q (settle budget) o ps m stop (x, is, same, _) = subst₂ (λ (y : Came C) (k : Net C). Matches k.locks (cond (is_granted y) ps ps)) (sym is) (sym same) m
  granted_matches p q (rebound a lo hi) o ps m stop (is, left) =
      subst₂ (λ (y : Came C) (z : State C). Matches z.net.locks (cond (is_granted y) ps ps)) (sym is) (sym left)
      (subst (λ os. Matches os ps) (sym (locks_kept _ p.net _ refl)) m)
  granted_matches p q (recost a c) o ps m stop (is, left) =
      subst₂ (λ (y : Came C) (z : State C). Matches z.net.locks (cond (is_granted y) ps ps)) (sym is) (sym left)
      (subst (λ os. Matches os ps) (sym (locks_kept _ p.net _ refl)) m)
  granted_matches p q (take_out l a) o ps m stop (is, left) =
      subst₂ (λ (y : Came C) (z : State C). Matches z.net.locks (cond (is_granted y) (with_tag ps a) ps)) (sym is) (sym left) (taken_matches p.net ps m l a stop)
  granted_matches p q (hand_back l a) o ps m stop (is, left) =
      subst₂ (λ (y : Came C) (z : State C). Matches z.net.locks (cond (is_granted y) (without_tag ps a) ps)) (sym is) (sym left) (handed_matches p.net ps m l a stop)
  granted_matches p q (take_up fs) o ps m stop (is, left) = subst₂ (λ (y : Came C) (z : State C). Matches z.net.locks (cond (is_granted y) ps ps)) (sym is) (sym left) m

  step_matches : (p q : State C) (c : Asked C) (o : Came C) (ps : Places) → Matches p.net.locks ps → Step K p (event c o) q → Matches q.net.locks (cond (is_granted o) (retagged ps c) ps)
  step_matches p q c o ps m step = go (stop_of K p c) refl
    where
      go : (s : Option Told) → stop_of K p c ≡ s → Matches q.net.locks (cond (is_granted o) (retagged ps c) ps)
      go (Some s) e = let r = step.refuses s e in subst₂ (λ (y : Came C) (z : State C). Matches z.net.locks (cond (is_granted y) (retagged ps c) ps)) (sym r.0) (sym r.1) m
      go None e = granted_matches p q c o ps m e (step.grants e)

  steps_match : (p q : State C) (es : List (Event C)) (ps : Places) → Matches p.net.locks ps → Steps K p es q → Matches q.net.locks (ring_after ps es)
  steps_match p q [] ps m same = subst (λ (z : State C). Matches z.net.locks ps) same m
  steps_match p q (e ∷ es) ps m (k, step, rest) = steps_match k q es (cond (is_granted e.outcome) (retagged ps e.call) ps) (step_matches p k e.call e.outcome ps m step) rest

-- ---- every call is made

least_of : (made a b : ℕ) → made ≤ a → made ≤ b → (made < a → made < b → ⊥) → made ≡ min a b
least_of made a b x y never = ⊎_elim
    (λ (h : made < a). ⊎_elim (λ (k : made < b). absurd (never h k)) (λ (k : b ≤ made). omega arith) (cases_lt made b))
    (λ (h : a ≤ made). omega arith)
    (cases_lt made a)

pub every_made : {C : Type 0} (K : Kind C) (found left : State C) (ps after : Places) (offers : List ℤ) (calls : List (Call C)) (outs outcomes : List (Outcome C)) (made : ℕ) →
    Matches found.net.locks ps → MakesAll K found ps offers calls outs made left after outcomes → made ≡ min (length calls) (length outs)
every_made {C} K found left ps after offers calls outs outcomes made m all =
    let noted = all.noted in
    least_of made (length calls) (length outs) all.among (omega (arith, noted, all.long)) (λ h k. further h k)
  where
    now : Matches left.net.locks after
    now = subst (λ qs. Matches left.net.locks qs) (sym all.ring) (steps_match K found left (events offers (take made calls) (take made outcomes)) ps m all.steps)

    further : made < length calls → made < length outs → ⊥
    further h k =
        let d = item_at calls made h in
        let c = get_or calls made d in
        ⊎_elim (λ (full : length outs ≤ made). omega arith) (never_short left.net after now (asked offers c))
        (all.early c (h, get_or_default calls made d c h))

pub every_call : {C : Type 0} (K : Kind C) (found left : State C) (ps after : Places) (offers : List ℤ) (calls : List (Call C)) (outs outcomes : List (Outcome C)) (r : Result ℕ Stop) →
    Runs K found ps offers calls outs r left after outcomes → EveryCallMade found.net ps (length calls) (length outs) r
every_call K found left ps after offers calls outs outcomes (Err s) run = tt
every_call K found left ps after offers calls outs outcomes (Ok made) run = λ none empty roomy.
    every_made K (opened found) left ps after offers calls outs outcomes made (matches_empty found.net.locks ps none empty roomy) run.1
