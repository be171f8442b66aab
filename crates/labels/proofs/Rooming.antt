-- Rooms of steps, and flows sent over them.
use Rattle.std.proofs.Common.{◌≡◌, Bool, true, false, cond, ℕ, ◌≤◌, suc, ◌⊎◌, nat_abs, List, [], ◌∷◌, length, get_or, ℤ, pos, ◌-ℤ◌, ◌≤ℤ◌, Iter, Option, sym, refl, ap, ◌∙◌, subst, inl, inr, arith}
use lib.Signed.{lt_z}
use borrow.Author.Differences.{ints}
use Rattle.std.specs.List.{AllByRecursion, FoldsTo}
use Rattle.std.specs.Prelude.{Any, MatchOption}
use Rattle.std.specs.Iterator.{Yields}
use Rattle.std.specs.Int.{int_min}
use denote.Ref.{Bor}
use Rattle.costs.specs.Kinds.{Kind}
use Rattle.flows.specs.Kilter.{reduced}
use Rattle.networks.specs.Nets.{IsAt}
use Rattle.networks.specs.declared.network.Arc.{Arc}
use Rattle.flows.specs.searching.Views.{Sees}
use Rattle.flows.specs.declared.views.Seen.{Seen}
use Rattle.flows.specs.declared.steps.Step.{Step}
use Rattle.flows.proofs.ArcSums.{same_at, at_place}
use Rattle.labels.specs.Moves.{may, limit_at, room_at}
use Rattle.flows.specs.searching.Fits.{Fit, Fitting, Small}
use Rattle.labels.specs.Ways.{RoomIs, Moving, FitsIn, LeastRoom}

-- the room that was found is that of the arc
pub room_found : {C : Type 0} (K : Kind C) (arcs : List (Arc C)) (flow : List ℤ) (prices : List C) (s : Step) (e : Seen C) (x l : ℤ) → Sees K arcs flow prices s.arc e →
    l ≡ limit_at K e.cost e.arc s.along → x ≡ cond s.along (l -ℤ e.flow) (e.flow -ℤ l) → RoomIs K arcs flow prices s x
room_found K arcs flow prices s e x l sees p q b bt =
    subst (λ z. x ≡ room_at K prices z s.along f) (same_at arcs s.arc e.arc b sees.there bt) (q ∙ ap (λ z. cond s.along (l -ℤ z) (z -ℤ l)) sees.carries ∙ ap (λ z. cond s.along (z -ℤ f) (f -ℤ z)) (p ∙ ap (λ z. limit_at K z e.arc s.along) sees.priced) ∙ go s.along)
  where
    f : ℤ
    f = get_or flow s.arc (pos 0)

    go : (b : Bool) → cond b (limit_at K (reduced K prices e.arc) e.arc b -ℤ f) (f -ℤ limit_at K (reduced K prices e.arc) e.arc b) ≡ room_at K prices e.arc b f
    go true = refl
    go false = refl

up_to : (f l : ℤ) → lt_z f l ≡ true → pos 1 ≤ℤ (l -ℤ f)
up_to f l h = grind (arith, ints)

-- a step that may be made has room
pub room_some : {C : Type 0} (K : Kind C) (prices : List C) (a : Arc C) (along : Bool) (f : ℤ) → may K prices a along f ≡ true → pos 1 ≤ℤ room_at K prices a along f
room_some K prices a true f h = up_to f (limit_at K (reduced K prices a) a true) h
room_some K prices a false f h = up_to (limit_at K (reduced K prices a) a false) f h

lesser_first : (a b : ℤ) → cond (lt_z b a) b a ≤ℤ a
lesser_first a b = grind (arith, ints)

lesser_second : (a b : ℤ) → cond (lt_z b a) b a ≤ℤ b
lesser_second a b = grind (arith, ints)

lesser_both : (a b : ℤ) → pos 1 ≤ℤ a → pos 1 ≤ℤ b → pos 1 ≤ℤ cond (lt_z b a) b a
lesser_both a b p q = grind (arith, ints)

le_trans : (a b c : ℤ) → a ≤ℤ b → b ≤ℤ c → a ≤ℤ c
le_trans a b c p q = omega (arith, ints)

-- what iterators over steps go by
abbrev pub next_step : Iter Step → Option (Bor Step) → Iter Step → Type 0
next_step i r j = MatchOption r ((length i.rest.now ≡ 0) × (j ≡ i)) (λ (x : Bor Step). i.rest.now ≡ x.now ∷ j.rest.now)

length_none : {X : Type 0} (xs : List X) → length xs ≡ 0 → xs ≡ []
length_none [] e = refl
length_none (x ∷ xs) e = absurd (omega arith)

le_same : (a : ℤ) → a ≤ℤ a
le_same a = omega (arith, ints)

-- what holds of all steps holds of those that are left
pub left_all : (P : Step → Type 0) (xs : List (Bor Step)) (s t : Iter Step) → Yields next_step s xs t → AllByRecursion P s.rest.now → AllByRecursion P t.rest.now
left_all P [] s t e all = subst (λ (z : Iter Step). AllByRecursion P z.rest.now) e all
left_all P (x ∷ xs) s t (j, a, y) all = let r : AllByRecursion P (x.now ∷ j.rest.now) = subst (AllByRecursion P) a all in left_all P xs j t y r.1

-- no room is above two million
room_most : {C : Type 0} (K : Kind C) (N : ℕ) (prices : List C) (a : Arc C) (along : Bool) (f : ℤ) → Fit K N a → nat_abs f ≤ 1000000 → room_at K prices a along f ≤ℤ pos 2000000
room_most K N prices a true f fit s = go (K.le (reduced K prices a) K.zero)
  where
    go : (b : Bool) → (cond b a.hi a.lo -ℤ f) ≤ℤ pos 2000000
    go true = let k = fit.high in omega (arith, ints)
    go false = let k = fit.low in omega (arith, ints)
room_most K N prices a false f fit s = go (K.le K.zero (reduced K prices a))
  where
    go : (b : Bool) → (f -ℤ cond b a.lo a.hi) ≤ℤ pos 2000000
    go true = let k = fit.low in omega (arith, ints)
    go false = let k = fit.high in omega (arith, ints)

le_both : (a b : ℤ) → a ≤ℤ b → b ≤ℤ a → a ≡ b
le_both a b p q = omega (arith, ints)

lesser_is : (a b : ℤ) → (cond (lt_z b a) b a ≡ a) ⊎ (cond (lt_z b a) b a ≡ b)
lesser_is a b = go (lt_z b a)
  where
    go : (c : Bool) → (cond c b a ≡ a) ⊎ (cond c b a ≡ b)
    go true = inr refl
    go false = inl refl

any_later : {X : Type 0} (P : X → Type 0) (x : X) (xs : List X) → Any P xs → Any P (x ∷ xs)
any_later P x xs (k, y, h, e, p) = (suc k, y, omega arith, e, p)

-- the steps in turn, each with its room: the least is where it began, or the room of a step
pub least_turns : {C F : Type 0} (K : Kind C) (arcs : List (Arc C)) (flow : List ℤ) (prices : List C) (turn : F × ℤ → Bor Step → F × ℤ → Type 0) (xs : List (Bor Step)) (s t : Iter Step) (p q : F × ℤ) → Yields next_step s xs t → length t.rest.now ≡ 0 → FoldsTo turn p xs q →
    ((i j : F × ℤ) (x : Bor Step) → i.0 ≡ p.0 → turn i x j → (j.0 ≡ p.0) × ((a : Arc C) → IsAt arcs x.now.arc a → j.1 ≡ int_min i.1 (room_at K prices a x.now.along (get_or flow x.now.arc (pos 0))))) →
    AllByRecursion (Moving K arcs flow prices) s.rest.now → pos 1 ≤ℤ p.1 → (pos 1 ≤ℤ q.1) × (q.1 ≤ℤ p.1) × AllByRecursion (FitsIn K arcs flow prices q.1) s.rest.now × ((q.1 ≡ p.1) ⊎ Any (λ x. RoomIs K arcs flow prices x q.1) s.rest.now)
least_turns K arcs flow prices turn [] s t p q e none f tells moving low =
    let same : q.1 ≡ p.1 = ap (λ z. z.1) (sym f) in
    let done : s.rest.now ≡ [] = ap (λ (z : Iter Step). z.rest.now) e ∙ length_none t.rest.now none in
    (subst (λ z. pos 1 ≤ℤ z) (sym same) low, subst (λ z. z ≤ℤ p.1) (sym same) (le_same p.1), subst (AllByRecursion (FitsIn K arcs flow prices q.1)) (sym done) tt, inl same)
least_turns {C} K arcs flow prices turn (x ∷ xs) s t p q (j, a, y) none (i, b, f) tells moving low =
    let m : AllByRecursion (Moving K arcs flow prices) (x.now ∷ j.rest.now) = subst (AllByRecursion (Moving K arcs flow prices)) a moving in
    let told = tells p i x refl b in
    let there = at_place arcs x.now.arc m.0.0 in
    let some = room_some K prices there.0 x.now.along (get_or flow x.now.arc (pos 0)) (m.0.1 there.0 there.1) in
    let e = told.1 there.0 there.1 in
    let k = least_turns K arcs flow prices turn xs j t i q y none f (λ k l z o h. let r = tells k l z (o ∙ told.0) h in (r.0 ∙ sym told.0, r.1)) m.1 (subst (λ z. pos 1 ≤ℤ z) (sym e) (lesser_both p.1 _ low some)) in
    let first : q.1 ≤ℤ p.1 = le_trans q.1 i.1 p.1 k.1 (subst (λ z. z ≤ℤ p.1) (sym e) (lesser_first p.1 _)) in
    (k.0, first, subst (AllByRecursion (FitsIn K arcs flow prices q.1)) (sym a) ((λ c at. le_trans q.1 i.1 _ k.1 (subst (λ z. z ≤ℤ room_at K prices c x.now.along (get_or flow x.now.arc (pos 0))) (sym (told.1 c at)) (lesser_second p.1 _))), k.2), met there.0 there.1 e k.3)
  where
    met : (c : Arc C) → IsAt arcs x.now.arc c → i.1 ≡ int_min p.1 (room_at K prices c x.now.along (get_or flow x.now.arc (pos 0))) → (q.1 ≡ i.1) ⊎ Any (λ z. RoomIs K arcs flow prices z q.1) j.rest.now → (q.1 ≡ p.1) ⊎ Any (λ z. RoomIs K arcs flow prices z q.1) s.rest.now
    met c at e (inr later) = inr (subst (Any (λ z. RoomIs K arcs flow prices z q.1)) (sym a) (any_later (λ z. RoomIs K arcs flow prices z q.1) x.now j.rest.now later))
    met c at e (inl same) = go (lesser_is p.1 (room_at K prices c x.now.along (get_or flow x.now.arc (pos 0))))
      where
        go : (int_min p.1 (room_at K prices c x.now.along (get_or flow x.now.arc (pos 0))) ≡ p.1) ⊎ (int_min p.1 (room_at K prices c x.now.along (get_or flow x.now.arc (pos 0))) ≡ room_at K prices c x.now.along (get_or flow x.now.arc (pos 0))) →
            (q.1 ≡ p.1) ⊎ Any (λ z. RoomIs K arcs flow prices z q.1) s.rest.now
        go (inl l) = inl (same ∙ e ∙ l)
        go (inr l) = inr (subst (Any (λ z. RoomIs K arcs flow prices z q.1)) (sym a)
            (0, x.now, omega arith, refl, λ d dt. subst (λ z. q.1 ≡ room_at K prices z x.now.along (get_or flow x.now.arc (pos 0))) (same_at arcs x.now.arc c d at dt) (same ∙ e ∙ l)))

-- from two million on, the least room is the room of a step
pub least_met : {C : Type 0} (K : Kind C) (N : ℕ) (arcs : List (Arc C)) (flow : List ℤ) (prices : List C) (steps : List Step) (x : ℤ) → Fitting K N arcs → Small flow → 1 ≤ length steps → AllByRecursion (Moving K arcs flow prices) steps →
    AllByRecursion (FitsIn K arcs flow prices x) steps → (x ≡ pos 2000000) ⊎ Any (λ s. RoomIs K arcs flow prices s x) steps → LeastRoom K arcs flow prices steps x
least_met K N arcs flow prices steps x fitting small some moving fits (inr one) = record { fits = fits; fills = one }
least_met K N arcs flow prices [] x fitting small some moving fits (inl e) = absurd (omega arith)
least_met K N arcs flow prices (s ∷ rest) x fitting small some moving fits (inl e) = record {
  fits = fits;
  fills = (
    0,
    s,
    omega arith,
    refl,
    λ a is.
        le_both x (room_at K prices a s.along (get_or flow s.arc (pos 0))) (fits.0 a is)
        (subst (λ z. room_at K prices a s.along (get_or flow s.arc (pos 0)) ≤ℤ z) (sym e) (room_most K N prices a s.along (get_or flow s.arc (pos 0)) (fitting s.arc a is) (small s.arc))),
  );
}
