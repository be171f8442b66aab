-- Arcs in turn: the next one is the first of those left.
use Rattle.std.proofs.Common.{◌≡◌, ℕ, ◌+◌, ◌<◌, true, ◌⊎◌, List, [], ◌∷◌, length, drop, ℤ, Some, None, Option, sym, refl, ap, ◌∙◌, subst, inl, inr, arith}
use Rattle.std.specs.Prelude.{MatchOption}
use Rattle.std.specs.Option.{is_some}
use Rattle.std.specs.Iterator.{Yields, YieldsFirst}
use Rattle.std.specs.List.{AllByRecursion, FoldsTo}
use Rattle.networks.specs.declared.network.Arc.{Arc}
use Rattle.networks.specs.Nets.{Net, arc_at, shown}
use Rattle.networks.proofs.Shown.{never_absent, arc_first}
use Rattle.flows.specs.Flows.{over}

pub next_first : {C : Type 0} (n : Net C) (i : ℕ) (r : Option (Arc C)) → i < length n.arcs → r ≡ arc_at n (i + 1) →
    MatchOption r ((drop i (shown n) ≡ []) × (drop (i + 1) (shown n) ≡ [])) (λ x. drop i (shown n) ≡ x ∷ drop (i + 1) (shown n))
next_first n i None h e = absurd (never_absent n i h e)
next_first n i (Some x) h e = arc_first n i x e

-- it is there
pub arc_there : {C : Type 0} (n : Net C) (i : ℕ) (r : Option (Arc C)) → i < length n.arcs → r ≡ arc_at n (i + 1) → is_some r ≡ true
arc_there n i None h e = absurd (never_absent n i h e)
arc_there n i (Some x) h e = refl

-- no arc is left, or no flow: what goes over both gives what it gives for none
pub at_none : {X Y : Type 0} (F : List X → List ℤ → Y) (y : Y) → ((flow : List ℤ) → F [] flow ≡ y) → ((x : X) (xs : List X) → F (x ∷ xs) [] ≡ y) → (arcs : List X) (flow : List ℤ) → (arcs ≡ []) ⊎ (length flow ≡ 0) → F arcs flow ≡ y
at_none F y none short [] flow e = none flow
at_none F y none short (x ∷ xs) [] e = short x xs
at_none F y none short (x ∷ xs) (f ∷ fs) (inl e) = absurd (let l : length (x ∷ xs) ≡ 0 = ap length e in omega arith)
at_none F y none short (x ∷ xs) (f ∷ fs) (inr e) = absurd (omega arith)

pub over_none : {C M : Type 0} (none : M) (plus : M → M → M) (h : Arc C → ℤ → M) (arcs : List (Arc C)) (flow : List ℤ) → (arcs ≡ []) ⊎ (length flow ≡ 0) → over none plus h arcs flow ≡ none
over_none none plus h = at_none (over none plus h) none (λ fs. refl) (λ x xs. refl)

-- a `next` of arcs beside flows that gave none
pub none_left : {A B X : Type 0} {P : A → Type 0} {Q : B → Type 0} (arcs : List X) (flow : List ℤ) → ((a : A) × ((arcs ≡ []) × P a)) ⊎ ((b : B) × ((length flow ≡ 0) × Q b)) → (arcs ≡ []) ⊎ (length flow ≡ 0)
none_left arcs flow (inl (a, e)) = inl e.0
none_left arcs flow (inr (b, e)) = inr e.0

-- what holds of all items holds of those that are left
pub left_all : {S X : Type 0} (left : S → List X) (P : X → Type 0) (xs : List X) (s t : S) → Yields (YieldsFirst left) s xs t → AllByRecursion P (left s) → AllByRecursion P (left t)
left_all left P [] s t e all = subst (λ z. AllByRecursion P (left z)) e all
left_all left P (x ∷ xs) s t (j, a, y) all = let r : AllByRecursion P (x ∷ left j) = subst (AllByRecursion P) a all in left_all left P xs j t y r.1

-- turns of a fold that leave what they hold as it is
pub held_same : {F B X : Type 0} (turn : F × B → X → F × B → Type 0) (xs : List X) (p q : F × B) → FoldsTo turn p xs q → ((i j : F × B) (x : X) → turn i x j → j.0 ≡ i.0) → q.0 ≡ p.0
held_same turn [] p q e same = ap (λ z. z.0) (sym e)
held_same turn (x ∷ xs) p q (i, b, f) same = held_same turn xs i q f same ∙ same p i x b
