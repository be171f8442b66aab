-- An event more in a run.
use Rattle.std.proofs.Common.{◌≡◌, ℕ, zero, suc, ◌+◌, ◌<◌, ◌⊎◌, List, [], ◌∷◌, ◌++◌, length, get_or, take, set, ℤ, sym, refl, ap, ◌∙◌, subst, inl, inr, append_assoc, suc-add, arith, length-append}
use Rattle.std.specs.List.{AllByRecursion}
use Rattle.std.proofs.lemmas.List.{same_from_push}
use Rattle.std.proofs.ByRecursion.{All-push}
use Rattle.runs.specs.declared.calls.Call.{Call}
use Rattle.runs.specs.declared.calls.Outcome.{Outcome}
use Rattle.runs.specs.Events.{Event, event, asked, came, events, SomeSince}

last_cases : {X : Type 0} (ys : List X) → (ys ≡ []) ⊎ ((zs : List X) × ((z : X) × (ys ≡ zs ++ (z ∷ []))))
last_cases [] = inl refl
last_cases (y ∷ ys) = inr (go (last_cases ys))
  where
    go : (ys ≡ []) ⊎ ((zs : List _) × ((z : _) × (ys ≡ zs ++ (z ∷ [])))) → (zs : List _) × ((z : _) × (y ∷ ys ≡ zs ++ (z ∷ [])))
    go (inl e) = ([], (y, ap (λ l. y ∷ l) e))
    go (inr (zs, (z, e))) = (y ∷ zs, (z, ap (λ l. y ∷ l) e))

all_pop : {X : Type 0} (P : X → Type 0) (xs : List X) (x : X) → AllByRecursion P (xs ++ (x ∷ [])) → AllByRecursion P xs × P x
all_pop P [] x (p, t) = (tt, p)
all_pop P (y ∷ ys) x (p, h) = ((p, (all_pop P ys x h).0), (all_pop P ys x h).1)

module _ {C : Type 0} (es : List (Event C)) (e : Event C) (P Q : Event C → Type 0) where
  pub since_new : P e → SomeSince (es ++ (e ∷ [])) P Q
  since_new p = record { before = es; here = e; after = []; is = refl; so = p; none_since = tt }

  pub since_old : ¬ Q e → SomeSince es P Q → SomeSince (es ++ (e ∷ [])) P Q
  since_old n s = record {
    before = s.before;
    here = s.here;
    after = s.after ++ (e ∷ []);
    is = ap (λ r. r ++ (e ∷ [])) s.is ∙ append_assoc s.before (s.here ∷ s.after) (e ∷ []);
    so = s.so;
    none_since = All-push (λ x. ¬ Q x) s.after e s.none_since n;
  }

  pub since_cases : SomeSince (es ++ (e ∷ [])) P Q → P e ⊎ ((¬ Q e) × SomeSince es P Q)
  since_cases s = go (last_cases s.after)
    where
      go : (s.after ≡ []) ⊎ ((zs : List (Event C)) × ((z : Event C) × (s.after ≡ zs ++ (z ∷ [])))) → P e ⊎ ((¬ Q e) × SomeSince es P Q)
      go (inl n) = inl (subst P (sym (same_from_push es s.before e s.here (s.is ∙ ap (λ a. s.before ++ (s.here ∷ a)) n)).1) s.so)
      go (inr (zs, (z, n))) =
          let same = same_from_push es (s.before ++ (s.here ∷ zs)) e z (s.is ∙ ap (λ a. s.before ++ (s.here ∷ a)) n ∙ sym (append_assoc s.before (s.here ∷ zs) (z ∷ []))) in
          let all : AllByRecursion (λ x. ¬ Q x) (zs ++ (z ∷ [])) = subst (λ a. AllByRecursion (λ x. ¬ Q x) a) n s.none_since in
          inr (subst (λ x. ¬ Q x) (sym same.1) (all_pop (λ x. ¬ Q x) zs z all).1, record { before = s.before; here = s.here; after = zs; is = same.0; so = s.so; none_since = (all_pop (λ x. ¬ Q x) zs z all).0 })

-- at the start nothing has been
pub since_none : {C : Type 0} (P Q : Event C → Type 0) → SomeSince [] P Q → ⊥
since_none P Q s = omega (arith, simp length-append at (ap length s.is))

-- the events of one call more
pub events_more : {C : Type 0} (offers : List ℤ) (cs : List (Call C)) (os : List (Outcome C)) (i : ℕ) (c : Call C) (o : Outcome C) → i < length cs → i < length os → c ≡ get_or cs i c →
    events offers (take (i + 1) cs) (take (i + 1) (set os i o)) ≡ events offers (take i cs) (take i os) ++ (event (asked offers c) (came o) ∷ [])
events_more offers [] os i c o h l r = absurd (omega arith)
events_more offers (d ∷ cs) [] i c o h l r = absurd (omega arith)
events_more offers (d ∷ cs) (x ∷ os) zero c o h l r = ap (λ z. event (asked offers z) (came o) ∷ []) (sym r)
events_more offers (d ∷ cs) (x ∷ os) (suc i) c o h l r =
    rw (suc-add i 1) (ap (λ z. event (asked offers d) (came x) ∷ z) (events_more offers cs os i c o (omega arith) (omega arith) r))
