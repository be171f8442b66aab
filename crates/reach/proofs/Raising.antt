-- One price more is raised.
use Rattle.std.proofs.Common.{◌≡◌, ℕ, ◌+◌, ◌<◌, ◌≤◌, cond, ltb, ◌≢◌, List, length, get_or, set, sym, ap, ◌∙◌, subst, arith, get_or-set_other, get_or-set_same, below_more}
use Rattle.std.proofs.lemmas.List.{get_or_read}
use Rattle.std.proofs.lemmas.Bool.{lt-ltb, le-ltb, cond-true, cond-false}
use Rattle.costs.specs.Kinds.{Kind}
use Rattle.flows.specs.searching.Fits.{Bounded}

-- a price, raised where the node's place is 0
abbrev pub raised_at : {C : Type 0} → Kind C → C → ℕ → C → C
raised_at K e place p = cond (ltb 0 place) p (K.plus p e)

-- below i the prices are raised, from i on they are as they were
pub record Half {C : Type 0} (K : Kind C) (e : C) (places : List ℕ) (old ps : List C) (i : ℕ) : Type 0 where
  pub done : (k : ℕ) → k < i → get_or ps k K.zero ≡ raised_at K e (get_or places k 0) (get_or old k K.zero)
  pub rest : (k : ℕ) → i ≤ k → get_or ps k K.zero ≡ get_or old k K.zero

module _ {C : Type 0} (K : Kind C) (e : C) (places : List ℕ) (old ps : List C) (i : ℕ) (half : Half K e places old ps i) where
  abbrev wanted : ℕ → C
  wanted k = raised_at K e (get_or places k 0) (get_or old k K.zero)

  pub pass : (get_or places i 0 ≡ 0 → ⊥) → Half K e places old ps (i + 1)
  pass m = record {
    done = below_more (λ k. get_or ps k K.zero ≡ wanted k) i half.done (half.rest i (omega arith) ∙ sym (cond-true (ltb 0 (get_or places i 0)) (get_or old i K.zero) (K.plus (get_or old i K.zero) e) (lt-ltb 0 (get_or places i 0) (omega (arith, m)))));
    rest = λ k h. half.rest k (omega arith);
  }

  -- what is read at i is the old price
  old_at : (x : C) → i < length ps → x ≡ get_or ps i x → x ≡ get_or old i K.zero
  old_at x l h = get_or_read ps i x l h K.zero ∙ half.rest i (omega arith)

  pub put : (x r : C) → i < length ps → get_or places i 0 ≡ 0 → x ≡ get_or ps i x → r ≡ K.plus x e → Half K e places old (set ps i r) (i + 1)
  put x r l m h v = record {
    done = below_more (λ k. get_or (set ps i r) k K.zero ≡ wanted k) i
        (λ k b. let ne : k ≢ i = omega arith in rw get_or-set_other (half.done k b))
        (rw get_or-set_same (v ∙ ap (λ y. K.plus y e) (old_at x l h) ∙ sym (cond-false (ltb 0 (get_or places i 0)) (get_or old i K.zero) (K.plus (get_or old i K.zero) e) (le-ltb 0 (get_or places i 0) (omega arith)))));
    rest = λ k b. let ne : k ≢ i = omega arith in rw get_or-set_other (half.rest k (omega arith));
  }

  pub read_small : (b : ℕ) (x : C) → Bounded K b old → length ps ≡ length old → i < length old → x ≡ get_or ps i x → K.size x ≤ b
  read_small b x h s l e = subst (λ z. K.size z ≤ b) (sym (old_at x (omega arith) e)) (h i l)
