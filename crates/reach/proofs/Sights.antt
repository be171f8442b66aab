-- One arc more seen.
use Rattle.std.proofs.Common.{◌≡◌, ℕ, ◌+◌, Bool, true, false, cond, List, [], length, drop, get_or, ℤ, pos, Some, None, Option, sym, refl, ap, ◌∙◌, subst, ⊎_elim, arith}
use Rattle.std.proofs.lemmas.Bool.{cases_eq}
use Rattle.std.proofs.lemmas.List.{length-drop}
use Rattle.costs.specs.Kinds.{Kind, Laws}
use Rattle.flows.specs.Kilter.{reduced}
use Rattle.flows.specs.Laps.{step_over}
use Rattle.networks.specs.Nets.{IsAt}
use Rattle.networks.specs.declared.network.Arc.{Arc}
use Rattle.flows.proofs.Group.{le_refl}
use Rattle.labels.specs.declared.labelling.Labels.{Labels}
use Rattle.labels.specs.Moves.{may}
use Rattle.flows.proofs.ArcSums.{same_at}
use Rattle.reach.specs.declared.scans.Best.{Best}
use Rattle.std.specs.declared.ops.ControlFlow.TheVariants.{Continue, Break}
use Rattle.reach.specs.Scans.{crossing_at, slack_at, nearer_of, best_of, sight_of, AtMost, Across, BestIs, Sighted, Scanned}

module _ {C : Type 0} (K : Kind C) (laws : Laws K) (arcs : List (Arc C)) (flow : List ℤ) (prices : List C) (chosen : ℕ) (ls : Labels) where
  pub seen_more : (n : ℕ) (best new : Option (Best C)) → Sighted K arcs flow prices chosen ls n best → ((s : C) → AtMost K best s → AtMost K new s) →
      ((a : Arc C) (along : Bool) → Across arcs chosen ls n a along → may K prices a along (get_or flow n (pos 0)) ≡ false) →
      ((a : Arc C) (along : Bool) → Across arcs chosen ls n a along → (s : C) → slack_at K (reduced K prices a) a along (get_or flow n (pos 0)) ≡ Some s → AtMost K new s) →
      BestIs K arcs flow prices chosen ls new → Sighted K arcs flow prices chosen ls (n + 1) new
  seen_more n best new old less shut least found = record {
    shut = λ i h a along x. ⊎_elim (λ (q : i ≡ n). subst (λ j. may K prices a along (get_or flow j (pos 0)) ≡ false) (sym q) (shut a along (subst (λ j. Across arcs chosen ls j a along) q x))) (λ q. old.shut i (omega arith) a along x) (cases_eq i n);
    least = λ i h a along x s e. ⊎_elim (λ (q : i ≡ n). least a along (subst (λ j. Across arcs chosen ls j a along) q x) s (ap (λ j. slack_at K (reduced K prices a) a along (get_or flow j (pos 0))) (sym q) ∙ e)) (λ q. less s (old.least i (omega arith) a along x s e)) (cases_eq i n);
    found = found;
  }

  module _ (n : ℕ) (best : Option (Best C)) (old : Sighted K arcs flow prices chosen ls n best) (a : Arc C) (is : IsAt arcs n a) where
    -- the arc does not lead across
    pub seen_aside : None ≡ crossing_at ls a → Sighted K arcs flow prices chosen ls (n + 1) best
    seen_aside no_way = seen_more n best best old (λ s h. h) (λ b along x. absurd (never b along x)) (λ b along x. absurd (never b along x)) old.found
      where
        never : (b : Arc C) (along : Bool) → Across arcs chosen ls n b along → ⊥
        never b along x = let e = x.leads in let q = ap (crossing_at ls) (same_at arcs n a b is x.is) in cc

    module _ (along : Bool) (way : Some along ≡ crossing_at ls a) (closed : may K prices a along (get_or flow n (pos 0)) ≡ false) where
      -- what is so of the arc and the way is so of each that leads across at n
      only : (P : Arc C → Bool → Type 0) → P a along → (b : Arc C) (d : Bool) → Across arcs chosen ls n b d → P b d
      only P p b d x =
          let q = same_at arcs n a b is x.is in
          let e : along ≡ d = let r = x.leads in let s = ap (crossing_at ls) q in cc in
          subst (λ z. P z d) q (subst (P a) e p)

      pub seen_free : None ≡ slack_at K (reduced K prices a) a along (get_or flow n (pos 0)) → Sighted K arcs flow prices chosen ls (n + 1) best
      seen_free free = seen_more n best best old (λ s h. h) (only (λ b d. may K prices b d (get_or flow n (pos 0)) ≡ false) closed)
          (only (λ b d. (s : C) → slack_at K (reduced K prices b) b d (get_or flow n (pos 0)) ≡ Some s → AtMost K best s) (λ s e. absurd cc)) old.found

      pub seen_slack : (s : C) (b : Best C) → (n ≡ chosen → ⊥) → Some s ≡ slack_at K (reduced K prices a) a along (get_or flow n (pos 0)) → b ≡ record { slack = s; over = step_over n a along } → (r : Best C) → r ≡ nearer_of K best b → Sighted K arcs flow prices chosen ls (n + 1) (Some r)
      seen_slack s b other e be r re = subst (λ z. Sighted K arcs flow prices chosen ls (n + 1) (Some z)) (sym re) (seen_more n best (Some (nearer_of K best b)) old (fewer best)
          (only (λ b d. may K prices b d (get_or flow n (pos 0)) ≡ false) closed)
          (only (λ x d. (t : C) → slack_at K (reduced K prices x) x d (get_or flow n (pos 0)) ≡ Some t → AtMost K (Some (nearer_of K best b)) t) (λ t q. let same : s ≡ t = cc in subst (λ z. AtMost K (Some (nearer_of K best b)) z) same (here best)))
          (is_one best old.found))
        where
          here : (o : Option (Best C)) → K.le (nearer_of K o b).slack s ≡ true
          here None = subst (λ z. K.le z.slack s ≡ true) (sym be) (le_refl K laws s)
          here (Some d) = go (K.le d.slack b.slack) refl
            where
              go : (t : Bool) → K.le d.slack b.slack ≡ t → K.le (cond t d b).slack s ≡ true
              go true q = subst (λ z. K.le d.slack z.slack ≡ true) be q
              go false q = subst (λ z. K.le z.slack s ≡ true) (sym be) (le_refl K laws s)

          fewer : (o : Option (Best C)) (t : C) → AtMost K o t → K.le (nearer_of K o b).slack t ≡ true
          fewer None t h = absurd h
          fewer (Some d) t h = go (K.le d.slack b.slack) refl
            where
              go : (v : Bool) → K.le d.slack b.slack ≡ v → K.le (cond v d b).slack t ≡ true
              go true q = h
              go false q = laws.trans b.slack d.slack t (laws.total d.slack b.slack q) h

          mine : BestIs K arcs flow prices chosen ls (Some b)
          mine = subst (λ z. BestIs K arcs flow prices chosen ls (Some z)) (sym be) (a, record { other = other; is = is; leads = sym way }, refl, sym e)

          is_one : (o : Option (Best C)) → BestIs K arcs flow prices chosen ls o → BestIs K arcs flow prices chosen ls (Some (nearer_of K o b))
          is_one None h = mine
          is_one (Some d) h = go (K.le d.slack b.slack)
            where
              go : (v : Bool) → BestIs K arcs flow prices chosen ls (Some (cond v d b))
              go true = h
              go false = mine

    -- whatever it makes of the best
    pub sighted : (along : Bool) → Some along ≡ crossing_at ls a → (n ≡ chosen → ⊥) → Scanned K arcs flow prices chosen ls (n + 1) (sight_of K (reduced K prices a) a (step_over n a along) (get_or flow n (pos 0)) best)
    sighted along way other = go (may K prices a along (get_or flow n (pos 0))) refl
      where
        rest : (o : Option C) → o ≡ slack_at K (reduced K prices a) a along (get_or flow n (pos 0)) → may K prices a along (get_or flow n (pos 0)) ≡ false → Sighted K arcs flow prices chosen ls (n + 1) (best_of K o (step_over n a along) best)
        rest None e q = seen_free along way q e
        rest (Some s) e q = seen_slack along way q s (record { slack = s; over = step_over n a along }) other e refl (nearer_of K best (record { slack = s; over = step_over n a along })) refl

        go : (t : Bool) → may K prices a along (get_or flow n (pos 0)) ≡ t → Scanned K arcs flow prices chosen ls (n + 1) (cond t (Break (step_over n a along)) (Continue (best_of K (slack_at K (reduced K prices a) a along (get_or flow n (pos 0))) (step_over n a along) best)))
        go true q = (a, record { other = other; is = is; leads = sym way }, refl, q)
        go false q = rest (slack_at K (reduced K prices a) a along (get_or flow n (pos 0))) refl q

  -- where no arc is left, all are seen
  pub seen_all : (n : ℕ) (best : Option (Best C)) → drop n arcs ≡ [] → Sighted K arcs flow prices chosen ls n best → Sighted K arcs flow prices chosen ls (length arcs) best
  seen_all n best none old =
      let l = ap length none in
      let few = length-drop n arcs in
      record { shut = λ i h. old.shut i (omega (arith, h, l, few)); least = λ i h. old.least i (omega (arith, h, l, few)); found = old.found }
