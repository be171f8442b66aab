-- Raised prices leave a labelling good: both ends of each arc that it was labelled over are labelled.
use Rattle.std.proofs.Common.{◌≡◌, ℕ, ◌<◌, Bool, true, false, ltb, List, length, get_or, ℤ, pos, sym, ap, ◌∙◌, subst, ap₂, arith}
use Rattle.std.proofs.lemmas.Bool.{lt-ltb, cond-true}
use Rattle.costs.specs.Kinds.{Kind, minus}
use Rattle.flows.specs.Kilter.{price, reduced}
use Rattle.networks.specs.Nets.{IsAt}
use Rattle.networks.specs.declared.network.Arc.{Arc}
use Rattle.flows.specs.declared.steps.Step.{Step}
use Rattle.labels.specs.declared.labelling.Labels.{Labels}
use Rattle.flows.specs.Laps.{near, far}
use Rattle.labels.specs.Moves.{may_at}
use Rattle.labels.specs.Good.{count, entry_at, node_at, place_of, Open, Linked, Whole, Good}
use Rattle.flows.proofs.ArcSums.{same_at}
use Rattle.flows.specs.searching.Prices.{Raised}
use Rattle.reach.specs.Scans.{is_labelled}

module _ {C : Type 0} (K : Kind C) (arcs : List (Arc C)) (flow : List ℤ) (ps qs : List C) (chosen : ℕ) (e : C) (ls : Labels) (long : length qs ≡ length ps) (raised : Raised K (length ps) e (is_labelled ls) ps qs) (good : Good K arcs flow ps chosen ls) where
  same_price : (k : ℕ) → k < count ls → price K qs (node_at ls k) ≡ price K ps (node_at ls k)
  same_price k h =
      let n = good.whole.nodes k h in
      let p : 0 < place_of ls (node_at ls k) = omega (arith, good.whole.placed k h) in
      raised (node_at ls k) n.0 n.1 ∙ cond-true (ltb 0 (place_of ls (node_at ls k))) (price K ps (node_at ls k)) (K.plus (price K ps (node_at ls k)) e) (lt-ltb 0 (place_of ls (node_at ls k)) p)

  same_cost : (a : Arc C) (along : Bool) (j k : ℕ) → j < count ls → k < count ls → near a along ≡ node_at ls j → far a along ≡ node_at ls k → reduced K ps a ≡ reduced K qs a
  same_cost a true j k hj hk p q = sym (ap₂ (λ x y. minus K (K.plus a.cost x) y) (ap (price K qs) p ∙ same_price j hj ∙ ap (price K ps) (sym p)) (ap (price K qs) q ∙ same_price k hk ∙ ap (price K ps) (sym q)))
  same_cost a false j k hj hk p q = sym (ap₂ (λ x y. minus K (K.plus a.cost x) y) (ap (price K qs) q ∙ same_price k hk ∙ ap (price K ps) (sym q)) (ap (price K qs) p ∙ same_price j hj ∙ ap (price K ps) (sym p)))

  opens_same : (k : ℕ) → k < count ls → Linked K arcs flow ps chosen ls k → Open K arcs flow qs chosen (entry_at ls k).step (node_at ls k)
  opens_same k h l = record {
    leads = l.opens.leads;
    other = l.opens.other;
    may_move = λ a is. ap (λ z. may_at K z a s.along (get_or flow s.arc (pos 0))) (sym (cost a is)) ∙ l.opens.may_move a is;
  }
    where
      s : Step
      s = (entry_at ls k).step

      cost : (a : Arc C) → IsAt arcs (entry_at ls k).step.arc a → reduced K ps a ≡ reduced K qs a
      cost a is =
          let d = l.opens.leads in
          let q = same_at arcs (entry_at ls k).step.arc d.0 a d.1 is in
          same_cost a (entry_at ls k).step.along (entry_at ls k).parent k (omega (arith, l.earlier)) h
          (ap (λ z. near z (entry_at ls k).step.along) (sym q) ∙ d.2 ∙ l.sets_out) (ap (λ z. far z (entry_at ls k).step.along) (sym q) ∙ d.3)

  pub good_raised : Good K arcs flow qs chosen ls
  good_raised = record {
    whole = subst (λ n. Whole n ls) (sym long) good.whole;
    some = good.some;
    linked = λ k l h. let o = good.linked k l h in record { earlier = o.earlier; sets_out = o.sets_out; opens = opens_same k h o };
  }
