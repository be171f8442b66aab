-- What labelling over one arc gives.
use Rattle.std.proofs.Common.{◌≡◌, ℕ, ◌<◌, ◌≤◌, Bool, true, false, cond, eqb, List, [], length, drop, get_or, ℤ, pos, Some, None, sym, refl, ap, ◌∙◌, subst, arith}
use Rattle.std.proofs.lemmas.List.{length-drop}
use Rattle.std.proofs.lemmas.Bool.{eqb-true}
use Rattle.costs.specs.Kinds.{Kind}
use Rattle.networks.specs.Nets.{IsAt}
use Rattle.networks.specs.declared.network.Arc.{Arc}
use Rattle.labels.specs.declared.labelling.Entry.{Entry}
use Rattle.labels.specs.declared.labelling.Labels.{Labels}
use Rattle.flows.specs.Kilter.{reduced}
use Rattle.flows.specs.Laps.{near, far, step_over}
use Rattle.flows.specs.searching.Views.{Sees}
use Rattle.flows.specs.declared.views.Seen.{Seen}
use Rattle.flows.proofs.ArcSums.{same_at}
use Rattle.flows.specs.searching.Fits.{Fit}
use Rattle.labels.specs.Moves.{may, may_at}
use Rattle.labels.specs.Good.{count, node_at, place_of, Open, Labelled, Whole, Good, Grown, Followed, AllFollowed, outward_at, linked_by, pushed}
use Rattle.labels.proofs.More.{counts, room, entry_old, place_new, whole_more, grown_more, linked_more}

-- the way outward sets out from the node, and leads to one that is not labelled
pub outward_is : {C : Type 0} (a : Arc C) (n : ℕ) (ls : Labels) (along : Bool) → Some along ≡ outward_at a n ls → (near a along ≡ n) × (place_of ls (far a along) ≡ 0)
outward_is a n ls along e = go (eqb a.from n) (eqb a.to n) (eqb (place_of ls a.to) 0) (eqb (place_of ls a.from) 0) refl refl refl refl along e
  where
    go : (f t p q : Bool) → eqb a.from n ≡ f → eqb a.to n ≡ t → eqb (place_of ls a.to) 0 ≡ p → eqb (place_of ls a.from) 0 ≡ q → (along : Bool) →
        Some along ≡ cond f (cond p (Some true) None) (cond t (cond q (Some false) None) None) → (near a along ≡ n) × (place_of ls (far a along) ≡ 0)
    go true t true q ef et ep eq true e = (eqb-true a.from n ef, eqb-true (place_of ls a.to) 0 ep)
    go true t true q ef et ep eq false e = cc
    go true t false q ef et ep eq along e = cc
    go false true p true ef et ep eq false e = (eqb-true a.to n et, eqb-true (place_of ls a.from) 0 eq)
    go false true p true ef et ep eq true e = cc
    go false true p false ef et ep eq along e = cc
    go false false p q ef et ep eq along e = cc

-- what is seen of an arc may move as the arc does
pub seen_as : {C : Type 0} (K : Kind C) (arcs : List (Arc C)) (flow : List ℤ) (prices : List C) (i : ℕ) (s : Seen C) (a : Arc C) (along : Bool) → Sees K arcs flow prices i s → s.arc ≡ a →
    may_at K s.cost s.arc along s.flow ≡ may K prices a along (get_or flow i (pos 0))
seen_as K arcs flow prices i s a along sees same =
    ap (λ z. may_at K z s.arc along s.flow) sees.priced ∙ ap (λ f. may_at K (reduced K prices s.arc) s.arc along f) sees.carries ∙ ap (λ z. may K prices z along (get_or flow i (pos 0))) same

-- nothing changed
pub grown_none : (ls : Labels) → Grown ls ls
grown_none ls = record { more = omega arith; same = λ k h. refl; kept = λ n h. refl }

pub grown_both : (ls ms ns : Labels) → Grown ls ms → Grown ms ns → Grown ls ns
grown_both ls ms ns p q = record {
  more = omega (arith, p.more, q.more);
  same = λ k h. q.same k (omega (arith, p.more)) ∙ p.same k h;
  kept = λ n h. q.kept n (let e = p.kept n h in omega arith) ∙ p.kept n h;
}

module _ {C : Type 0} (K : Kind C) (arcs : List (Arc C)) (flow : List ℤ) (prices : List C) (chosen : ℕ) where
  module _ (few : length prices ≤ 256) (ls : Labels) (good : Good K arcs flow prices chosen ls) (at i : ℕ) (place : at < count ls) (other : i ≡ chosen → ⊥) (a : Arc C) (is : IsAt arcs i a) (fit : Fit K (length prices) a)
      (along : Bool) (here : near a along ≡ node_at ls at) (fresh : place_of ls (far a along) ≡ 0) (moves : may K prices a along (get_or flow i (pos 0)) ≡ true) where
    abbrev pub new : Entry
    new = linked_by a (step_over i a along) at

    ends : (b : Bool) → (1 ≤ far a b) × (far a b ≤ length prices)
    ends true = (fit.ends.2, fit.ends.3)
    ends false = (fit.ends.0, fit.ends.1)

    pub new_room : count ls < 256
    new_room = room (length prices) few ls good.whole new (ends along).0 (ends along).1 (fresh)

    pub new_grown : Grown ls (pushed ls new)
    new_grown = grown_more (length prices) few ls good.whole new (ends along).0 (ends along).1 (fresh)

    opens : Open K arcs flow prices chosen new.step (far a along)
    opens = record {
      leads = (a, is, refl, refl);
      other = other;
      may_move = λ b bt. subst (λ z. may K prices z along (get_or flow i (pos 0)) ≡ true) (same_at arcs i a b is bt) (moves);
    }

    pub new_good : Good K arcs flow prices chosen (pushed ls new)
    new_good = record {
      whole = whole_more (length prices) few ls good.whole new (ends along).0 (ends along).1 (fresh);
      some = omega (arith, counts (length prices) few ls good.whole new (ends along).0 (ends along).1 fresh);
      linked = linked_more (length prices) few ls good.whole new (ends along).0 (ends along).1 (fresh) K arcs flow prices chosen good.linked place here opens;
    }

    -- from that node the arc leads that way alone
    one_way : (b : Bool) → near a b ≡ node_at ls at → b ≡ along
    one_way b q = go along b here fresh q
      where
        go : (x y : Bool) → near a x ≡ node_at ls at → place_of ls (far a x) ≡ 0 → near a y ≡ node_at ls at → y ≡ x
        go true true h f q = refl
        go false false h f q = refl
        go true false h f q = absurd (let p = ap (place_of ls) q in omega (arith, good.whole.placed at place))
        go false true h f q = absurd (let p = ap (place_of ls) q in omega (arith, good.whole.placed at place))

    pub new_followed : Followed K arcs flow prices (pushed ls new) at i
    new_followed b way bt q m =
        let old : near b way ≡ node_at ls at = q ∙ ap (λ z. z.node) (entry_old (length prices) few ls good.whole new (ends along).0 (ends along).1 fresh at place) in
        let same : b ≡ a = same_at arcs i b a bt is in
        let one : way ≡ along = one_way way (subst (λ z. near z way ≡ node_at ls at) same old) in
        let e : far b way ≡ far a along = cc in
        let p = place_new (length prices) few ls good.whole new (ends along).0 (ends along).1 fresh in
        subst (Labelled (pushed ls new)) (sym e) (omega (arith, p))

  -- nothing was labelled: the arc may not move, or leads to labelled nodes
  pub shut_followed : (ls : Labels) → Whole (length prices) ls → (at i : ℕ) → at < count ls → (a : Arc C) → IsAt arcs i a → (along : Bool) → near a along ≡ node_at ls at → place_of ls (far a along) ≡ 0 → may K prices a along (get_or flow i (pos 0)) ≡ false →
      Followed K arcs flow prices ls at i
  shut_followed ls whole at i place a is along here fresh shut b way bt q m =
      let same : b ≡ a = same_at arcs i b a bt is in
      go way along here fresh shut (subst (λ z. near z way ≡ node_at ls at) same q) (subst (λ z. may K prices z way (get_or flow i (pos 0)) ≡ true) same m)
    where
      go : (y x : Bool) → near a x ≡ node_at ls at → place_of ls (far a x) ≡ 0 → may K prices a x (get_or flow i (pos 0)) ≡ false → near a y ≡ node_at ls at → may K prices a y (get_or flow i (pos 0)) ≡ true → Labelled ls (far b way)
      go true true h f n q m = absurd cc
      go false false h f n q m = absurd cc
      go false true h f n q m = absurd (let p = ap (place_of ls) q in omega (arith, whole.placed at place))
      go true false h f n q m = absurd (let p = ap (place_of ls) q in omega (arith, whole.placed at place))

  -- what is followed stays so
  pub followed_more : (ls ms : Labels) → Grown ls ms → (k i : ℕ) → k < count ls → Followed K arcs flow prices ls k i → Followed K arcs flow prices ms k i
  followed_more ls ms g k i h old a along is q m =
      let r = old a along is (q ∙ ap (λ z. z.node) (g.same k h)) m in
      let e = g.kept (far a along) r in
      omega arith

  -- the arcs from none on are followed once they are gone through
  pub followed_all : (ls : Labels) (k n : ℕ) → drop n arcs ≡ [] → ((i : ℕ) → i < n → (i ≡ chosen → ⊥) → Followed K arcs flow prices ls k i) → AllFollowed K arcs flow prices chosen ls k
  followed_all ls k n none each i other a along is = let l = ap length none in each i (omega (arith, is.0, length-drop n arcs)) other a along is
