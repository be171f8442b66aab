-- The way back by the labels is a lap with the chosen arc.
use Rattle.std.proofs.Common.{◌≡◌, ℕ, ◌+◌, ◌<◌, ◌≤◌, Bool, true, false, cond, List, [], ◌∷◌, map, length, get_or, set, ℤ, pos, negsuc, ◌+ℤ◌, ◌-◌, ◌-ℤ◌, neg_ℤ, nat_abs, nat_lt, Some, ◌≤ℤ◌, ◌<ℤ◌, sym, refl, ap, ◌∙◌, subst, subst₂, ⊎_elim, arith, length-set}
use borrow.Author.Differences.{ints}
use Rattle.std.specs.List.{AllByRecursion}
use Rattle.std.proofs.lemmas.List.{get_or-set_same, get_or-set_other, get_or_past}
use Rattle.std.proofs.lemmas.Bool.{cases_eq, cases_lt, ltb-true}
use Rattle.std.proofs.lemmas.Option.{cond_some}
use Rattle.costs.specs.Kinds.{Kind, Laws}
use Rattle.flows.specs.Kilter.{reduced}
use Rattle.flows.specs.searching.Fits.{Fit, Fitting, Small}
use Rattle.flows.specs.Flows.{Ends}
use Rattle.flows.specs.Kilter.{kilter_sum}
use Rattle.flows.specs.Laps.{Leads, near, first, Chain, Apart, moved, sent, Lap, Better}
use Rattle.networks.specs.declared.network.Arc.{Arc}
use Rattle.flows.specs.declared.steps.Step.{Step}
use Rattle.flows.proofs.ArcSums.{at_place}
use Rattle.flows.proofs.Chains.{lap_apart}
use Rattle.flows.proofs.Lapping.{length_sent}
use Rattle.flows.proofs.Rooms.{Room, HasRoom, roomy_from_start, lap_better, arc_falls}
use Rattle.labels.specs.declared.labelling.Labels.{Labels}
use Rattle.labels.specs.Moves.{limit_at, room_at}
use Rattle.labels.specs.Good.{count, node_at, place_of, place_at, Labelled, Whole, Good}
use Rattle.labels.specs.Ways.{Way, Moving, FitsIn, LeastRoom, Steady, Chosen, GoneRound}

-- what has room: at most the limit, which is within the bounds
room_from : {C : Type 0} (K : Kind C) (laws : Laws K) (N : ℕ) (prices : List C) (arcs : List (Arc C)) (a : Arc C) (along : Bool) (f x : ℤ) → Fit K N a → pos 1 ≤ℤ x → x ≤ℤ room_at K prices a along f →
    Room K prices a along f (f +ℤ cond along x (neg_ℤ x))
room_from K laws N prices arcs a true f x fit low h = record {
  fits = fit.order;
  if_along = λ _. (more f x low, upto f x (limit_at K (reduced K prices a) a true) h);
  if_against = λ e. cc;
}
  where
    more : (f x : ℤ) → pos 1 ≤ℤ x → f <ℤ (f +ℤ x)
    more f x h = omega (arith, ints)

    upto : (f x l : ℤ) → x ≤ℤ (l -ℤ f) → (f +ℤ x) ≤ℤ l
    upto f x l h = omega (arith, ints)
room_from K laws N prices arcs a false f x fit low h = record {
  fits = fit.order;
  if_along = λ e. cc;
  if_against = λ _. (less f x low, downto f x (limit_at K (reduced K prices a) a false) h);
}
  where
    less : (f x : ℤ) → pos 1 ≤ℤ x → (f +ℤ neg_ℤ x) <ℤ f
    less f x h = omega (arith, ints)

    downto : (f x l : ℤ) → x ≤ℤ (f -ℤ l) → l ≤ℤ (f +ℤ neg_ℤ x)
    downto f x l h = omega (arith, ints)

-- and stays within a million
room_small : {C : Type 0} (K : Kind C) (N : ℕ) (prices : List C) (a : Arc C) (along : Bool) (f x : ℤ) → Fit K N a → pos 1 ≤ℤ x → x ≤ℤ room_at K prices a along f → nat_abs f ≤ 1000000 → nat_abs (f +ℤ cond along x (neg_ℤ x)) ≤ 1000000
room_small K N prices a true f x fit low h s = go (K.le (reduced K prices a) K.zero) h
  where
    go : (b : Bool) → x ≤ℤ (cond b a.hi a.lo -ℤ f) → nat_abs (f +ℤ x) ≤ 1000000
    go true q = let k = fit.high in omega (arith, ints)
    go false q = let k = fit.low in omega (arith, ints)
room_small K N prices a false f x fit low h s = go (K.le K.zero (reduced K prices a)) h
  where
    go : (b : Bool) → x ≤ℤ (f -ℤ cond b a.lo a.hi) → nat_abs (f +ℤ neg_ℤ x) ≤ 1000000
    go true q = let k = fit.low in omega (arith, ints)
    go false q = let k = fit.high in omega (arith, ints)

-- the chosen step sets out from a node
pub sought_there : {C : Type 0} (K : Kind C) (N : ℕ) (arcs : List (Arc C)) (flow : List ℤ) (prices : List C) (s : Step) (n : ℕ) → Fitting K N arcs → Chosen K arcs flow prices s n → (1 ≤ s.node) × (s.node ≤ N)
sought_there K N arcs flow prices s n fitting ch =
    let fit = fitting s.arc ch.leads.0 ch.leads.1 in
    let ends : (b : Bool) → (1 ≤ near ch.leads.0 b) × (near ch.leads.0 b ≤ N) = λ b. go b fit.ends in
    subst (λ z. (1 ≤ z) × (z ≤ N)) ch.leads.2 (ends s.along)
  where
    go : (b : Bool) → Ends N ch.leads.0 → (1 ≤ near ch.leads.0 b) × (near ch.leads.0 b ≤ N)
    go true e = (e.0, e.1)
    go false e = (e.2, e.3)

-- what is labelled is within the table
pub labelled_within : (N : ℕ) (ls : Labels) (n : ℕ) → Whole N ls → Labelled ls n → n ≤ 256
labelled_within N ls n w h = ⊎_elim (λ (q : n - 1 < length ls.places). omega (arith, w.places_long)) (λ (q : length ls.places ≤ n - 1). absurd (let z = get_or_past ls.places (n - 1) 0 q in omega (arith, h))) (cases_lt (n - 1) (length ls.places))

-- the place that it has
pub sought_place : {C : Type 0} (K : Kind C) (arcs : List (Arc C)) (flow : List ℤ) (prices : List C) (s : Step) (ls : Labels) (k : ℕ) → Fitting K (length prices) arcs → Good K arcs flow prices s.arc ls → Chosen K arcs flow prices s (node_at ls 0) →
    place_at ls s.node ≡ Some k → (k < count ls) × (node_at ls k ≡ s.node)
sought_place K arcs flow prices s ls k fitting good ch e =
    let p = cond_some (nat_lt 0 (place_of ls s.node)) (place_of ls s.node - 1) k e in
    let labelled = ltb-true 0 (place_of ls s.node) p.0 in
    let there = good.whole.holds s.node (sought_there K (length prices) arcs flow prices s (node_at ls 0) fitting ch).0 labelled in
    (omega (arith, there.0, labelled, p.1), ap (node_at ls) (sym p.1) ∙ there.1)

set_small : (fs : List ℤ) (i : ℕ) (y : ℤ) → i < length fs → Small fs → nat_abs y ≤ 1000000 → Small (set fs i y)
set_small fs i y h s k j = ⊎_elim
    (λ (q : j ≡ i). subst (λ z. nat_abs z ≤ 1000000) (sym (ap (λ z. get_or (set fs i y) z (pos 0)) q ∙ get_or-set_same fs i y (pos 0) h)) k)
    (λ (q : j ≡ i → ⊥). subst (λ z. nat_abs z ≤ 1000000) (sym (get_or-set_other fs i j y (pos 0) q)) (s j))
    (cases_eq j i)

module _ {C : Type 0} (K : Kind C) (laws : Laws K) (arcs : List (Arc C)) (flow : List ℤ) (prices : List C) (fitting : Fitting K (length prices) arcs) where
  -- each step fits, and no arc is gone over twice: each is within the limits in its turn
  steady_from : (x : ℤ) (steps : List Step) (fs : List ℤ) → length fs ≡ length arcs → pos 1 ≤ℤ x → Small fs → Apart (map (λ s. s.arc) steps) → AllByRecursion (λ s. s.arc < length arcs) steps → AllByRecursion (FitsIn K arcs fs prices x) steps → Steady x steps fs × Small (sent x steps fs)
  steady_from x [] fs l low small ap' is all = (tt, small)
  steady_from x (s ∷ rest) fs l low small (n, ns) (i, is) (h, hs) =
      let r = at_place arcs s.arc i in
      let m : nat_abs (moved x s fs) ≤ 1000000 = room_small K (length prices) prices r.0 s.along (get_or fs s.arc (pos 0)) x (fitting s.arc r.0 r.1) low (h r.0 r.1) (small s.arc) in
      let spot : s.arc < length fs = omega arith in
      let k = steady_from x rest (set fs s.arc (moved x s fs)) (length-set fs s.arc (moved x s fs) ∙ l) low (set_small fs s.arc (moved x s fs) spot small m) ns is (kept (moved x s fs) s.arc rest n hs) in
      ((spot, m, k.0), k.1)
    where
      kept : (y : ℤ) (j : ℕ) (ts : List Step) → AllByRecursion (λ i. ¬ (j ≡ i)) (map (λ t. t.arc) ts) → AllByRecursion (FitsIn K arcs fs prices x) ts → AllByRecursion (FitsIn K arcs (set fs j y) prices x) ts
      kept y j [] n h = tt
      kept y j (t ∷ ts) (n, ns) (h, hs) = ((λ a is. subst (λ z. x ≤ℤ room_at K prices a t.along z) (sym (get_or-set_other fs j t.arc y (pos 0) (λ q. n (sym q)))) (h a is)), kept y j ts ns hs)

  rooms_from : (x : ℤ) (steps : List Step) → pos 1 ≤ℤ x → AllByRecursion (FitsIn K arcs flow prices x) steps → AllByRecursion (HasRoom K prices arcs x flow) steps
  rooms_from x [] low h = tt
  rooms_from x (s ∷ rest) low (h, hs) = ((λ a is. room_from K laws (length prices) prices arcs a s.along (get_or flow s.arc (pos 0)) x (fitting s.arc a is) low (h a is)), rooms_from x rest low hs)

  module _ (chosen : ℕ) (ls : Labels) (good : Good K arcs flow prices chosen ls) (k : ℕ) (place : k < count ls) where
    way_le : (steps : List Step) (j : ℕ) → Way ls j steps k → j ≤ k
    way_le [] j e = omega arith
    way_le (s ∷ rest) j (m, l, h, e, p, w) = let r = way_le rest m w in let q = (good.linked m l h).earlier in omega arith

    way_first : (steps : List Step) (j : ℕ) → Way ls j steps k → first steps (node_at ls k) ≡ node_at ls j
    way_first [] j e = ap (node_at ls) (sym e)
    way_first (s ∷ rest) j (m, l, h, e, p, w) = ap (λ z. z.node) (sym e) ∙ (good.linked m l h).sets_out ∙ ap (node_at ls) p

    way_chain : (steps : List Step) (j : ℕ) → Way ls j steps k → Chain arcs steps (node_at ls k)
    way_chain [] j e = tt
    way_chain (s ∷ rest) j (m, l, h, e, p, w) = (subst₂ (λ y n. Leads arcs y n) e (sym (way_first rest m w)) (good.linked m l h).opens.leads, way_chain rest m w)

    -- the nodes of the steps stand at places from j on, and before k
    way_places : (steps : List Step) (j : ℕ) → j < count ls → Way ls j steps k → AllByRecursion (λ n. (j < place_of ls n) × (place_of ls n ≤ k)) (map (λ s. s.node) steps)
    way_places [] j c e = tt
    way_places (s ∷ rest) j c (m, l, h, e, p, w) =
        let at : place_of ls s.node ≡ j + 1 = ap (place_of ls) (way_first (s ∷ rest) j (m, l, h, e, p, w)) ∙ good.whole.placed j c in
        let less = (good.linked m l h).earlier in
        let more = way_le rest m w in
        ((omega arith, omega arith), later (map (λ s. s.node) rest) (way_places rest m h w))
      where
        later : (ns : List ℕ) → AllByRecursion (λ n. (m < place_of ls n) × (place_of ls n ≤ k)) ns → AllByRecursion (λ n. (j < place_of ls n) × (place_of ls n ≤ k)) ns
        later [] a = tt
        later (n ∷ ns) (a, more) = let less = (good.linked m l h).earlier in ((omega arith, a.1), later ns more)

    way_apart : (steps : List Step) (j : ℕ) → j < count ls → Way ls j steps k → Apart (map (λ s. s.node) steps)
    way_apart [] j c e = tt
    way_apart (s ∷ rest) j c (m, l, h, e, p, w) =
        let at : place_of ls s.node ≡ j + 1 = ap (place_of ls) (way_first (s ∷ rest) j (m, l, h, e, p, w)) ∙ good.whole.placed j c in
        (other at (map (λ s. s.node) rest) (way_places rest m h w), way_apart rest m h w)
      where
        other : place_of ls s.node ≡ j + 1 → (ns : List ℕ) → AllByRecursion (λ n. (m < place_of ls n) × (place_of ls n ≤ k)) ns → AllByRecursion (λ n. ¬ (s.node ≡ n)) ns
        other at [] a = tt
        other at (n ∷ ns) (a, more) = ((λ q. let less = (good.linked m l h).earlier in let r = ap (place_of ls) q in omega (arith, a.0)), other at ns more)

    -- none of them is the last node
    way_ends : (ns : List ℕ) → AllByRecursion (λ n. (0 < place_of ls n) × (place_of ls n ≤ k)) ns → AllByRecursion (λ n. ¬ (node_at ls k ≡ n)) ns
    way_ends [] a = tt
    way_ends (n ∷ ns) (a, more) = ((λ q. let r = ap (place_of ls) q in omega (arith, a.1, good.whole.placed k place)), way_ends ns more)

    way_moving : (steps : List Step) (j : ℕ) → Way ls j steps k → AllByRecursion (Moving K arcs flow prices) steps
    way_moving [] j e = tt
    way_moving (s ∷ rest) j (m, l, h, e, p, w) = let o = (good.linked m l h).opens in (subst (Moving K arcs flow prices) e (o.leads.1.0, o.may_move), way_moving rest m w)

    way_other : (steps : List Step) (j : ℕ) → Way ls j steps k → AllByRecursion (λ s. ¬ (s.arc ≡ chosen)) steps
    way_other [] j e = tt
    way_other (s ∷ rest) j (m, l, h, e, p, w) = (subst (λ z. ¬ (z.arc ≡ chosen)) e (good.linked m l h).opens.other, way_other rest m w)

  module _ (s : Step) (ls : Labels) (good : Good K arcs flow prices s.arc ls) (k : ℕ) (place : k < count ls) (is : node_at ls k ≡ s.node) (rest : List Step) (way : Way ls 0 rest k)
      (long : length flow ≡ length arcs) (small : Small flow) (ch : Chosen K arcs flow prices s (node_at ls 0)) where
    pub all_moving : AllByRecursion (Moving K arcs flow prices) (s ∷ rest)
    all_moving = (ch.moving, way_moving s.arc ls good k place rest 0 way)

    chain : Chain arcs (s ∷ rest) s.node
    chain = subst (λ z. Chain arcs (s ∷ rest) z) is (subst (λ z. Leads arcs s z) (sym (way_first s.arc ls good k place rest 0 way)) ch.leads, way_chain s.arc ls good k place rest 0 way)

    nodes : Apart (map (λ t. t.node) (s ∷ rest))
    nodes = (subst (λ z. AllByRecursion (λ n. ¬ (z ≡ n)) (map (λ t. t.node) rest)) is (way_ends s.arc ls good k place (map (λ t. t.node) rest) (way_places s.arc ls good k place rest 0 (omega (arith, good.some)) way)), way_apart s.arc ls good k place rest 0 (omega (arith, good.some)) way)

    apart : Apart (map (λ t. t.arc) (s ∷ rest))
    apart = lap_apart arcs s rest chain nodes (λ t e q. only rest (way_other s.arc ls good k place rest 0 way) t e (sym q))
      where
        only : (ts : List Step) → AllByRecursion (λ t. ¬ (t.arc ≡ s.arc)) ts → (t : Step) → ts ≡ t ∷ [] → t.arc ≡ s.arc → ⊥
        only [] o t e q = cc
        only (u ∷ us) (o, os) t e q = let same : u ≡ t = cc in o (ap (λ z. z.arc) same ∙ q)

    inside : (ts : List Step) → AllByRecursion (Moving K arcs flow prices) ts → AllByRecursion (λ t. t.arc < length arcs) ts
    inside [] m = tt
    inside (t ∷ ts) (m, ms) = (m.0, inside ts ms)

    pub steady : (x : ℤ) → pos 1 ≤ℤ x → AllByRecursion (FitsIn K arcs flow prices x) (s ∷ rest) → Steady x (s ∷ rest) flow × Small (sent x (s ∷ rest) flow)
    steady x low fits = steady_from x (s ∷ rest) flow long low small apart (inside (s ∷ rest) all_moving) fits

    whole : (x : ℤ) → pos 1 ≤ℤ x → pos (nat_abs x) ≡ x
    whole (pos n) h = refl
    whole (negsuc n) h = absurd (omega (arith, ints))

    units : (x : ℤ) → pos 1 ≤ℤ x → 1 ≤ nat_abs x
    units x h = omega (arith, ints)

    -- any amount of at least 1 goes round
    pub round : (x : ℤ) → pos 1 ≤ℤ x → Lap arcs flow (sent x (s ∷ rest) flow)
    round x low = record {
      steps = s ∷ rest;
      amount = nat_abs x;
      some_steps = omega arith;
      closed = chain;
      apart = nodes;
      some_amount = units x low;
      sent_on = ap (λ z. sent z (s ∷ rest) flow) (whole x low);
    }

    -- where it fits, the flow is better then
    pub round_betters : (x : ℤ) → pos 1 ≤ℤ x → AllByRecursion (FitsIn K arcs flow prices x) (s ∷ rest) → (kilter_sum K prices arcs (sent x (s ∷ rest) flow) < kilter_sum K prices arcs flow) × Better K arcs flow (sent x (s ∷ rest) flow)
    round_betters x low fits = lap_better K laws prices arcs x s rest flow long chain (roomy_from_start K prices arcs x (s ∷ rest) flow apart (rooms_from x (s ∷ rest) low fits)) ch.amiss

    pub gone : (x : ℤ) (g : List ℤ) → pos 1 ≤ℤ x → LeastRoom K arcs flow prices (s ∷ rest) x → g ≡ sent x (s ∷ rest) flow → GoneRound K arcs prices flow g
    unfolding round
    gone x g low r e =
        let b = round_betters x low r.fits in
        subst (GoneRound K arcs prices flow) (sym e) (record {
          lap = round x low;
          full = subst (LeastRoom K arcs flow prices (s ∷ rest)) (sym (whole x low)) r;
          nearer = b.0;
          better = b.1;
          small = (steady x low r.fits).1;
          eased = λ i a is. arc_falls K laws prices arcs x (s ∷ rest) flow i a long is (roomy_from_start K prices arcs x (s ∷ rest) flow apart (rooms_from x (s ∷ rest) low r.fits));
          long = length_sent x (s ∷ rest) flow;
        })
