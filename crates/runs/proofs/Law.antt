-- The law over runs, from what one call does.
use Rattle.std.proofs.Common.{◌≡◌, ℕ, ◌-◌, ◌<◌, ◌≤◌, Bool, true, false, ◌⊎◌, ◌↔◌, List, [], ◌∷◌, ◌++◌, length, get_or, ℤ, pos, Some, sym, refl, ap, ◌∙◌, subst, subst₂, inl, inr, arith}
use Rattle.std.specs.List.{AllByRecursion}
use Rattle.std.proofs.ByRecursion.{All-push}
use Rattle.std.proofs.lemmas.Bool.{cond-true, cond-false, false≢true}
use Rattle.costs.specs.Kinds.{Kind, Laws, sums}
use Rattle.networks.specs.declared.network.Arc.{Arc}
use Rattle.networks.specs.Nets.{Net, numbered, shown, shown_arc, is_out, arc_at}
use Rattle.flows.specs.Flows.{imbalance, total, EachArc, Ends, Within, Meets, SameImbalances, Least}
use Rattle.flows.specs.Kilter.{lap_limit}
use Rattle.flows.specs.Cuts.{MarksCut}
use Rattle.flows.specs.Settles.{Answered, least, paused, none, Settles}
use Rattle.flows.proofs.Fitted.{Passed, no_stop}
use Rattle.flows.proofs.Needing.{imbalances_long, imbalances_meet}
use Rattle.flows.proofs.Settling.{left_is_least, left_is_none}
use Rattle.runs.specs.States.{State, New, out_of, out_in, NoneOut}
use Rattle.runs.specs.Events.{settle, rebound, recost, take_out, hand_back, settled, Event, is_granted, Granted, GrantedCall, SomeSince, LastAnswered, Rebounds, Recosts}
use Rattle.runs.specs.Steps.{Step, Steps}
use Rattle.runs.specs.Runs.{SameEnds, BoundsAre, CostIs, CameToAnEnd, Run, Lawful, StepsMakeARun}
use Rattle.runs.proofs.Since.{since_new, since_old, since_cases, since_none}
use Rattle.runs.proofs.Ends.{ends_refl, ends_trans, ends_long}
use Rattle.runs.proofs.Locks.{some_out, nowhere_out}
use Rattle.runs.proofs.Effects.{Effect, OnceEach, arc_beneath}
use Rattle.runs.proofs.Ways.{Way, way_refused, way_settled, way_changed, way_taken_up, SettlePasses, way_of, idle, effect_of, needs_of, meets_of, all_ends}

-- ---- what a network shows, by what lies beneath

module _ {C : Type 0} where
  shown_cost : (b : Bool) (y : Arc C) → (shown_arc b y).cost ≡ y.cost
  shown_cost true y = refl
  shown_cost false y = refl

  -- out at some lock-out: 0 to 0
  shut_arc : (n : Net C) (l a : ℕ) (x : Arc C) → arc_at n a ≡ Some x → out_in n l a ≡ true → (x.lo ≡ pos 0) × (x.hi ≡ pos 0)
  shut_arc n l a x h out =
      let r = arc_beneath n a x h in
      let e = r.1.1 ∙ cond-true _ _ _ (some_out n.locks l a out) in
      (ap (λ z. z.lo) e, ap (λ z. z.hi) e)

  -- out at none: as beneath
  open_arc : (n : Net C) (a : ℕ) (x y : Arc C) → arc_at n a ≡ Some x → numbered n.arcs a ≡ Some y → ((l : ℕ) → out_in n l a ≡ false) → x ≡ y
  open_arc n a x y h is clear =
      let r = arc_beneath n a x h in
      let same : Some r.0 ≡ Some y = sym r.1.0 ∙ is in
      let e : r.0 ≡ y = cc in
      r.1.1 ∙ cond-false _ _ _ (nowhere_out n.locks a clear) ∙ e

  cost_arc : (n : Net C) (a : ℕ) (x y : Arc C) → arc_at n a ≡ Some x → numbered n.arcs a ≡ Some y → x.cost ≡ y.cost
  cost_arc n a x y h is =
      let r = arc_beneath n a x h in
      let same : Some r.0 ≡ Some y = sym r.1.0 ∙ is in
      let e : r.0 ≡ y = cc in
      ap (λ z. z.cost) r.1.1 ∙ shown_cost (is_out n.locks a) r.0 ∙ ap (λ z. z.cost) e

-- ---- the law of the run so far, and what it does not say while an arc is out

pub record Track {C : Type 0} (K : Kind C) (o : State C) (es : List (Event C)) (p : State C) : Type 0 where
  pub law : Run K o es p
  pub beneath : NoneOut o.net → (a : ℕ) (y : Arc C) → numbered p.net.arcs a ≡ Some y → BoundsAre o es a y.lo y.hi
  pub costs : (a : ℕ) (y : Arc C) → numbered p.net.arcs a ≡ Some y → CostIs o es a y.cost
  pub once : NoneOut o.net → OnceEach p.net.locks

module _ {C : Type 0} (K : Kind C) where
  pub track_start : (o : State C) → New K o → Track K o [] o
  track_start o new =
      let met : Meets (shown o.net) o.tables.needs o.tables.flow
      = subst (λ z. Meets (shown o.net) z.tables.needs o.tables.flow) (sym new.needs_are) (imbalances_meet o.net.nodes (shown o.net) o.tables.flow o.tables.flow (λ n l h. refl)) in
      let beneath : NoneOut o.net → (a : ℕ) (y : Arc C) → numbered o.net.arcs a ≡ Some y → BoundsAre o [] a y.lo y.hi
      = λ clean a y is. inr (tt, λ x h. let e = open_arc o.net a x y h is (λ l. clean l a) in (ap (λ z. z.lo) e, ap (λ z. z.hi) e)) in
      let costs : (a : ℕ) (y : Arc C) → numbered o.net.arcs a ≡ Some y → CostIs o [] a y.cost
      = λ a y is. inr (tt, λ x h. cost_arc o.net a x y h is) in
      record {
        law = record {
          same_nodes = refl;
          same_ends = ends_refl (shown o.net);
          imbalances = λ n l h. refl;
          needs_stay = refl;
          needs_long = ap (λ z. length z.tables.needs) new.needs_are ∙ imbalances_long (shown o.net) o.tables.flow 1 o.net.nodes;
          needs_are = met;
          least_is_least = λ cost laps last. absurd (since_none (λ e. e.outcome ≡ settled (least cost laps)) Granted last);
          none_is_none = λ last. absurd (since_none (λ e. e.outcome ≡ settled none) Granted last);
          ended = tt;
          outs = λ clean l a. ((λ h. absurd (false≢true (sym (clean l a) ∙ h))), λ h. absurd (since_none (GrantedCall (take_out l a)) (GrantedCall (hand_back l a)) h));
          shut = shut_arc o.net;
          bounds = λ clean a x h clear. let r = arc_beneath o.net a x h in let e = open_arc o.net a x r.0 h r.1.0 clear in
              subst (λ z. BoundsAre o [] a z.lo z.hi) (sym e) (beneath clean a r.0 r.1.0);
          costs = λ a x h. let r = arc_beneath o.net a x h in subst (CostIs o [] a) (sym (cost_arc o.net a x r.0 h r.1.0)) (costs a r.0 r.1.0);
        };
        beneath = beneath;
        costs = costs;
        once = λ clean l p h i j hi hj same out. absurd (false≢true (sym (clean l (get_or p.lines i 0)) ∙ ap (λ x. out_of x (get_or p.lines i 0)) h ∙ out));
      }

  module _ (laws : Laws K) (o p q : State C) (es : List (Event C)) (e : Event C) (t : Track K o es p) (w : Way K p e q) where
    effect : Effect p.net e q.net
    effect = effect_of K p e q w

    ends : SameEnds (shown o.net) (shown p.net)
    ends = t.law.same_ends

    beneath_more : NoneOut o.net → (a : ℕ) (y : Arc C) → numbered q.net.arcs a ≡ Some y → BoundsAre o (es ++ (e ∷ [])) a y.lo y.hi
    beneath_more clean a y is = go ((effect_of K p e q w).bounds a y is)
      where
        more : (lo hi : ℤ) → ¬ Rebounds a e → BoundsAre o es a lo hi → BoundsAre o (es ++ (e ∷ [])) a lo hi
        more lo hi not-now (inl was) = inl (since_old es e (GrantedCall (rebound a lo hi)) (Rebounds a) not-now was)
        more lo hi not-now (inr (never, first)) = inr (All-push (λ x. ¬ Rebounds a x) es e never not-now, first)

        go : GrantedCall (rebound a y.lo y.hi) e ⊎ ((¬ Rebounds a e) × ((x : Arc C) × ((numbered p.net.arcs a ≡ Some x) × (x.lo ≡ y.lo) × (x.hi ≡ y.hi)))) → BoundsAre o (es ++ (e ∷ [])) a y.lo y.hi
        go (inl new) = inl (since_new es e (GrantedCall (rebound a y.lo y.hi)) (Rebounds a) new)
        go (inr (not-now, (x, (was, l, h)))) = more y.lo y.hi not-now (subst₂ (BoundsAre o es a) l h (t.beneath clean a x was))

    costs_more : (a : ℕ) (y : Arc C) → numbered q.net.arcs a ≡ Some y → CostIs o (es ++ (e ∷ [])) a y.cost
    costs_more a y is = go ((effect_of K p e q w).costs a y is)
      where
        more : (c : C) → ¬ Recosts a e → CostIs o es a c → CostIs o (es ++ (e ∷ [])) a c
        more c not-now (inl was) = inl (since_old es e (GrantedCall (recost a c)) (Recosts a) not-now was)
        more c not-now (inr (never, first)) = inr (All-push (λ x. ¬ Recosts a x) es e never not-now, first)

        go : GrantedCall (recost a y.cost) e ⊎ ((¬ Recosts a e) × ((x : Arc C) × ((numbered p.net.arcs a ≡ Some x) × (x.cost ≡ y.cost)))) → CostIs o (es ++ (e ∷ [])) a y.cost
        go (inl new) = inl (since_new es e (GrantedCall (recost a y.cost)) (Recosts a) new)
        go (inr (not-now, (x, (was, c)))) = more y.cost not-now (subst (CostIs o es a) c (t.costs a x was))

    outs_more : NoneOut o.net → (l a : ℕ) → (out_in q.net l a ≡ true) ↔ SomeSince (es ++ (e ∷ [])) (GrantedCall (take_out l a)) (GrantedCall (hand_back l a))
    outs_more clean l a = ((λ h. to (((effect_of K p e q w).outs (t.once clean) l a).0 h)), λ h. ((effect_of K p e q w).outs (t.once clean) l a).1 (from (since_cases es e (GrantedCall (take_out l a)) (GrantedCall (hand_back l a)) h)))
      where
        was : (out_in p.net l a ≡ true) ↔ SomeSince es (GrantedCall (take_out l a)) (GrantedCall (hand_back l a))
        was = t.law.outs clean l a

        to : GrantedCall (take_out l a) e ⊎ ((¬ GrantedCall (hand_back l a) e) × (out_in p.net l a ≡ true)) → SomeSince (es ++ (e ∷ [])) (GrantedCall (take_out l a)) (GrantedCall (hand_back l a))
        to (inl took) = since_new es e (GrantedCall (take_out l a)) (GrantedCall (hand_back l a)) took
        to (inr (kept, h)) = since_old es e (GrantedCall (take_out l a)) (GrantedCall (hand_back l a)) kept ((t.law.outs clean l a).0 h)

        from : GrantedCall (take_out l a) e ⊎ ((¬ GrantedCall (hand_back l a) e) × SomeSince es (GrantedCall (take_out l a)) (GrantedCall (hand_back l a))) → GrantedCall (take_out l a) e ⊎ ((¬ GrantedCall (hand_back l a) e) × (out_in p.net l a ≡ true))
        from (inl took) = inl took
        from (inr (kept, h)) = inr (kept, (t.law.outs clean l a).1 h)

    -- what was known of the plan before still is where the event was not granted
    unmoved : (P : State C → Type 0) → ¬ Granted e → P p → P q
    unmoved P no-grant h = subst P (sym (idle K p e q w no-grant)) h

    passed_ends : SettlePasses K p → AllByRecursion (Ends p.net.nodes) (shown p.net)
    passed_ends ok = all_ends K p.net.nodes (shown p.net) (no_stop K p.net p.tables.flow p.tables.needs (length p.tables.prices) (length p.tables.marks) ok).fits

    abbrev LeastAt : C → State C → Type 0
    LeastAt cost z = EachArc Within (shown z.net) z.tables.flow × (cost ≡ total (sums K) (shown z.net) z.tables.flow) × Least K z.net.nodes (shown z.net) z.tables.flow

    least_now : (cost : C) (laps : ℕ) → e.outcome ≡ settled (least cost laps) → LeastAt cost q
    least_now cost laps is = go w
      where
        go : Way K p e q → LeastAt cost q
        go (way_refused s not_so same) = absurd cc
        go (way_changed c not_so f same) = absurd cc
        go (way_taken_up fs c not_so ok same) = absurd cc
        go (way_settled b x c so ok same s) =
            let x-is : x ≡ least cost laps = cc in
            let r = (subst (λ y. Settles K p.net.nodes (shown p.net) b p.tables y q.tables) x-is s).answers in
            let f = left_is_least K laws p.net.nodes (shown p.net) b p.tables cost laps q.tables (passed_ends ok) r in
            subst (λ (m : Net C). EachArc Within (shown m) q.tables.flow × (cost ≡ total (sums K) (shown m) q.tables.flow) × Least K m.nodes (shown m) q.tables.flow) (sym same) (f.0, r.total_is, f.1)

    least_more : (cost : C) (laps : ℕ) → LastAnswered (es ++ (e ∷ [])) (least cost laps) → LeastAt cost q
    least_more cost laps last = go (since_cases es e (λ x. x.outcome ≡ settled (least cost laps)) Granted last)
      where
        go : (e.outcome ≡ settled (least cost laps)) ⊎ ((¬ Granted e) × LastAnswered es (least cost laps)) → LeastAt cost q
        go (inl is) = least_now cost laps is
        go (inr (no-grant, before)) = unmoved (LeastAt cost) no-grant (t.law.least_is_least cost laps before)

    abbrev NoneAt : State C → Type 0
    NoneAt z = MarksCut (shown z.net) z.tables.needs z.tables.marks × ((g : List ℤ) → EachArc Within (shown z.net) g → ¬ SameImbalances z.net.nodes (shown z.net) z.tables.flow g)

    none_now : e.outcome ≡ settled none → NoneAt q
    none_now is = go w
      where
        go : Way K p e q → NoneAt q
        go (way_refused s not_so same) = absurd cc
        go (way_changed c not_so f same) = absurd cc
        go (way_taken_up fs c not_so ok same) = absurd cc
        go (way_settled b x c so ok same s) =
            let x-is : x ≡ none = cc in
            let r = (subst (λ y. Settles K p.net.nodes (shown p.net) b p.tables y q.tables) x-is s).answers in
            let n : Passed K p.net p.tables.flow p.tables.needs (length p.tables.prices) (length p.tables.marks) = no_stop K p.net p.tables.flow p.tables.needs (length p.tables.prices) (length p.tables.marks) ok in
            let sure = left_is_none (shown p.net) p.tables q.tables (subst (λ N. AllByRecursion (Ends N) (shown p.net)) (sym n.needs_long) (passed_ends ok)) r in
            let cut : MarksCut (shown p.net) q.tables.needs q.tables.marks = subst (λ ns. MarksCut (shown p.net) ns q.tables.marks) (sym s.needs_stay) r.cut in
            let never : (g : List ℤ) → EachArc Within (shown p.net) g → ¬ SameImbalances p.net.nodes (shown p.net) q.tables.flow g
            = λ g within alike. sure g within (λ m l h. sym (alike m l (omega (arith, h, n.needs_long))) ∙ ap (λ fs. imbalance (shown p.net) fs m) r.as_found ∙ n.meets m l h) in
            subst (λ (m : Net C). MarksCut (shown m) q.tables.needs q.tables.marks × ((g : List ℤ) → EachArc Within (shown m) g → ¬ SameImbalances m.nodes (shown m) q.tables.flow g)) (sym same) (cut, never)

    none_more : LastAnswered (es ++ (e ∷ [])) none → NoneAt q
    none_more last = go (since_cases es e (λ x. x.outcome ≡ settled none) Granted last)
      where
        go : (e.outcome ≡ settled none) ⊎ ((¬ Granted e) × LastAnswered es none) → NoneAt q
        go (inl is) = none_now is
        go (inr (no-grant, before)) = unmoved NoneAt no-grant (t.law.none_is_none before)

    ended_now : (budget : ℕ) → GrantedCall (settle budget) e → lap_limit (length (shown o.net)) ≤ budget → CameToAnEnd e.outcome
    ended_now budget (c, g) enough = go w
      where
        by_answer : (b : ℕ) (x : Answered C) → b ≡ budget → e.outcome ≡ settled x → Settles K p.net.nodes (shown p.net) b p.tables x q.tables → CameToAnEnd e.outcome
        by_answer b (least cost laps) same is s = inl (cost, (laps, is))
        by_answer b none same is s = inr is
        by_answer b (paused laps) same is s =
            let r = s.answers in
            let long : length (shown p.net) ≡ length (shown o.net) = ends_long (shown o.net) (shown p.net) t.law.same_ends in
            let below : laps < lap_limit (length (shown o.net)) = subst (λ n. laps < lap_limit n) long r.below_limit in
            absurd (omega (arith, below, enough, r.whole_budget, same))

        go : Way K p e q → CameToAnEnd e.outcome
        go (way_refused s is same) = absurd (false≢true (sym (ap is_granted is) ∙ g))
        go (way_changed no-settle is f same) = absurd (no-settle budget c)
        go (way_taken_up fs k is ok same) = absurd cc
        go (way_settled b x k is ok same s) = by_answer b x (cc) is s

    pub track_more : Track K o (es ++ (e ∷ [])) q
    track_more =
        let met : Meets (shown q.net) q.tables.needs q.tables.flow = meets_of K p e q w t.law.needs_are in
        let stay : q.tables.needs ≡ o.tables.needs = needs_of K p e q w ∙ t.law.needs_stay in
        let nodes : q.net.nodes ≡ o.net.nodes = (effect_of K p e q w).nodes ∙ t.law.same_nodes in
        let long : length q.tables.needs ≡ q.net.nodes = ap length (needs_of K p e q w) ∙ t.law.needs_long ∙ sym (effect_of K p e q w).nodes in
        record {
          law = record {
            same_nodes = nodes;
            same_ends = ends_trans (shown o.net) (shown p.net) (shown q.net) t.law.same_ends (effect_of K p e q w).ends;
            imbalances = λ n l h.
                met n l (omega (arith, h, long, nodes)) ∙ ap (λ ns. get_or ns (n - 1) (pos 0)) (needs_of K p e q w) ∙
                sym (t.law.needs_are n l (omega (arith, h, t.law.needs_long, t.law.same_nodes))) ∙ t.law.imbalances n l h;
            needs_stay = stay;
            needs_long = long;
            needs_are = met;
            least_is_least = least_more;
            none_is_none = none_more;
            ended = All-push (λ x. (budget : ℕ) → GrantedCall (settle budget) x → lap_limit (length (shown o.net)) ≤ budget → CameToAnEnd x.outcome) es e t.law.ended ended_now;
            outs = outs_more;
            shut = shut_arc q.net;
            bounds = λ clean a x h clear. let r = arc_beneath q.net a x h in let f = open_arc q.net a x r.0 h r.1.0 clear in
                subst (λ z. BoundsAre o (es ++ (e ∷ [])) a z.lo z.hi) (sym f) (beneath_more clean a r.0 r.1.0);
            costs = λ a x h. let r = arc_beneath q.net a x h in subst (CostIs o (es ++ (e ∷ [])) a) (sym (cost_arc q.net a x r.0 h r.1.0)) (costs_more a r.0 r.1.0);
          };
          beneath = beneath_more;
          costs = costs_more;
          once = λ clean. (effect_of K p e q w).once (t.once clean);
        }

-- ---- chains of steps

module _ {C : Type 0} (K : Kind C) (laws : Laws K) where
  track_steps : (o p q : State C) (before es : List (Event C)) → Track K o before p → Steps K p es q → Track K o (before ++ es) q
  track_steps o p q before [] t same = subst₂ (Track K o) (sym (nothing before)) same t
    where
      nothing : {X : Type 0} (xs : List X) → xs ++ [] ≡ xs
      nothing [] = refl
      nothing (x ∷ xs) = ap (λ ys. x ∷ ys) (nothing xs)
  track_steps o p q before (e ∷ es) t (m, s, more) =
      subst (λ xs. Track K o xs q) (grouped before) (track_steps o m q (before ++ (e ∷ [])) es (track_more K laws o p m before e t (way_of K p e m s)) more)
    where
      grouped : (xs : List (Event C)) → (xs ++ (e ∷ [])) ++ es ≡ xs ++ (e ∷ es)
      grouped [] = refl
      grouped (x ∷ xs) = ap (λ ys. x ∷ ys) (grouped xs)

  pub steps_make_a_run : StepsMakeARun K
  steps_make_a_run o q es new steps = (track_steps o o q [] es (track_start K o new) steps).law

  -- one step more
  pub steps_more : (o p q : State C) (es : List (Event C)) (e : Event C) → Steps K o es p → Step K p e q → Steps K o (es ++ (e ∷ [])) q
  steps_more o p q [] e same s = (q, subst (λ z. Step K z e q) (sym same) s, refl)
  steps_more o p q (x ∷ es) e (m, one, more) s = (m, one, steps_more m p q es e more s)

  -- whoever takes the step keeps the law
  pub lawful : (p q : State C) (e : Event C) → Step K p e q → Lawful K p e q
  lawful p q e s o es new steps = steps_make_a_run o q (es ++ (e ∷ [])) new (steps_more o p q es e steps s)
