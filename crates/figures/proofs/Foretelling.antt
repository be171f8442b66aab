-- What a step says of a settle, of a call that is done, and so of a figure.
use Rattle.std.proofs.Common.{◌≡◌, ℕ, zero, suc, ◌≤◌, true, List, [], ◌∷◌, length, ℤ, None, sym, refl, ap, ◌∙◌, subst, arith}
use Rattle.std.specs.List.{AllByRecursion}
use Rattle.costs.specs.Kinds.{Kind, Laws, sums}
use Rattle.networks.specs.Nets.{Net, shown}
use Rattle.networks.proofs.Shown.{length_shown}
use Rattle.flows.specs.Flows.{imbalances_from, total, EachArc, Within, Ends, Meets}
use Rattle.flows.specs.Kilter.{InKilter, lap_limit}
use Rattle.flows.specs.Laps.{Lap, Better, Laps}
use Rattle.flows.specs.Cuts.{MarksCut, marked}
use Rattle.flows.specs.Stops.{first_stop, open_stop}
use Rattle.flows.specs.Passing.{pass_stop}
use Rattle.flows.specs.Settles.{Answered, least, paused, none, Answers, Settles, InWords}
use Rattle.flows.proofs.Fitted.{Passed, no_stop}
use Rattle.flows.proofs.Least.{kilter_is_least, kilter_within}
use Rattle.flows.proofs.Cuts.{cut_shows_none}
use Rattle.flows.proofs.Settling.{in_words}
use Rattle.flows.proofs.Passes.{passes, all_in_kilter}
use Rattle.runs.specs.States.{State, state, opening_stop, opened}
use Rattle.runs.specs.Events.{Asked, settle, Came, settled, done, event}
use Rattle.runs.specs.Steps.{stop_of, Grants, Does, Step}
use Rattle.runs.proofs.Ways.{all_ends}
use Rattle.figures.specs.Figures.{Due, least_by, least_at_once, none_by, is_done, Figure, Foretold, Begins, Right}
use Rattle.figures.proofs.Tests.{cuts, cuts_pass}

module _ {C : Type 0} (K : Kind C) where
  -- a plan by its network, its flow and its needs
  plan_is : (q : State C) (n : Net C) (f ds : List ℤ) → q.net ≡ n → q.tables.flow ≡ f → q.tables.needs ≡ ds → q ≡ state n f ds q.tables.prices q.tables.marks
  plan_is q n f ds a b c =
      let st : Net C → List ℤ → List ℤ → State C = λ x y z. state x y z q.tables.prices q.tables.marks in
      let e : st q.net q.tables.flow q.tables.needs ≡ st n q.tables.flow q.tables.needs = ap (λ x. st x q.tables.flow q.tables.needs) a in
      let d : st n q.tables.flow q.tables.needs ≡ st n f q.tables.needs = ap (λ x. st n x q.tables.needs) b in
      let g : st n f q.tables.needs ≡ st n f ds = ap (λ x. st n f x) c in
      e ∙ d ∙ g

  -- a call that is done leads to the plan due, and the calls after it go on from there
  pub done_then : (p due : State C) (c : Asked C) (calls : List (Asked C × Due C)) → stop_of K p c ≡ None → ((o : Came C) (q : State C) → Grants K p c o q → Does o q due) → Foretold K due calls →
      Foretold K p ((c, is_done) ∷ calls)
  done_then p due c calls ok does next o q s =
      let d = does o q (s.grants ok) in
      (d.0, subst (λ z. Foretold K z calls) (sym d.1) next)

  module _ (laws : Laws K) (n : Net C) (flow needs : List ℤ) (ps : List C) (ms : List ℕ) (priced : length ps ≡ n.nodes) (marked_all : length ms ≡ n.nodes) (fits : first_stop K.size n flow needs n.nodes n.nodes ≡ None) where
    abbrev found : State C
    found = state n flow needs ps ms

    abbrev budget : ℕ
    budget = lap_limit (length (shown n))

    ok : first_stop K.size n flow needs (length ps) (length ms) ≡ None
    ok = ap (λ x. first_stop K.size n flow needs x (length ms)) priced ∙ ap (λ x. first_stop K.size n flow needs n.nodes x) marked_all ∙ fits

    passed : Passed K n flow needs (length ps) (length ms)
    passed = no_stop K n flow needs (length ps) (length ms) ok

    ends : AllByRecursion (Ends n.nodes) (shown n)
    ends = all_ends K n.nodes (shown n) passed.fits

    need_ends : AllByRecursion (Ends (length needs)) (shown n)
    need_ends = subst (λ z. AllByRecursion (Ends z) (shown n)) (sym passed.needs_long) ends

    -- what every settle with the full budget leaves
    record Left (q : State C) : Type 0 where
      pub net : q.net ≡ n
      pub needs_are : q.tables.needs ≡ needs
      pub prices_long : length q.tables.prices ≡ n.nodes
      pub marks_long : length q.tables.marks ≡ n.nodes

    left_by : (q : State C) (x : Answered C) → q.net ≡ n → Settles K n.nodes (shown n) budget found.tables x q.tables → Left q
    left_by q x same s = record { net = same; needs_are = s.needs_stay; prices_long = s.prices_long ∙ priced; marks_long = s.marks_long ∙ marked_all }

    words_of : (q : State C) (x : Answered C) → Settles K n.nodes (shown n) budget found.tables x q.tables → InWords K n.nodes (shown n) budget found.tables x q.tables
    words_of q x s = in_words K laws n budget found.tables passed q.tables x s

    -- the flow left is within the bounds, meets the needs, and costs as much as one in kilter
    record LeastLike (g : List ℤ) (o : Came C) (q : State C) : Type 0 where
      pub laps : ℕ
      pub outcome : o ≡ settled (least (total (sums K) (shown n) g) laps)
      pub within : EachArc Within (shown n) q.tables.flow
      pub meets : Meets (shown n) needs q.tables.flow
      pub costs : total (sums K) (shown n) q.tables.flow ≡ total (sums K) (shown n) g
      pub lapped : Laps K (shown n) flow laps q.tables.flow

    least_like : (g : List ℤ) (prices : List C) → EachArc (InKilter K prices) (shown n) g → Meets (shown n) needs g → (o : Came C) (q : State C) (x : Answered C) → o ≡ settled x →
        Settles K n.nodes (shown n) budget found.tables x q.tables → LeastLike g o q
    least_like g prices kilter meets o q x is s = go x is s (words_of q x s)
      where
        within : EachArc Within (shown n) g
        within = kilter_within K laws prices (shown n) g kilter

        go : (x : Answered C) → o ≡ settled x → Settles K n.nodes (shown n) budget found.tables x q.tables → InWords K n.nodes (shown n) budget found.tables x q.tables → LeastLike g o q
        go (least cost laps) is s w =
            let long : (m : ℕ) → m ≤ n.nodes → m ≤ length needs = λ m h. subst (λ z. m ≤ z) (sym passed.needs_long) h in
            let same : total (sums K) (shown n) q.tables.flow ≡ total (sums K) (shown n) g = laws.antisym _ _
            (w.says.1 g within (λ m l h. w.meets m l (long m h) ∙ sym (meets m l (long m h))))
            (kilter_is_least K laws n.nodes (shown n) g prices ends kilter q.tables.flow w.says.0 (λ m l h. meets m l (long m h) ∙ sym (w.meets m l (long m h)))) in
            record {
              laps = laps;
              outcome = is ∙ ap (λ t. settled (least t laps)) (s.answers.total_is ∙ same);
              within = w.says.0;
              meets = w.meets;
              costs = same;
              lapped = s.answers.lapped;
            }
        go (paused laps) is s w = absurd (w.ends (omega arith))
        go none is s w = absurd (w.says g within meets)

    -- a step of such a settle
    settled_step : (o : Came C) (q : State C) → Step K found (event (settle budget) o) q → (x : Answered C) × (o ≡ settled x) × (q.net ≡ n) × Settles K n.nodes (shown n) budget found.tables x q.tables
    settled_step o q s = s.grants ok

    -- the one flow that is within the bounds, meets the needs and costs so little
    abbrev pub Alone : List ℤ → Type 0
    Alone g = (f : List ℤ) → EachArc Within (shown n) f → Meets (shown n) needs f → total (sums K) (shown n) f ≡ total (sums K) (shown n) g → f ≡ g

    -- what comes next, from that flow
    abbrev pub Next : List ℤ → List (Asked C × Due C) → Type 0
    Next g calls = (qs : List C) (ns : List ℕ) → length qs ≡ n.nodes → length ns ≡ n.nodes → Foretold K (state n g needs qs ns) calls

    next_from : (g : List ℤ) (calls : List (Asked C × Due C)) (q : State C) → Left q → q.tables.flow ≡ g → Next g calls → Foretold K q calls
    next_from g calls q l e next = subst (λ z. Foretold K z calls) (sym (plan_is q n g needs l.net e l.needs_are)) (next q.tables.prices q.tables.marks l.prices_long l.marks_long)

    -- a flow that passes at some prices
    abbrev pub Passing : List ℤ → List C → Type 0
    Passing g prices = pass_stop K n g needs prices n.nodes ≡ None

    passing_left : (g : List ℤ) (prices : List C) (q : State C) → Passing g prices → Left q → pass_stop K q.net g q.tables.needs prices (length q.tables.marks) ≡ None
    passing_left g prices q e l =
        ap (λ m. pass_stop K m g q.tables.needs prices (length q.tables.marks)) l.net
        ∙ ap (λ ds. pass_stop K n g ds prices (length q.tables.marks)) l.needs_are
        ∙ ap (λ k. pass_stop K n g needs prices k) l.marks_long
        ∙ e

    like_passing : (g : List ℤ) (prices : List C) → Passing g prices → (o : Came C) (q : State C) (x : Answered C) → o ≡ settled x →
        Settles K n.nodes (shown n) budget found.tables x q.tables → LeastLike g o q
    like_passing g prices e =
        let s = passes K n g needs prices n.nodes e in
        let p = no_stop K n g needs (length prices) n.nodes s.0 in
        least_like g prices (all_in_kilter K prices 1 (shown n) g (p.flow_long ∙ sym (length_shown n)) s.1) p.meets

    pub least_then : (g : List ℤ) (prices : List C) (calls : List (Asked C × Due C)) → Passing g prices → Alone g → Next g calls →
        Foretold K found ((settle budget, least_by (total (sums K) (shown n) g) g prices) ∷ calls)
    least_then g prices calls pass alone next o q s =
        let (x, is, same, r) = settled_step o q s in
        let l = like_passing g prices pass o q x is r in
        let e : q.tables.flow ≡ g = alone q.tables.flow l.within l.meets l.costs in
        let left = left_by q x same r in
        ((l.laps, (l.outcome, e, passing_left g prices q pass left)), next_from g calls q left e next)

    -- no lap leads to a better flow
    abbrev pub NoLap : Type 0
    NoLap = (h : List ℤ) → Lap (shown n) flow h → Better K (shown n) flow h → ⊥

    no_laps : NoLap → (laps : ℕ) (f : List ℤ) → Laps K (shown n) flow laps f → laps ≡ 0
    no_laps never zero f e = refl
    no_laps never (suc m) f (h, lap, better, rest) = absurd (never h lap better)

    pub at_once_then : (g : List ℤ) (prices : List C) (calls : List (Asked C × Due C)) → Passing g prices → Alone g → NoLap → Next g calls →
        Foretold K found ((settle budget, least_at_once (total (sums K) (shown n) g) g prices) ∷ calls)
    at_once_then g prices calls pass alone never next o q s =
        let (x, is, same, r) = settled_step o q s in
        let l = like_passing g prices pass o q x is r in
        let e : q.tables.flow ≡ g = alone q.tables.flow l.within l.meets l.costs in
        let z : l.laps ≡ 0 = no_laps never l.laps q.tables.flow l.lapped in
        let left = left_by q x same r in
        ((l.outcome ∙ ap (λ k. settled (least (total (sums K) (shown n) g) k)) z, e, passing_left g prices q pass left), next_from g calls q left e next)

    pub none_then : (marks : List ℕ) (calls : List (Asked C × Due C)) → cuts (shown n) needs marks ≡ true → Next flow calls →
        Foretold K found ((settle budget, none_by marks) ∷ calls)
    none_then marks calls cuts_so next o q s =
        let (x, is, same, r) = settled_step o q s in
        let cut = cuts_pass (shown n) needs marks cuts_so in
        let l = left_by q x same r in
        let (so, e) = go cut q x is r (words_of q x r) in
        ((so, subst (λ (z : State C). MarksCut (shown z.net) z.tables.needs marks) (sym (plan_is q n flow needs same e l.needs_are)) cut), next_from flow calls q l e next)
      where
        go : MarksCut (shown n) needs marks → (q : State C) (x : Answered C) → o ≡ settled x → Settles K n.nodes (shown n) budget found.tables x q.tables → InWords K n.nodes (shown n) budget found.tables x q.tables →
            (o ≡ settled none) × (q.tables.flow ≡ flow)
        go cut q (least cost laps) is s w = absurd (cut_shows_none C (shown n) needs (marked marks) need_ends cut.cut q.tables.flow w.says.0 w.meets)
        go cut q (paused laps) is s w = absurd (w.ends (omega arith))
        go cut q none is s w = (is, s.answers.as_found)

  -- a figure that opens, and whose calls are foretold from the plan opened, is right
  pub right_by : (x : Figure C) → open_stop K.size x.net x.flow x.net.nodes x.net.nodes x.net.nodes ≡ None →
      ((ps : List C) (ms : List ℕ) → length ps ≡ x.net.nodes → length ms ≡ x.net.nodes → Foretold K (state x.net x.flow (imbalances_from 1 x.net.nodes (shown x.net) x.flow) ps ms) x.calls) →
      (p : State C) → Begins x p → Right K x p
  right_by x opens calls p b = record {
    opens =
        ap (λ m. open_stop K.size m p.tables.flow (length p.tables.needs) (length p.tables.prices) (length p.tables.marks)) b.net
        ∙ ap (λ f. open_stop K.size x.net f (length p.tables.needs) (length p.tables.prices) (length p.tables.marks)) b.flow
        ∙ ap (λ k. open_stop K.size x.net x.flow k (length p.tables.prices) (length p.tables.marks)) b.needs
        ∙ ap (λ k. open_stop K.size x.net x.flow x.net.nodes k (length p.tables.marks)) b.prices
        ∙ ap (λ k. open_stop K.size x.net x.flow x.net.nodes x.net.nodes k) b.marks
        ∙ opens;
    calls =
        subst (λ z. Foretold K z x.calls)
        (sym (ap (λ m. state m p.tables.flow (imbalances_from 1 m.nodes (shown m) p.tables.flow) p.tables.prices p.tables.marks) b.net
        ∙ ap (λ f. state x.net f (imbalances_from 1 x.net.nodes (shown x.net) f) p.tables.prices p.tables.marks) b.flow))
        (calls p.tables.prices p.tables.marks b.prices b.marks);
  }
