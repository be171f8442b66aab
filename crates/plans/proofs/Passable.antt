-- After a run whose last granted call answered least, nothing stops a pass.
use Rattle.std.proofs.Common.{◌≡◌, ℕ, ◌-◌, ◌*◌, ◌≤◌, List, [], ◌∷◌, ◌++◌, length, None, sym, refl, ap, ◌∙◌, subst, le_trans, arith}
use Rattle.std.specs.List.{AllByRecursion}
use Rattle.std.proofs.ByRecursion.{All-weaker}
use Rattle.costs.specs.Kinds.{Kind, Laws}
use Rattle.networks.specs.Nets.{Net, shown}
use Rattle.flows.specs.Flows.{EachArc, Meets}
use Rattle.flows.specs.Kilter.{InKilter, largest}
use Rattle.flows.specs.Settles.{Answered, least, paused, none, Settles}
use Rattle.flows.specs.Stops.{or_else, first_stop}
use Rattle.flows.specs.Passing.{passed_limit, prices_stop, kilter_stop}
use Rattle.flows.proofs.Fitted.{no_stop}
use Rattle.flows.proofs.Least.{kilter_within}
use Rattle.flows.proofs.Passes.{prices_pass, kilter_passes, settles_again, prices_in_reach}
use Rattle.runs.specs.States.{State, New}
use Rattle.runs.specs.Events.{Came, Event, settled, done, refused, Granted, LastAnswered}
use Rattle.runs.specs.Steps.{Step, Steps}
use Rattle.runs.proofs.Ways.{SettlePasses, Way, way_refused, way_settled, way_changed, way_taken_up, way_of, idle, meets_of}
use Rattle.plans.specs.Passing.{passing_stop, PassesAfterLeast}

module _ {C : Type 0} (K : Kind C) (laws : Laws K) where
  -- steps in two parts
  split : (p : State C) (es fs : List (Event C)) (q : State C) → Steps K p (es ++ fs) q → (m : State C) × Steps K p es m × Steps K m fs q
  split p [] fs q s = (p, refl, s)
  split p (e ∷ es) fs q (m, step, s) = let (k, a, b) = split m es fs q s in (k, (m, step, a), b)

  -- refused calls change nothing
  idle_steps : (p : State C) (es : List (Event C)) (q : State C) → AllByRecursion (λ e. ¬ Granted e) es → Steps K p es q → q ≡ p
  idle_steps p [] q h s = sym s
  idle_steps p (e ∷ es) q (h, hs) (m, step, s) = idle_steps m es q hs s ∙ idle K p e m (way_of K p e m step) h

  -- nothing stops a pass of what a least answer leaves
  after_settle : (p : State C) (e : Event C) (budget : ℕ) (cost : C) (laps : ℕ) (q : State C) → Way K p e q → SettlePasses K p → q.net ≡ p.net → Settles K p.net.nodes (shown p.net) budget p.tables (least cost laps) q.tables → passing_stop K q ≡ None
  after_settle p e budget cost laps q w ok same s =
      let n = p.net in
      let t = q.tables in
      let meets : Meets (shown n) p.tables.needs t.flow =
      subst (λ (m : Net C). Meets (shown m) p.tables.needs t.flow) same (subst (λ ds. Meets (shown q.net) ds t.flow) s.needs_stay (meets_of K p e q w (no_stop K n p.tables.flow p.tables.needs (length p.tables.prices) (length p.tables.marks) ok).meets)) in
      let again : first_stop K.size n t.flow p.tables.needs (length p.tables.prices) (length p.tables.marks) ≡ None =
      settles_again K n p.tables.flow p.tables.needs (length p.tables.prices) (length p.tables.marks) ok t.flow (kilter_within K laws t.prices (shown n) t.flow s.answers.kilter) meets in
      let first : first_stop K.size q.net t.flow t.needs (length t.prices) (length t.marks) ≡ None =
      ap (λ m. first_stop K.size m t.flow t.needs (length t.prices) (length t.marks)) same
      ∙ ap (λ ds. first_stop K.size n t.flow ds (length t.prices) (length t.marks)) s.needs_stay
      ∙ ap (λ k. first_stop K.size n t.flow p.tables.needs k (length t.marks)) s.prices_long
      ∙ ap (λ k. first_stop K.size n t.flow p.tables.needs (length p.tables.prices) k) s.marks_long
      ∙ again in
      let reach = prices_in_reach K n p.tables.flow p.tables.needs (length p.tables.prices) (length p.tables.marks) ok in
      let prices : prices_stop K.size 1 t.prices ≡ None = prices_pass K 1 t.prices (All-weaker (λ c. K.size c ≤ (n.nodes - 1) * largest K (shown n)) (λ c. K.size c ≤ passed_limit) (λ c h. le_trans h reach) t.prices s.small_prices) in
      let kilter : kilter_stop K t.prices 1 (shown q.net) t.flow ≡ None = kilter_passes K t.prices 1 (shown q.net) t.flow (subst (λ (m : Net C). EachArc (InKilter K t.prices) (shown m) t.flow) (sym same) s.answers.kilter) in
      rw first (rw prices kilter)

  -- the answer that an outcome tells
  abbrev answer_in : Came C → Answered C
  answer_in (settled x) = x
  answer_in done = none
  answer_in (refused s) = none

  pub passes_after_least : (p : State C) → PassesAfterLeast K p
  passes_after_least p opening es cost laps new steps last =
      let (m, first, (q, step, rest)) = split opening last.before (last.here ∷ last.after) p (subst (λ z. Steps K opening z p) last.is steps) in
      subst (λ z. passing_stop K z ≡ None) (sym (idle_steps q last.after p last.none_since rest)) (go m q (way_of K m last.here q step))
    where
      go : (m q : State C) → Way K m last.here q → passing_stop K q ≡ None
      go m q (way_refused s is same) = let bad = sym is ∙ last.so in absurd cc
      go m q (way_settled budget x c is ok same s) =
          let w : Way K m last.here q = way_settled budget x c is ok same s in
          let e : x ≡ least cost laps = ap answer_in (sym is ∙ last.so) in
          after_settle m last.here budget cost laps q w ok same (subst (λ y. Settles K m.net.nodes (shown m.net) budget m.tables y q.tables) e s)
      go m q (way_changed c is effect same) = let bad = sym is ∙ last.so in absurd cc
      go m q (way_taken_up fs c is ok same) = let bad = sym is ∙ last.so in absurd cc
