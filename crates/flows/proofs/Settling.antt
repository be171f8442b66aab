-- What the answers of a search come to, in words: least is least, none is none, and paused had a lap at hand.
use Rattle.std.proofs.Common.{◌≡◌, ℕ, ◌-◌, ◌*◌, ◌≤◌, cond, List, [], ◌∷◌, map, length, ℤ, ◌≤ℤ◌, sym, refl, ap, ◌∙◌, subst, inl, inr, arith}
use borrow.Author.Differences.{ints}
use Rattle.std.specs.List.{AllByRecursion}
use Rattle.std.proofs.lemmas.Bool.{le-leb}
use Rattle.costs.specs.Kinds.{Kind, Laws}
use Rattle.networks.specs.declared.network.Arc.{Arc}
use Rattle.networks.specs.Nets.{Net, shown}
use Rattle.networks.proofs.Shown.{length_shown}
use Rattle.flows.specs.Flows.{outside_of, outside, excess, imbalance, EachArc, Within, Ends, Meets, Least}
use Rattle.flows.specs.Laps.{Lap, Better}
use Rattle.flows.specs.Cuts.{marked}
use Rattle.flows.specs.Kilter.{InKilter, largest, lap_limit}
use Rattle.flows.specs.Settles.{Tables, Answered, least, paused, none, LeastLeft, NoneLeft, Answers, Settles, Says, Final, InWords, read_price_as, LeastStays}
use Rattle.flows.proofs.ArcSums.{all_from}
use Rattle.flows.proofs.Fitted.{Passed}
use Rattle.flows.proofs.Least.{kilter_is_least, kilter_within}
use Rattle.flows.proofs.Cuts.{cut_shows_none}
use Rattle.flows.proofs.Lapping.{lap_keeps, lap_long, laps_keep}

gap_zero : (lo hi f : ℤ) → lo ≤ℤ f → f ≤ℤ hi → outside_of lo hi f ≡ 0
gap_zero lo hi f l h = grind (arith, ints)

zero_gap : (lo hi f : ℤ) → outside_of lo hi f ≡ 0 → (lo ≤ℤ f) × (f ≤ℤ hi)
zero_gap lo hi f e = (grind (arith, ints), grind (arith, ints))

module _ {C : Type 0} where
  -- no excess is being within the bounds
  pub within_excess : (arcs : List (Arc C)) (fs : List ℤ) → EachArc Within arcs fs → excess arcs fs ≡ 0
  within_excess [] fs h = refl
  within_excess (a ∷ rest) [] h = refl
  within_excess (a ∷ rest) (f ∷ fs) (h, hs) =
      let n : outside a f ≡ 0 = gap_zero a.lo a.hi f h.0 h.1 in
      let more = within_excess rest fs hs in
      omega arith

  pub excess_within : (arcs : List (Arc C)) (fs : List ℤ) → length fs ≡ length arcs → excess arcs fs ≡ 0 → EachArc Within arcs fs
  excess_within [] [] l e = tt
  excess_within [] (f ∷ fs) l e = absurd (omega arith)
  excess_within (a ∷ rest) [] l e = absurd (omega arith)
  excess_within (a ∷ rest) (f ∷ fs) l e =
      let n : outside a f ≡ 0 = omega arith in
      (zero_gap a.lo a.hi f n, excess_within rest fs (omega arith) (omega arith))

module _ {C : Type 0} (K : Kind C) where
  -- a flow from which a lap leads to a better one is not a least one
  pub lap_not_least : (N : ℕ) (arcs : List (Arc C)) (f g : List ℤ) → length f ≡ length arcs → Lap arcs f g → Better K arcs f g → EachArc Within arcs f → Least K N arcs f → ⊥
  lap_not_least N arcs f g l lap better within smallest = go better
    where
      no_excess : excess arcs f ≡ 0
      no_excess = within_excess arcs f within

      go : Better K arcs f g → ⊥
      go (inl h) = omega (arith, no_excess)
      go (inr (same, cheaper)) =
          let least = smallest g (excess_within arcs g (lap_long arcs f g lap ∙ l) (same ∙ no_excess)) (λ n _ _. sym (lap_keeps arcs f g l lap n)) in
          grind arith

  -- answered least: within the bounds, and least
  pub left_is_least : Laws K → (N : ℕ) (arcs : List (Arc C)) (budget : ℕ) (found : Tables C) (cost : C) (laps : ℕ) (left : Tables C) → AllByRecursion (Ends N) arcs → LeastLeft K arcs budget found cost laps left →
      EachArc Within arcs left.flow × Least K N arcs left.flow
  left_is_least laws N arcs budget found cost laps left ends r =
      (kilter_within K laws left.prices arcs left.flow r.kilter, kilter_is_least K laws N arcs left.flow left.prices ends r.kilter)

-- answered none: no flow within the bounds has the needs
pub left_is_none : {C : Type 0} (arcs : List (Arc C)) (found left : Tables C) → AllByRecursion (Ends (length found.needs)) arcs → NoneLeft arcs found left →
    (flow : List ℤ) → EachArc Within arcs flow → Meets arcs found.needs flow → ⊥
left_is_none {C} arcs found left ends r = cut_shows_none C arcs found.needs (marked left.marks) ends r.cut.cut

-- what was settled where no stop came, in words
module _ {C : Type 0} (K : Kind C) (laws : Laws K) (n : Net C) (budget : ℕ) (found : Tables C) (p : Passed K n found.flow found.needs (length found.prices) (length found.marks)) (left : Tables C) where
  all_ends : AllByRecursion (Ends n.nodes) (shown n)
  all_ends = all_from (Ends n.nodes) (shown n) (λ i a is. (p.fits i a is).ends)

  says : (answer : Answered C) → Answers K n.nodes (shown n) budget found answer left → Says K n.nodes (shown n) found answer left
  says (least cost laps) r = left_is_least K laws n.nodes (shown n) budget found cost laps left all_ends r
  says (paused laps) r = tt
  says none r = left_is_none (shown n) found left (subst (λ z. AllByRecursion (Ends z) (shown n)) (sym p.needs_long) all_ends) r

  long : length found.flow ≡ length (shown n)
  long = p.flow_long ∙ sym (length_shown n)

  keeps : (answer : Answered C) → Answers K n.nodes (shown n) budget found answer left → (m : ℕ) → imbalance (shown n) left.flow m ≡ imbalance (shown n) found.flow m
  keeps (least cost laps) r = laps_keep K (shown n) found.flow left.flow laps long r.lapped
  keeps (paused laps) r = laps_keep K (shown n) found.flow left.flow laps long r.lapped
  keeps none r = λ m. ap (λ f. imbalance (shown n) f m) r.as_found

  ends : (answer : Answered C) → Answers K n.nodes (shown n) budget found answer left → lap_limit (length (shown n)) ≤ budget → Final answer
  ends (least cost laps) r h = tt
  ends (paused laps) r h = omega (arith, r.whole_budget, r.below_limit, h)
  ends none r h = tt

  pub in_words : (answer : Answered C) → Settles K n.nodes (shown n) budget found answer left → InWords K n.nodes (shown n) budget found answer left
  in_words answer s = record {
    says = says answer s.answers;
    keeps = keeps answer s.answers;
    meets = λ m l h. keeps answer s.answers m ∙ p.meets m l h;
    ends = ends answer s.answers;
  }

module _ {C : Type 0} (K : Kind C) where
  -- small prices are read as they are
  read_same : (limit : ℕ) (ps : List C) → AllByRecursion (λ p. K.size p ≤ limit) ps → map (read_price_as K limit) ps ≡ ps
  read_same limit [] h = refl
  read_same limit (p ∷ ps) (h, hs) =
      let same : read_price_as K limit p ≡ p = ap (λ b. cond b p K.zero) (le-leb (K.size p) limit h) in
      let more = read_same limit ps hs in
      cc

  pub least_stays : LeastStays K
  least_stays N arcs budget again found left after cost laps answer s t =
      let same = read_same ((N - 1) * largest K arcs) left.prices s.small_prices in
      let kept = t.kept (subst (λ ps. EachArc (InKilter K ps) arcs left.flow) (sym same) s.answers.kilter) in
      (kept.answer_is ∙ ap (λ c. least c 0) (sym s.answers.total_is), kept.flow_stays)
