-- What each end of the search comes to once the prices are tidied.
use Rattle.std.proofs.Common.{◌≡◌, ℕ, Err, suc, cond, ◌-◌, ◌*◌, ◌<◌, ◌≤◌, List, [], ◌∷◌, length, get_or, ℤ, pos, sym, ap, ◌∙◌, subst, arith}
use Rattle.std.specs.List.{AllByRecursion}
use Rattle.std.proofs.lemmas.List.{get_or_default}
use Rattle.costs.specs.Kinds.{Kind, Laws, sums}
use Rattle.networks.specs.declared.network.Arc.{Arc}
use Rattle.flows.specs.Flows.{Meets, Ends, total}
use Rattle.flows.specs.Kilter.{InKilter, largest}
use Rattle.flows.specs.Cuts.{marked}
use Rattle.flows.specs.Settles.{LeastLeft, PausedLeft, NoneLeft, Answers}
use Rattle.flows.proofs.ArcSums.{all_from, each_from}
use Rattle.flows.proofs.Cuts.{cut_found}
use Rattle.flows.proofs.Lapping.{laps_meet}
use Rattle.flows.proofs.Settling.{lap_not_least}
use Rattle.tidy.specs.Picks.{Tidied}
use Rattle.search.specs.declared.seek.Halt.{Halt}
use Rattle.search.specs.declared.seek.Halt.TheVariants.{Paused, Cut}
use Rattle.search.specs.Ready.{Ready}
use Rattle.search.specs.Going.{Going, Ended, LapAtHand, CutMarked}
use Rattle.search.specs.declared.settling.Answer.{Answer}
use Rattle.search.specs.declared.settling.Answer.TheVariants as answer
use Rattle.search.specs.declared.settling.Answer.TheVariants.{Least, None}
use Rattle.search.specs.Settling.{tables, answered, end_of, is_none_answer, HasTotal}
use Rattle.search.proofs.Taming.{tidied_ready, tidied_eased}
use Rattle.search.proofs.Steps.{going_repriced}

-- a table that holds P at each place
pub all_places : {X : Type 0} (P : X → Type 0) (xs : List X) (d : X) → ((k : ℕ) → k < length xs → P (get_or xs k d)) → AllByRecursion P xs
all_places P [] d h = tt
all_places P (x ∷ xs) d h = (h 0 (omega arith), all_places P xs d (λ k l. h (suc k) (omega arith)))

module _ {C : Type 0} (K : Kind C) (laws : Laws K) (N : ℕ) (arcs : List (Arc C)) (found flow : List ℤ) (qs rs : List C) (tidied : Tidied K arcs qs rs) where
  pub small_prices : length qs ≡ N → AllByRecursion (λ p. K.size p ≤ (N - 1) * largest K arcs) rs
  small_prices l = all_places (λ p. K.size p ≤ (N - 1) * largest K arcs) rs K.zero (λ k h. subst (λ z. K.size (get_or rs k K.zero) ≤ (z - 1) * largest K arcs) l (tidied.small k h))

  pub least_left : (budget laps : ℕ) (cost : C) (needs : List ℤ) (ps : List C) (ms marks : List ℕ) → Going K N arcs found (length flow) laps flow qs → laps ≤ budget → cost ≡ total (sums K) arcs flow →
      ((k : ℕ) → k < length marks → get_or marks k 0 ≡ 0) → LeastLeft K arcs budget (tables found needs ps ms) cost laps (tables flow needs rs marks)
  least_left budget laps cost needs ps ms marks going spent e clear =
      let g = going_repriced K laws N arcs found (length flow) laps flow qs rs going (tidied_eased K laws N arcs flow qs rs going.ready tidied) (tidied_ready K N arcs flow qs rs going.ready tidied) in
      record {
        lapped = g.lapped;
        in_budget = spent;
        in_limit = omega (arith, g.within);
        kilter = each_from (InKilter K rs) arcs flow g.ready.long (λ i a f is fs. subst (InKilter K rs a) (sym (fs.1 ∙ get_or_default flow i f (pos 0) fs.0)) (g.done i fs.0 a is));
        total_is = e;
        unmarked = all_places (λ m. m ≡ 0) marks 0 clear;
      }

  pub paused_left : (budget laps : ℕ) (needs : List ℤ) (ps : List C) (ms marks : List ℕ) → Going K N arcs found 0 laps flow qs → laps ≡ budget → LapAtHand K arcs flow qs →
      ((k : ℕ) → k < length marks → get_or marks k 0 ≡ 0) → PausedLeft K N arcs budget (tables found needs ps ms) laps (tables flow needs rs marks)
  paused_left budget laps needs ps ms marks going spent (h, lap, better, some) clear = record {
    lapped = going.lapped;
    whole_budget = spent;
    below_limit = omega (arith, going.within, some);
    not_least = lap_not_least K N arcs flow h going.ready.long lap better;
    unmarked = all_places (λ m. m ≡ 0) marks 0 clear;
  }

pub none_left : {C : Type 0} (K : Kind C) (N : ℕ) (arcs : List (Arc C)) (found flow back needs : List ℤ) (laps : ℕ) (ps qs rs : List C) (ms marks : List ℕ) → length needs ≡ N → length found ≡ length arcs → Meets arcs needs found → Going K N arcs found 0 laps flow qs →
    CutMarked arcs flow marks → back ≡ found → NoneLeft arcs (tables found needs ps ms) (tables back needs rs marks)
none_left K N arcs found flow back needs laps ps qs rs ms marks l long meets going cut e = record {
  as_found = e;
  cut = record {
    bits = all_places (λ m. m ≤ 1) marks 0 (λ k h. cut.bits k);
    cut = cut_found (marked marks) arcs needs flow cut.place cut.arc (all_from (Ends (length needs)) arcs (λ i a is. subst (λ z. Ends z a) (sym l) (going.ready.fitting i a is).ends))
        (laps_meet K arcs needs found flow laps long going.lapped meets) cut.stuck cut.there cut.strained;
  };
}

-- what any answer comes to, where the flow is left as the search left it, or as it was found if there is none
pub answers_left : {C : Type 0} (K : Kind C) (laws : Laws K) (N : ℕ) (arcs : List (Arc C)) (found flow : List ℤ) (qs rs : List C) (tidied : Tidied K arcs qs rs) (budget : ℕ) (needs : List ℤ) (ps : List C) (ms before marks : List ℕ) →
    length needs ≡ N → length found ≡ length arcs → Meets arcs needs found → length flow ≡ length found → ((k : ℕ) → k < length before → get_or before k 0 ≡ 0) →
    (a : Answer C) (left : List ℤ) → Ended K N arcs found (length found) budget flow qs before marks (end_of a) → HasTotal a (total (sums K) arcs flow) → left ≡ cond (is_none_answer a) found flow → Answers K N arcs budget (tables found needs ps ms) (answered a) (tables left needs rs marks)
answers_left {C} K laws N arcs found flow qs rs tidied budget needs ps ms before marks l long meets same zeros = go
  where
    clear : marks ≡ before → (k : ℕ) → k < length marks → get_or marks k 0 ≡ 0
    clear e k h = ap (λ z. get_or z k 0) e ∙ zeros k (omega (arith, h, ap length e))

    go : (a : Answer C) (left : List ℤ) → Ended K N arcs found (length found) budget flow qs before marks (end_of a) → HasTotal a (total (sums K) arcs flow) → left ≡ cond (is_none_answer a) found flow → Answers K N arcs budget (tables found needs ps ms) (answered a) (tables left needs rs marks)
    go (Least cost laps) left e t is =
        let going = subst (λ k. Going K N arcs found k laps flow qs) (sym same) e.0 in
        subst (λ z. LeastLeft K arcs budget (tables found needs ps ms) cost laps (tables z needs rs marks)) (sym is) (least_left K laws N arcs found flow qs rs tidied budget laps cost needs ps ms marks going e.1 t (clear e.2))
    go (answer.Paused laps) left e t is =
        subst (λ z. PausedLeft K N arcs budget (tables found needs ps ms) laps (tables z needs rs marks)) (sym is) (paused_left K laws N arcs found flow qs rs tidied budget laps needs ps ms marks e.0 e.1 e.2 (clear e.3))
    go None left e t is = none_left K N arcs found flow left needs e.0 ps qs rs ms marks l long meets e.1 e.2 is

-- whatever the answer, the search is ready for more
pub ended_ready : {C : Type 0} (K : Kind C) (N : ℕ) (arcs : List (Arc C)) (found : List ℤ) (i budget : ℕ) (flow : List ℤ) (prices : List C) (marks after : List ℕ) (a : Answer C) → Ended K N arcs found i budget flow prices marks after (end_of a) → Ready K N arcs flow prices
ended_ready K N arcs found i budget flow prices marks after (Least total laps) h = h.0.ready
ended_ready K N arcs found i budget flow prices marks after (answer.Paused laps) h = h.0.ready
ended_ready K N arcs found i budget flow prices marks after None h = h.1.ready

-- where the seeking stops early, it does not matter how far it was to go; the marks were those at the start
pub ended_early : {C : Type 0} (K : Kind C) (N : ℕ) (arcs : List (Arc C)) (found : List ℤ) (i j budget : ℕ) (flow : List ℤ) (prices : List C) (old marks after : List ℕ) (h : Halt) → marks ≡ old → Ended K N arcs found i budget flow prices marks after (Err h) → Ended K N arcs found j budget flow prices old after (Err h)
ended_early K N arcs found i j budget flow prices old marks after (Paused n) q e = (e.0, e.1, e.2, e.3 ∙ q)
ended_early K N arcs found i j budget flow prices old marks after Cut q e = e
