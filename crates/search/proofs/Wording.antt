-- What settle owes for an answer, where no stop came, gives its promise in words.
use Rattle.std.proofs.Common.{◌≡◌, ℕ, ◌-◌, ◌*◌, ◌≤◌, List, length, ℤ, None, Ok, Err, Result, refl}
use Rattle.std.specs.List.{AllByRecursion}
use Rattle.costs.specs.Kinds.{Kind, Laws}
use Rattle.networks.specs.declared.stops.Stop.{Stop}
use Rattle.networks.specs.Nets.{Net, shown}
use Rattle.flows.specs.Flows.{EachArc}
use Rattle.flows.specs.Kilter.{InKilter, largest}
use Rattle.flows.specs.Settles.{Tables, Answers, Kept, prices_read}
use Rattle.flows.specs.Stops.{first_stop}
use Rattle.flows.proofs.Fitted.{no_stop}
use Rattle.flows.proofs.Settling.{in_words}
use Rattle.search.specs.declared.settling.Answer.{Answer}
use Rattle.search.specs.Settling.{tables, answered, Settled, Worded}

-- an answer, small prices and a flow kept where it was in kilter settle the network, with the needs as they were
pub settled_by : {C : Type 0} (K : Kind C) (n : Net C) (budget : ℕ) (flow needs : List ℤ) (ps : List C) (marks : List ℕ) (a : Answer C) (g : List ℤ) (qs : List C) (after : List ℕ) →
    Answers K n.nodes (shown n) budget (tables flow needs ps marks) (answered a) (tables g needs qs after) → AllByRecursion (λ p. K.size p ≤ (n.nodes - 1) * largest K (shown n)) qs →
    (EachArc (InKilter K (prices_read K n.nodes (shown n) ps)) (shown n) flow → Kept K n.nodes (shown n) (tables flow needs ps marks) (answered a) (tables g needs qs after)) →
    length qs ≡ length ps → length after ≡ length marks → Settled K n budget (tables flow needs ps marks) (Ok a) (tables g needs qs after)
settled_by K n budget flow needs ps marks a g qs after r small kept prices_long marks_long = record { answers = r; needs_stay = refl; prices_long = prices_long; marks_long = marks_long; small_prices = small; kept = kept }

pub words_follow : {C : Type 0} (K : Kind C) → Laws K → (n : Net C) (budget : ℕ) (found : Tables C) (r : Result (Answer C) Stop) (left : Tables C) →
    first_stop K.size n found.flow found.needs (length found.prices) (length found.marks) ≡ None → Settled K n budget found r left → Worded K n budget found r left
words_follow K laws n budget found (Ok a) left e s = in_words K laws n budget found (no_stop K n found.flow found.needs (length found.prices) (length found.marks) e) left (answered a) s
words_follow K laws n budget found (Err x) left e s = tt
