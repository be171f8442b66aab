-- How far prices rise next: to the chosen arc's own limit, or to the least slack.
use Rattle.std.specs.Prelude.{◌≡◌, ℕ, ◌+◌, ◌≤◌, Bool, false, cond, ◌||◌, ◌⊎◌, List, ℤ, pos, Some, None, Option, int_lt, slice_index_or}
use Rattle.costs.specs.Kinds.{Kind}
use Rattle.networks.specs.Limits.{cost_limit}
use Rattle.networks.specs.Nets.{IsAt}
use Rattle.networks.specs.declared.network.Arc.{Arc}
use Rattle.flows.specs.declared.steps.Step.{Step}
use Rattle.flows.specs.Kilter.{price, reduced}
use Rattle.flows.specs.searching.Prices.{Raised, SmallInside}
use Rattle.labels.specs.declared.labelling.Labels.{Labels}
use Rattle.reach.specs.declared.scans.Best.{Best}
use Rattle.reach.specs.declared.rises.Rise.{Rise}
use Rattle.reach.specs.declared.rises.Rise.TheVariants.{Label, Kilter}
use Rattle.reach.specs.Scans.{is_labelled}

-- the rise that brings an arc of reduced cost c to zero, where its flow is within its bounds; outside them no rise brings it into kilter
abbrev pub own_limit_at : {C : Type 0} → Kind C → C → Arc C → Bool → ℤ → Option C
own_limit_at K c a along f = cond (int_lt f a.lo || int_lt a.hi f) None (Some (cond along (K.neg c) c))

-- the lesser of the own limit and the least slack; none where there is neither
abbrev pub next_of : {C : Type 0} → Kind C → Option C → Option (Best C) → Option (Rise C)
next_of K None None = None
next_of K None (Some b) = Some (Label b)
next_of K (Some c) None = Some (Kilter c)
next_of K (Some c) (Some b) = Some (cond (K.le c b.slack) (Kilter c) (Label b))

abbrev pub NextIs : {C : Type 0} → Kind C → List (Arc C) → List ℤ → List C → Step → Option (Best C) → Option (Rise C) → Type 0
NextIs {C} K arcs flow prices chosen best r = (a : Arc C) → IsAt arcs chosen.arc a →
    r ≡ next_of K (own_limit_at K (reduced K prices a) a chosen.along (slice_index_or flow chosen.arc (pos 0))) best

-- the prices qs are ps raised at the nodes that are not labelled, so far that one of them comes within one cost of a labelled one's
pub record Risen {C : Type 0} (K : Kind C) (N : ℕ) (ls : Labels) (ps qs : List C) : Type 0 where
  pub by : C
  pub raised : Raised K N by (is_labelled ls) ps qs
  pub node : ℕ
  pub low : 1 ≤ node
  pub high : node ≤ N
  pub outside : is_labelled ls node ≡ false
  pub landed : (b : ℕ) → SmallInside K N (is_labelled ls) ps b → K.size (price K qs node) ≤ b + cost_limit

-- the prices stay, or rise so
abbrev pub Changed : {C : Type 0} → Kind C → ℕ → Labels → List C → List C → Type 0
Changed K N ls ps qs = (qs ≡ ps) ⊎ Risen K N ls ps qs
