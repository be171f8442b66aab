-- What the search for one chain owes: how prices change, and how it ends.
use Rattle.std.specs.Prelude.{◌≡◌, ℕ, ◌+◌, false, List, length, ℤ, pos, Ok, Err, Result, slice_index_or}
use Rattle.costs.specs.Kinds.{Kind}
use Rattle.networks.specs.declared.network.Arc.{Arc}
use Rattle.networks.specs.Nets.{IsAt}
use Rattle.flows.specs.declared.steps.Step.{Step}
use Rattle.flows.specs.Flows.{EachArc}
use Rattle.flows.specs.Kilter.{reduced, out_of_kilter}
use Rattle.flows.specs.searching.Fits.{Bounded, found_limit}
use Rattle.flows.specs.searching.Prices.{Eased}
use Rattle.flows.specs.searching.Ways.{Stuck, Strained}
use Rattle.labels.specs.declared.labelling.Labels.{Labels}
use Rattle.labels.specs.Good.{count, node_at, Labelled, Good, Grown}
use Rattle.labels.specs.Ways.{Chosen}
use Rattle.reach.specs.declared.rounds.Over.{Over}
use Rattle.reach.specs.declared.rounds.Over.TheVariants.{Kilter, Cut}
use Rattle.reach.specs.Scans.{is_labelled}
use Rattle.reach.specs.Rises.{Changed}

-- prices of at most this size are searched at without tidying
abbrev pub large : ℕ
large = 1000000000000

-- the prices qs in place of ps: no arc's kilter number rose, and no price is too large to tidy
pub record Repriced {C : Type 0} (K : Kind C) (arcs : List (Arc C)) (flow : List ℤ) (ps qs : List C) : Type 0 where
  pub long : length qs ≡ length ps
  pub small : Bounded K found_limit qs
  pub eased : Eased K arcs flow ps qs

-- the sought node is labelled, so that the labels and the chosen step make a lap
pub record ChainFound {C : Type 0} (K : Kind C) (arcs : List (Arc C)) (flow : List ℤ) (prices : List C) (chosen : Step) (ls : Labels) : Type 0 where
  pub good : Good K arcs flow prices chosen.arc ls
  pub reached : Labelled ls chosen.node
  pub wanted : Chosen K arcs flow prices chosen (node_at ls 0)

-- the labelled nodes are cut off: nothing more can leave them and nothing less can enter, and the chosen arc is strained
pub record CutOff {C : Type 0} (arcs : List (Arc C)) (flow : List ℤ) (chosen : Step) (ls : Labels) : Type 0 where
  pub stuck : EachArc (Stuck (is_labelled ls)) arcs flow
  pub strained : (a : Arc C) → IsAt arcs chosen.arc a → Strained (is_labelled ls) a (slice_index_or flow chosen.arc (pos 0))

-- how the search for one chain ends
abbrev pub EndsWith : {C : Type 0} → Kind C → List (Arc C) → List ℤ → List C → Step → Labels → Result (Unit {0}) Over → Type 0
EndsWith K arcs flow prices chosen ls (Ok _) = ChainFound K arcs flow prices chosen ls
EndsWith {C} K arcs flow prices chosen ls (Err Kilter) = (a : Arc C) → IsAt arcs chosen.arc a → out_of_kilter K (reduced K prices a) a (slice_index_or flow chosen.arc (pos 0)) ≡ false
EndsWith K arcs flow prices chosen ls (Err Cut) = CutOff arcs flow chosen ls

-- how a round ends, with the labels ls before it and ms after
abbrev pub RoundEnds : {C : Type 0} → Kind C → List (Arc C) → List ℤ → List C → Step → Labels → Labels → Result (Unit {0}) Over → Type 0
RoundEnds K arcs flow prices chosen ls ms (Ok _) = Good K arcs flow prices chosen.arc ms × Chosen K arcs flow prices chosen (node_at ms 0) × (count ms ≡ count ls + 1)
RoundEnds K arcs flow prices chosen ls ms (Err over) = EndsWith K arcs flow prices chosen ms (Err over)

-- what a round does
pub record Advanced {C : Type 0} (K : Kind C) (arcs : List (Arc C)) (flow : List ℤ) (ps qs : List C) (chosen : Step) (ls ms : Labels) (r : Result (Unit {0}) Over) : Type 0 where
  pub long : length qs ≡ length ps
  pub changed : Changed K (length ps) ls ps qs
  pub eased : Eased K arcs flow ps qs
  pub grown : Grown ls ms
  pub ends : RoundEnds K arcs flow qs chosen ls ms r
