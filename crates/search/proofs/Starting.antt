-- A labelling of the source alone is good, what reach then asks, and what holds after it.
use Rattle.std.proofs.Common.{ℕ, ◌≤◌, List, length, ℤ, sym, ◌∙◌, subst, arith}
use Rattle.costs.specs.Kinds.{Kind}
use Rattle.networks.specs.declared.network.Arc.{Arc}
use Rattle.flows.specs.searching.Fits.{Fitting}
use Rattle.labels.specs.declared.labelling.Labels.{Labels}
use Rattle.labels.specs.Good.{Begun, Good}
use Rattle.reach.specs.Rounds.{Repriced}
use Rattle.search.specs.Ready.{Ready}
use Rattle.flows.specs.searching.Prices.{Eased}
use Rattle.search.proofs.Taming.{eased_both}

pub good_begun : {C : Type 0} (K : Kind C) (arcs : List (Arc C)) (flow : List ℤ) (prices : List C) (chosen source : ℕ) (ls : Labels) → 1 ≤ source → source ≤ length prices → length prices ≤ 256 → Begun source ls → Good K arcs flow prices chosen ls
good_begun K arcs flow prices chosen source ls l h few b = record {
  whole = b.whole (length prices) h few;
  some = omega (arith, b.one);
  linked = λ k low high. absurd (omega (arith, b.one));
}

pub repriced_ready : {C : Type 0} (K : Kind C) (N : ℕ) (arcs : List (Arc C)) (flow : List ℤ) (ps qs : List C) → Ready K N arcs flow ps → Repriced K arcs flow ps qs → Ready K N arcs flow qs
repriced_ready K N arcs flow ps qs r q = record {
  fitting = r.fitting;
  few = r.few;
  priced = q.long ∙ r.priced;
  bounded = q.small;
  long = r.long;
  small = r.small;
}

-- the network fits with as many nodes as there are prices
pub fits_prices : {C : Type 0} {K : Kind C} {N : ℕ} {arcs : List (Arc C)} {flow : List ℤ} {ps : List C} → Ready K N arcs flow ps → Fitting K (length ps) arcs
fits_prices {K = K} {arcs = arcs} r = subst (λ z. Fitting K z arcs) (sym r.priced) r.fitting

-- what holds once prices were tamed, from ps to qs, and a chain was searched for, up to rs
pub record Searched {C : Type 0} (K : Kind C) (N : ℕ) (arcs : List (Arc C)) (flow : List ℤ) (ps rs : List C) : Type 0 where
  pub ready : Ready K N arcs flow rs
  pub eased : Eased K arcs flow ps rs

pub searched : {C : Type 0} (K : Kind C) (N : ℕ) (arcs : List (Arc C)) (flow : List ℤ) (ps qs rs : List C) → Ready K N arcs flow qs → Eased K arcs flow ps qs → Repriced K arcs flow qs rs → Searched K N arcs flow ps rs
searched K N arcs flow ps qs rs ready eased rep = record { ready = repriced_ready K N arcs flow qs rs ready rep; eased = eased_both K arcs flow ps qs rs eased rep.eased }
