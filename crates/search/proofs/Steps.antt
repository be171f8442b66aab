-- One step of the search: arc i is in kilter, or a lap was made.
use Rattle.std.proofs.Common.{◌≡◌, ℕ, suc, ◌+◌, ◌≤◌, List, get_or, ℤ, pos, sym, subst, ⊎_elim, arith}
use Rattle.std.proofs.lemmas.Bool.{cases_eq}
use Rattle.costs.specs.Kinds.{Kind, Laws}
use Rattle.networks.specs.declared.network.Arc.{Arc}
use Rattle.networks.specs.Nets.{IsAt}
use Rattle.flows.specs.Kilter.{reduced, kilter_number, kilter_sum}
use Rattle.flows.specs.Laps.{Laps}
use Rattle.flows.proofs.ArcSums.{each_get_or}
use Rattle.flows.proofs.Prices.{sum_falls}
use Rattle.flows.proofs.Lapping.{laps_more}
use Rattle.flows.proofs.Wants.{kilter_stays}
use Rattle.labels.specs.Ways.{GoneRound}
use Rattle.search.specs.Ready.{Ready}
use Rattle.flows.specs.searching.Prices.{Eased}
use Rattle.search.specs.Going.{KilterAt, Going}

module _ {C : Type 0} (K : Kind C) (laws : Laws K) (N : ℕ) (arcs : List (Arc C)) (found : List ℤ) (i laps : ℕ) (f : List ℤ) (ps qs : List C) (going : Going K N arcs found i laps f ps) (eased : Eased K arcs f ps qs) where
  falls : kilter_sum K qs arcs f ≤ kilter_sum K ps arcs f
  falls = sum_falls K ps qs arcs f eased

  at : (j : ℕ) (a : Arc C) → IsAt arcs j a → kilter_number K (reduced K qs a) a (get_or f j (pos 0)) ≤ kilter_number K (reduced K ps a) a (get_or f j (pos 0))
  at j a is = each_get_or (λ a f. kilter_number K (reduced K qs a) a f ≤ kilter_number K (reduced K ps a) a f) arcs f j a eased is

  -- other prices
  pub going_repriced : Ready K N arcs f qs → Going K N arcs found i laps f qs
  going_repriced ready = record {
    ready = ready;
    lapped = going.lapped;
    within = omega (arith, going.within, falls);
    done = λ j h a is. kilter_stays K laws (reduced K ps a) (reduced K qs a) a (get_or f j (pos 0)) (get_or f j (pos 0)) (ready.fitting j a is).order (going.done j h a is) (at j a is);
  }

  -- arc i is in kilter
  pub going_on : Ready K N arcs f qs → KilterAt K arcs f qs i → Going K N arcs found (i + 1) laps f qs
  going_on ready here =
      let g = going_repriced ready in
      record {
        ready = ready;
        lapped = g.lapped;
        within = g.within;
        done = λ j h. ⊎_elim (λ (q : j ≡ i). subst (KilterAt K arcs f qs) (sym q) here) (λ (q : j ≡ i → ⊥). g.done j (omega arith)) (cases_eq j i);
      }

  -- a lap was made
  pub going_lapped : (g : List ℤ) → Ready K N arcs g qs → GoneRound K arcs qs f g → Going K N arcs found i (laps + 1) g qs
  going_lapped g ready r = record {
    ready = ready;
    lapped = let e : suc laps ≡ laps + 1 = omega arith in subst (λ n. Laps K arcs found n g) e (laps_more K arcs found f g laps going.lapped r.lap r.better);
    within = omega (arith, going.within, falls, r.nearer);
    done = λ j h a is. kilter_stays K laws (reduced K ps a) (reduced K qs a) a (get_or f j (pos 0)) (get_or g j (pos 0)) (ready.fitting j a is).order (going.done j h a is) (omega (arith, at j a is, r.eased j a is));
  }

pub going_none : {C : Type 0} (K : Kind C) (N : ℕ) (arcs : List (Arc C)) (found : List ℤ) (i laps : ℕ) (f : List ℤ) (ps : List C) → Going K N arcs found i laps f ps → Going K N arcs found 0 laps f ps
going_none K N arcs found i laps f ps g = record { ready = g.ready; lapped = g.lapped; within = g.within; done = λ j h. absurd (omega arith) }
