-- A rise that brings the reduced cost of an arc that leads across to zero: its size, and where it brings the price of the far end.
use Rattle.std.proofs.Common.{◌≡◌, ◌+◌, ◌-◌, ◌≤◌, Bool, true, false, cond, List, length, sym, ap, ◌∙◌, subst, arith}
use Rattle.costs.specs.Kinds.{Kind, Laws, minus}
use Rattle.networks.specs.Limits.{cost_limit}
use Rattle.networks.specs.declared.network.Arc.{Arc}
use Rattle.flows.specs.searching.Fits.{Fit, Bounded, price_limit, change_limit}
use Rattle.flows.specs.Kilter.{price, reduced}
use Rattle.flows.specs.Laps.{near, far}
use Rattle.flows.specs.searching.Prices.{Raised}
use Rattle.flows.proofs.Group.{size_neg, size_minus, size_reduced}
use Rattle.flows.proofs.Nearer.{to_lands, from_lands}
use Rattle.flows.proofs.Shifts.{raised_outside}
use Rattle.labels.specs.declared.labelling.Labels.{Labels}
use Rattle.reach.specs.Scans.{is_labelled}
use Rattle.reach.specs.Rises.{Risen}

module _ {C : Type 0} (K : Kind C) (laws : Laws K) where
  -- the rise, by the way in which the arc leads across
  abbrev pub rise_of : C → Bool → C
  rise_of c way = cond way c (K.neg c)

  reduced_small : (ps : List C) (a : Arc C) → Fit K (length ps) a → Bounded K price_limit ps → K.size (reduced K ps a) ≤ change_limit
  reduced_small ps a fit small =
      let e = fit.ends in
      let p = small (a.from - 1) (omega (arith, e.0, e.1)) in
      let q = small (a.to - 1) (omega (arith, e.2, e.3)) in
      omega (arith, size_reduced K laws a.cost (price K ps a.from) (price K ps a.to), fit.cost)

  pub rise_small : (ps : List C) (a : Arc C) (way : Bool) (e : C) → e ≡ rise_of (reduced K ps a) way → Fit K (length ps) a → Bounded K price_limit ps → K.size e ≤ change_limit
  rise_small ps a true e q fit small = subst (λ z. K.size z ≤ change_limit) (sym q) (reduced_small ps a fit small)
  rise_small ps a false e q fit small = subst (λ z. K.size z ≤ change_limit) (sym q) (omega (arith, size_neg K laws (reduced K ps a), reduced_small ps a fit small))

  module _ (ls : Labels) (ps qs : List C) where
    pub landing : (a : Arc C) (way : Bool) (e : C) → e ≡ rise_of (reduced K ps a) way → Fit K (length ps) a → is_labelled ls (near a way) ≡ true → is_labelled ls (far a way) ≡ false →
        Raised K (length ps) e (is_labelled ls) ps qs → Risen K (length ps) ls ps qs
    landing a true e q fit inside outside raised = record {
      by = e;
      raised = raised;
      node = a.to;
      low = fit.ends.2;
      high = fit.ends.3;
      outside = outside;
      landed = λ b h.
          let lands : price K qs a.to ≡ K.plus a.cost (price K ps a.from) = raised_outside K laws (length ps) ps (is_labelled ls) ps qs e raised a.to fit.ends.2 fit.ends.3 outside
          ∙ ap (K.plus (price K ps a.to)) q ∙ to_lands K laws a.cost (price K ps a.from) (price K ps a.to) in
          subst (λ z. K.size z ≤ b + cost_limit) (sym lands)
          (omega (arith, laws.adds.size_plus a.cost (price K ps a.from), fit.cost, h a.from fit.ends.0 fit.ends.1 inside));
    }
    landing a false e q fit inside outside raised = record {
      by = e;
      raised = raised;
      node = a.from;
      low = fit.ends.0;
      high = fit.ends.1;
      outside = outside;
      landed = λ b h.
          let lands : price K qs a.from ≡ minus K (price K ps a.to) a.cost = raised_outside K laws (length ps) ps (is_labelled ls) ps qs e raised a.from fit.ends.0 fit.ends.1 outside
          ∙ ap (K.plus (price K ps a.from)) q ∙ from_lands K laws a.cost (price K ps a.from) (price K ps a.to) in
          subst (λ z. K.size z ≤ b + cost_limit) (sym lands)
          (omega (arith, size_minus K laws (price K ps a.to) a.cost, fit.cost, h a.to fit.ends.2 fit.ends.3 inside));
    }
