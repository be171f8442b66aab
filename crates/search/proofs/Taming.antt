-- Tidied prices are tame, and raise no kilter number.
use Rattle.std.proofs.Common.{◌≡◌, ℕ, suc, ◌-◌, ◌*◌, ◌≤◌, List, [], ◌∷◌, length, ℤ, ◌≤ℤ◌, refl, ◌∙◌, mul-le-mul_left, arith}
use Rattle.std.specs.List.{AllByRecursion}
use Rattle.costs.specs.Kinds.{Kind, Laws}
use Rattle.networks.specs.declared.network.Arc.{Arc}
use Rattle.flows.specs.Kilter.{largest}
use Rattle.flows.specs.searching.Fits.{Fitting, Bounded}
use Rattle.flows.proofs.Prices.{kept_signs_ease}
use Rattle.tidy.specs.Picks.{Tidied}
use Rattle.tidy.proofs.Sounds.{sound_from}
use Rattle.reach.specs.Rounds.{large}
use Rattle.search.specs.Ready.{Ready}
use Rattle.flows.specs.searching.Prices.{Eased}

module _ {C : Type 0} (K : Kind C) where
  pub eased_same : (arcs : List (Arc C)) (flow : List ℤ) (ps : List C) → length flow ≡ length arcs → Eased K arcs flow ps ps
  eased_same [] [] ps l = tt
  eased_same [] (f ∷ fs) ps l = absurd (omega arith)
  eased_same (a ∷ arcs) [] ps l = absurd (omega arith)
  eased_same (a ∷ arcs) (f ∷ fs) ps l = (omega arith, eased_same arcs fs ps (omega arith))

  pub eased_both : (arcs : List (Arc C)) (flow : List ℤ) (ps qs rs : List C) → Eased K arcs flow ps qs → Eased K arcs flow qs rs → Eased K arcs flow ps rs
  eased_both [] [] ps qs rs p q = tt
  eased_both [] (f ∷ fs) ps qs rs p q = absurd p
  eased_both (a ∷ arcs) [] ps qs rs p q = absurd p
  eased_both (a ∷ arcs) (f ∷ fs) ps qs rs (p, more) (q, rest) = (omega arith, eased_both arcs fs ps qs rs more rest)

  pub ordered : (N : ℕ) (arcs : List (Arc C)) → Fitting K N arcs → AllByRecursion (λ a. a.lo ≤ℤ a.hi) arcs
  ordered N [] f = tt
  ordered N (a ∷ rest) f = ((f 0 a (omega arith, refl)).order, ordered N rest (λ i b h. f (suc i) b (omega (arith, h.0), h.1)))

  few_costs : (N m : ℕ) → N ≤ 256 → m ≤ 1000000 → (N - 1) * m ≤ 255000000
  few_costs N m h k =
      let p : (N - 1) * m ≤ (N - 1) * 1000000 = mul-le-mul_left (N - 1) k in
      omega (arith, p)

  pub tidied_tame : (N : ℕ) (arcs : List (Arc C)) (flow : List ℤ) (ps qs : List C) → Ready K N arcs flow ps → Tidied K arcs ps qs → Bounded K large qs
  tidied_tame N arcs flow ps qs r t k h = let c = few_costs (length ps) (largest K arcs) (omega (arith, r.few, r.priced)) (sound_from K N arcs r.fitting).costs in omega (arith, t.small k h, c)

  pub tidied_ready : (N : ℕ) (arcs : List (Arc C)) (flow : List ℤ) (ps qs : List C) → Ready K N arcs flow ps → Tidied K arcs ps qs → Ready K N arcs flow qs
  tidied_ready N arcs flow ps qs r t = record {
    fitting = r.fitting;
    few = r.few;
    priced = t.long ∙ r.priced;
    bounded = λ k h. omega (arith, tidied_tame N arcs flow ps qs r t k h);
    long = r.long;
    small = r.small;
  }

  pub tidied_eased : Laws K → (N : ℕ) (arcs : List (Arc C)) (flow : List ℤ) (ps qs : List C) → Ready K N arcs flow ps → Tidied K arcs ps qs → Eased K arcs flow ps qs
  tidied_eased laws N arcs flow ps qs r t = kept_signs_ease K laws arcs flow ps qs (ordered N arcs r.fitting) r.long t.signs
