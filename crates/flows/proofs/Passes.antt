-- What is known of a plan that nothing stops.
use Rattle.std.proofs.Common.{◌≡◌, ℕ, zero, suc, ◌+◌, ◌-◌, ◌*◌, ◌<◌, ◌≤◌, Bool, true, false, not, ◌&&◌, max, List, [], ◌∷◌, length, get_or, ℤ, pos, nat_abs, Some, None, Option, sym, refl, ap, ◌∙◌, subst, mul-le-mul, arith}
use lib.Signed.{le_z}
use Rattle.std.proofs.lemmas.Int.{ints}
use Rattle.std.specs.List.{AllByRecursion}
use Rattle.std.specs.Prelude.{nat_le}
use Rattle.std.proofs.lemmas.Bool.{leb-true, le-leb}
use Rattle.costs.specs.Kinds.{Kind, Laws}
use Rattle.networks.specs.declared.network.Arc.{Arc}
use Rattle.networks.specs.Nets.{Net, shown, IsAt}
use Rattle.networks.proofs.Shown.{length_shown}
use Rattle.flows.specs.Flows.{EachArc, Within, Least, Ends, Meets, imbalance}
use Rattle.flows.specs.Kilter.{reduced, out_of_kilter, InKilter, largest}
use Rattle.flows.specs.searching.Fits.{Fit, Fitting}
use Rattle.networks.specs.Answers.{Told}
use Rattle.networks.specs.Limits.{in_limits}
use Rattle.flows.specs.Stops.{stop_unless, or_else, counts_fit, lengths_fit, arc_stop, arcs_stop, needs_stop, first_stop}
use Rattle.flows.proofs.ArcSums.{each_long}
use Rattle.flows.proofs.Fitted.{passed, neither, no_stop}
use Rattle.flows.proofs.Least.{kilter_is_least, kilter_within}
use Rattle.flows.specs.Passing.{passed_limit, prices_stop, kilter_stop, pass_stop}

module _ {C : Type 0} (K : Kind C) where
  -- no price is too large
  pub prices_small : (n : ℕ) (ps : List C) (d : C) → prices_stop K.size n ps ≡ None → (k : ℕ) → k < length ps → K.size (get_or ps k d) ≤ 1250000000000000
  prices_small n [] d e k h = absurd (omega (arith, h))
  prices_small n (p ∷ ps) d e zero h = let a : (nat_le (K.size p) passed_limit ≡ true) × (prices_stop K.size (suc n) ps ≡ None) = passed (nat_le (K.size p) passed_limit) 4 n (prices_stop K.size (suc n) ps) e in let b : K.size p ≤ 255000000 = leb-true (K.size p) 255000000 a.0 in omega (arith, b)
  prices_small n (p ∷ ps) d e (suc k) h = prices_small (suc n) ps d (passed (nat_le (K.size p) passed_limit) 4 n (prices_stop K.size (suc n) ps) e).1 k (omega (arith, h))

  not_true : (b : Bool) → not b ≡ true → b ≡ false
  not_true true e = cc
  not_true false e = refl

  -- no arc is out of kilter
  pub all_in_kilter : (prices : List C) (a : ℕ) (arcs : List (Arc C)) (flow : List ℤ) → length flow ≡ length arcs → kilter_stop K prices a arcs flow ≡ None → EachArc (InKilter K prices) arcs flow
  all_in_kilter prices a [] [] l e = tt
  all_in_kilter prices a [] (f ∷ fs) l e = absurd (omega (arith, l))
  all_in_kilter prices a (x ∷ xs) [] l e = absurd (omega (arith, l))
  all_in_kilter prices a (x ∷ xs) (f ∷ fs) l e = let p = passed (not (out_of_kilter K (reduced K prices x) x f)) 14 a (kilter_stop K prices (suc a) xs fs) e in (not_true (out_of_kilter K (reduced K prices x) x f) p.0, all_in_kilter prices (suc a) xs fs (omega (arith, l)) p.1)

  all_ends : (N : ℕ) (arcs : List (Arc C)) → Fitting K N arcs → AllByRecursion (Ends N) arcs
  all_ends N [] fit = tt
  all_ends N (x ∷ xs) fit = ((fit 0 x (omega arith, refl)).ends, all_ends N xs (λ i a is. fit (suc i) a (omega (arith, is.0), is.1)))

  -- so a passed plan is within the bounds, and least
  pub passed_is_least : Laws K → (n : Net C) (flow needs : List ℤ) (prices : List C) (marks : ℕ) → first_stop K.size n flow needs (length prices) marks ≡ None → kilter_stop K prices 1 (shown n) flow ≡ None →
      EachArc Within (shown n) flow × Least K n.nodes (shown n) flow
  passed_is_least laws n flow needs prices marks e k =
      let p = no_stop K n flow needs (length prices) marks e in
      let all = all_in_kilter prices 1 (shown n) flow (p.flow_long ∙ sym (length_shown n)) k in
      (kilter_within K laws prices (shown n) flow all, kilter_is_least K laws n.nodes (shown n) flow prices (all_ends n.nodes (shown n) p.fits) all)

-- what is known where nothing stops a pass
pub passes : {C : Type 0} (K : Kind C) (n : Net C) (flow needs : List ℤ) (prices : List C) (marks : ℕ) → pass_stop K n flow needs prices marks ≡ None → (first_stop K.size n flow needs (length prices) marks ≡ None) × (kilter_stop K prices 1 (shown n) flow ≡ None)
passes K n flow needs prices marks e =
    let a = neither (first_stop K.size n flow needs (length prices) marks) _ e in
    (a.0, (neither (prices_stop K.size 1 prices) (kilter_stop K prices 1 (shown n) flow) a.1).1)

-- a test that is passed stops nothing, and what comes after decides
stops_not : (b : Bool) (n k : ℕ) (later : Option Told) → b ≡ true → later ≡ None → stop_unless b n k later ≡ None
stops_not b n k later h e = grind arith

module _ {C : Type 0} (K : Kind C) where
  -- small prices are not too large
  pub prices_pass : (n : ℕ) (ps : List C) → AllByRecursion (λ p. K.size p ≤ passed_limit) ps → prices_stop K.size n ps ≡ None
  prices_pass n [] h = refl
  prices_pass n (p ∷ ps) (h, hs) = stops_not (nat_le (K.size p) passed_limit) 4 n (prices_stop K.size (suc n) ps) (le-leb (K.size p) passed_limit h) (prices_pass (suc n) ps hs)

  -- arcs in kilter stop nothing
  pub kilter_passes : (prices : List C) (a : ℕ) (arcs : List (Arc C)) (flow : List ℤ) → EachArc (InKilter K prices) arcs flow → kilter_stop K prices a arcs flow ≡ None
  kilter_passes prices a [] [] h = refl
  kilter_passes prices a [] (f ∷ fs) h = absurd h
  kilter_passes prices a (x ∷ xs) [] h = absurd h
  kilter_passes prices a (x ∷ xs) (f ∷ fs) (h, hs) = stops_not (not (out_of_kilter K (reduced K prices x) x f)) 14 a (kilter_stop K prices (suc a) xs fs) (ap not h) (kilter_passes prices (suc a) xs fs hs)

  -- an arc that stopped nothing stops no flow within its bounds
  arc_passes : (N a : ℕ) (x : Arc C) (f g : ℤ) → arc_stop K.size N a x f ≡ None → Within x g → arc_stop K.size N a x g ≡ None
  arc_passes N a x f g e (l, h) = grind (arith, ints)

  arcs_pass : (N a : ℕ) (arcs : List (Arc C)) (fs gs : List ℤ) → length fs ≡ length arcs → arcs_stop K.size N a arcs fs ≡ None → EachArc Within arcs gs → arcs_stop K.size N a arcs gs ≡ None
  arcs_pass N a [] fs gs l e w = refl
  arcs_pass N a (x ∷ xs) [] gs l e w = absurd (omega arith)
  arcs_pass N a (x ∷ xs) (f ∷ fs) [] l e w = refl
  arcs_pass N a (x ∷ xs) (f ∷ fs) (g ∷ gs) l e (w, ws) =
      let n = neither (arc_stop K.size N a x f) (arcs_stop K.size N (suc a) xs fs) e in
      rw (arc_passes N a x f g n.0 w) (arcs_pass N (suc a) xs fs gs (omega arith) n.1 ws)

-- needs that are met stop nothing
needs_pass : {C : Type 0} (arcs : List (Arc C)) (flow : List ℤ) (n : ℕ) (needs : List ℤ) → ((j : ℕ) → j < length needs → imbalance arcs flow (n + j) ≡ get_or needs j (pos 0)) → needs_stop arcs flow n needs ≡ None
needs_pass arcs flow n [] h = refl
needs_pass arcs flow n (d ∷ ds) h =
    let first : imbalance arcs flow (n + 0) ≡ d = h 0 (omega arith) in
    let z : n + 0 ≡ n = omega arith in
    let same : imbalance arcs flow n ≡ d = sym (ap (imbalance arcs flow) z) ∙ first in
    let met : (le_z (imbalance arcs flow n) d && le_z d (imbalance arcs flow n)) ≡ true = grind (arith, ints) in
    stops_not (le_z (imbalance arcs flow n) d && le_z d (imbalance arcs flow n)) 6 n (needs_stop arcs flow (suc n) ds) met
    (needs_pass arcs flow (suc n) ds (λ j l. let y : suc n + j ≡ n + suc j = omega arith in ap (imbalance arcs flow) y ∙ h (suc j) (omega arith)))

-- where nothing stopped a settle, nothing stops one from a flow within the bounds with the same needs
module _ {C : Type 0} (K : Kind C) (n : Net C) (flow needs : List ℤ) (prices marks : ℕ) (e : first_stop K.size n flow needs prices marks ≡ None) where
  pub settles_again : (g : List ℤ) → EachArc Within (shown n) g → Meets (shown n) needs g → first_stop K.size n g needs prices marks ≡ None
  settles_again g within meets =
      let p = no_stop K n flow needs prices marks e in
      let a = passed (counts_fit n.nodes (length n.arcs)) 1 0 _ e in
      let b = passed (lengths_fit n.nodes (length n.arcs) (length flow) (length needs) prices marks) 2 0 _ a.1 in
      let c = neither (arcs_stop K.size n.nodes 1 (shown n) flow) (needs_stop (shown n) flow 1 needs) b.1 in
      let same : length g ≡ length flow = each_long Within (shown n) g within ∙ length_shown n ∙ sym p.flow_long in
      let arcs : arcs_stop K.size n.nodes 1 (shown n) g ≡ None = arcs_pass K n.nodes 1 (shown n) flow g (p.flow_long ∙ sym (length_shown n)) c.0 within in
      let met : needs_stop (shown n) g 1 needs ≡ None = needs_pass (shown n) g 1 needs (λ j l. let z : (1 + j) - 1 ≡ j = omega arith in meets (1 + j) (omega arith) (omega arith) ∙ ap (λ i. get_or needs i (pos 0)) z) in
      stops_not (counts_fit n.nodes (length n.arcs)) 1 0 (stop_unless (lengths_fit n.nodes (length n.arcs) (length g) (length needs) prices marks) 2 0 (or_else (arcs_stop K.size n.nodes 1 (shown n) g) (needs_stop (shown n) g 1 needs))) a.0
      (stops_not (lengths_fit n.nodes (length n.arcs) (length g) (length needs) prices marks) 2 0 (or_else (arcs_stop K.size n.nodes 1 (shown n) g) (needs_stop (shown n) g 1 needs))
      (ap (λ l. lengths_fit n.nodes (length n.arcs) l (length needs) prices marks) same ∙ b.0)
      (rw arcs met))

  largest_small : (arcs : List (Arc C)) → Fitting K n.nodes arcs → largest K arcs ≤ 1000000
  largest_small [] fit = omega arith
  largest_small (x ∷ xs) fit =
      let one : K.size x.cost ≤ 1000000 = (fit 0 x (omega arith, refl)).cost in
      let rest : largest K xs ≤ 1000000 = largest_small xs (λ i a is. fit (suc i) a (omega (arith, is.0), is.1)) in
      omega arith

  -- the largest price after an answer passes
  pub prices_in_reach : (n.nodes - 1) * largest K (shown n) ≤ passed_limit
  prices_in_reach =
      let p = no_stop K n flow needs prices marks e in
      let few : n.nodes - 1 ≤ 255 = let most = p.few_nodes in omega arith in
      mul-le-mul few (largest_small (shown n) p.fits)
