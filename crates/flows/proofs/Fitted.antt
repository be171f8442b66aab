-- Where no stop comes, arcs and flows are within the limits.
use Rattle.std.proofs.Common.{◌≡◌, ℕ, zero, suc, ◌+◌, ◌-◌, ◌<◌, ◌≤◌, Bool, true, ◌&&◌, List, [], ◌∷◌, length, get_or, ℤ, pos, nat_abs, Some, None, Option, sym, refl, ap, ◌∙◌, subst, arith}
use lib.Signed.{le_z}
use Rattle.std.proofs.lemmas.Int.{ints}
use Rattle.networks.proofs.Shown.{length_shown}
use Rattle.flows.specs.Flows.{imbalance, Ends, Meets}
use Rattle.costs.specs.Kinds.{Kind}
use Rattle.networks.specs.declared.network.Arc.{Arc}
use Rattle.networks.specs.Limits.{flow_limit}
use Rattle.networks.specs.Answers.{Told}
use Rattle.networks.specs.Nets.{Net, shown}
use Rattle.flows.specs.searching.Fits.{Fit, Fitting, Small}
use Rattle.flows.specs.Stops.{stop_unless, or_else, counts_fit, lengths_fit, ends_fit, arc_stop, arcs_stop, needs_stop, first_stop}

-- a test that stopped nothing was passed; and neither of two stops came where none is the first
pub passed : (b : Bool) (n k : ℕ) (later : Option Told) → stop_unless b n k later ≡ None → (b ≡ true) × (later ≡ None)
passed b n k later e = (grind arith, grind arith)

pub neither : (o later : Option Told) → or_else o later ≡ None → (o ≡ None) × (later ≡ None)
neither None later e = (refl, e)
neither (Some s) later e = cc

pub ends_hold : {C : Type 0} (N : ℕ) (x : Arc C) → ends_fit N x ≡ true → Ends N x
ends_hold N x e = (grind arith, grind arith, grind arith, grind arith)

module _ {C : Type 0} (K : Kind C) (N : ℕ) where
  fit_one : (k : ℕ) (x : Arc C) (f : ℤ) → arc_stop K.size N k x f ≡ None → Fit K N x × (nat_abs f ≤ flow_limit)
  fit_one k x f e = (record { ends = (grind arith, grind arith, grind arith, grind arith); order = grind (arith, ints); low = grind arith; high = grind arith; cost = grind arith }, grind arith)

  -- the arcs
  pub fitting : (k : ℕ) (arcs : List (Arc C)) (flow : List ℤ) → length flow ≡ length arcs → arcs_stop K.size N k arcs flow ≡ None → Fitting K N arcs
  fitting k [] flow l e i a h = absurd (omega (arith, h.0))
  fitting k (x ∷ xs) [] l e i a h = absurd (omega arith)
  fitting k (x ∷ xs) (f ∷ fs) l e zero a h = subst (Fit K N) (sym h.1) (fit_one k x f (neither (arc_stop K.size N k x f) _ e).0).0
  fitting k (x ∷ xs) (f ∷ fs) l e (suc i) a h = fitting (suc k) xs fs (omega arith) (neither (arc_stop K.size N k x f) _ e).1 i a (omega (arith, h.0), h.1)

  -- the flows
  pub small : (k : ℕ) (arcs : List (Arc C)) (flow : List ℤ) → length flow ≡ length arcs → arcs_stop K.size N k arcs flow ≡ None → Small flow
  small k arcs [] l e i = omega arith
  small k [] (f ∷ fs) l e i = absurd (omega arith)
  small k (x ∷ xs) (f ∷ fs) l e zero = (fit_one k x f (neither (arc_stop K.size N k x f) _ e).0).1
  small k (x ∷ xs) (f ∷ fs) l e (suc i) = small (suc k) xs fs (omega arith) (neither (arc_stop K.size N k x f) _ e).1 i

-- the imbalances are the needs
met : {C : Type 0} (arcs : List (Arc C)) (flow : List ℤ) (k : ℕ) (needs : List ℤ) → needs_stop arcs flow k needs ≡ None → (j : ℕ) → j < length needs → imbalance arcs flow (k + j) ≡ get_or needs j (pos 0)
met arcs flow k [] e j h = absurd (omega arith)
met arcs flow k (d ∷ ds) e zero h =
    let p = passed (le_z (imbalance arcs flow k) d && le_z d (imbalance arcs flow k)) 6 k _ e in
    let same : imbalance arcs flow k ≡ d = grind (arith, ints) in
    let z : k + 0 ≡ k = omega arith in
    ap (imbalance arcs flow) z ∙ same
met arcs flow k (d ∷ ds) e (suc j) h =
    let p = passed (le_z (imbalance arcs flow k) d && le_z d (imbalance arcs flow k)) 6 k _ e in
    let z : k + suc j ≡ suc k + j = omega arith in
    ap (imbalance arcs flow) z ∙ met arcs flow (suc k) ds p.1 j (omega arith)

-- what is known where no stop comes
pub record Passed {C : Type 0} (K : Kind C) (n : Net C) (flow needs : List ℤ) (prices marks : ℕ) : Type 0 where
  pub some_nodes : 1 ≤ n.nodes
  pub few_nodes : n.nodes ≤ 256
  pub few_arcs : length n.arcs ≤ 1024
  pub flow_long : length flow ≡ length n.arcs
  pub needs_long : length needs ≡ n.nodes
  pub prices_long : prices ≡ n.nodes
  pub marks_long : marks ≡ n.nodes
  pub fits : Fitting K n.nodes (shown n)
  pub small_flow : Small flow
  pub meets : Meets (shown n) needs flow

pub no_stop : {C : Type 0} (K : Kind C) (n : Net C) (flow needs : List ℤ) (prices marks : ℕ) → first_stop K.size n flow needs prices marks ≡ None → Passed K n flow needs prices marks
no_stop K n flow needs prices marks e =
    let a = passed (counts_fit n.nodes (length n.arcs)) 1 0 _ e in
    let b = passed (lengths_fit n.nodes (length n.arcs) (length flow) (length needs) prices marks) 2 0 _ a.1 in
    let c = neither (arcs_stop K.size n.nodes 1 (shown n) flow) _ b.1 in
    let long : length flow ≡ length n.arcs = grind arith in
    let all : length flow ≡ length (shown n) = long ∙ sym (length_shown n) in
    record {
      some_nodes = grind arith;
      few_nodes = grind arith;
      few_arcs = grind arith;
      flow_long = long;
      needs_long = grind arith;
      prices_long = grind arith;
      marks_long = grind arith;
      fits = fitting K n.nodes 1 (shown n) flow all c.0;
      small_flow = small K n.nodes 1 (shown n) flow all c.0;
      meets = λ m l h. let z : 1 + (m - 1) ≡ m = omega arith in sym (ap (imbalance (shown n) flow) z) ∙ met (shown n) flow 1 needs c.1 (m - 1) (omega arith);
    }
