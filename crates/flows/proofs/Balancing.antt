-- One arc more of an imbalance.
use Rattle.std.proofs.Common.{◌≡◌, ℕ, suc, ◌+◌, ◌*◌, ◌≤◌, ◌⊎◌, Bool, cond, eqb, List, [], ◌∷◌, length, ℤ, pos, negsuc, ◌+ℤ◌, ◌-ℤ◌, nat_abs, sym, ap, ◌∙◌, ap₂, arith, w32, SFits}
use Rattle.std.proofs.lemmas.Int.{ints}
use Rattle.networks.specs.declared.network.Arc.{Arc}
use Rattle.networks.specs.Limits.{flow_limit}
use Rattle.flows.specs.Flows.{imbalance, leaving, entering, sum_arcs}
use Rattle.flows.specs.searching.Fits.{Small}
use Rattle.flows.proofs.Turns.{over_none}

joined : (s x y p q r : ℤ) → r ≡ s +ℤ (x -ℤ y) → s +ℤ ((x +ℤ p) -ℤ (y +ℤ q)) ≡ r +ℤ (p -ℤ q)
joined s x y p q r e = omega (arith, ints)

-- s is what the arcs before come to, u and w what the next arc x carries away from the node and to it
pub balance_more : {C : Type 0} (node : ℕ) {arcs rest : List (Arc C)} {flow fs : List ℤ} (x : Arc C) (f s r u w : ℤ) → arcs ≡ x ∷ rest → flow ≡ f ∷ fs →
    r ≡ s +ℤ (u -ℤ w) → u ≡ leaving node x f → w ≡ entering node x f → r +ℤ imbalance rest fs node ≡ s +ℤ imbalance arcs flow node
balance_more node {rest = rest} {fs = fs} x f s r u w p q e a b =
    sym (ap₂ (λ xs ys. s +ℤ imbalance xs ys node) p q ∙
    joined s (leaving node x f) (entering node x f) (sum_arcs (leaving node) rest fs) (sum_arcs (entering node) rest fs) r (e ∙ ap₂ (λ y z. s +ℤ (y -ℤ z)) a b))

pub balance_all : {C : Type 0} (node : ℕ) (arcs : List (Arc C)) (flow : List ℤ) (s : ℤ) → (arcs ≡ []) ⊎ (length flow ≡ 0) → s +ℤ imbalance arcs flow node ≡ s
balance_all node arcs flow s e =
    ap₂ (λ y z. s +ℤ (y -ℤ z)) (over_none (pos 0) ◌+ℤ◌ (leaving node) arcs flow e) (over_none (pos 0) ◌+ℤ◌ (entering node) arcs flow e) ∙ omega (arith, ints)

-- one arc carries at most its flow past a node
one_carries : (b c : Bool) (f x y : ℤ) → nat_abs ((cond b f (pos 0) +ℤ x) -ℤ (cond c f (pos 0) +ℤ y)) ≤ nat_abs f + nat_abs (x -ℤ y)
one_carries b c f x y = grind (arith, ints)

-- flows within the limits: an imbalance is at most the limit for each flow
balance_small : {C : Type 0} (node : ℕ) (arcs : List (Arc C)) (flow : List ℤ) → Small flow → nat_abs (imbalance arcs flow node) ≤ flow_limit * length flow
balance_small node [] fs small = omega arith
balance_small node (a ∷ rest) [] small = omega arith
balance_small node (a ∷ rest) (f ∷ fs) small =
    let one = one_carries (eqb a.from node) (eqb a.to node) f (sum_arcs (leaving node) rest fs) (sum_arcs (entering node) rest fs) in
    let more = balance_small node rest fs (λ i. small (suc i)) in
    omega (arith, one, more, small 0)

-- such an imbalance of at most 1,024 arcs fits an i32
fits_need : (z : ℤ) → nat_abs z ≤ 1024000000 → SFits w32 z
fits_need (pos n) h = record { sfits = omega arith }
fits_need (negsuc n) h = record { sfits = omega arith }

pub need_fits : {C : Type 0} (node : ℕ) (arcs : List (Arc C)) (flow : List ℤ) (z : ℤ) → z ≡ imbalance arcs flow node → length flow ≤ 1024 → Small flow → SFits w32 z
need_fits node arcs flow z e few small = fits_need z (omega (arith, balance_small node arcs flow small, few, ap nat_abs e))
