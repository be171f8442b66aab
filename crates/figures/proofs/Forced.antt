-- The flows of the figures are forced: they alone are within the bounds, have the imbalances, and cost so little.
use Rattle.std.proofs.Common.{◌≡◌, ℕ, List, [], ◌∷◌, ℤ, pos, negsuc, length, ◌<◌, refl, ap, ap₂, lit≤, subst, inl, inr, arith}
use borrow.Author.Differences.{ints}
use Rattle.costs.specs.declared.Plain.{Plain}
use Rattle.costs.specs.declared.TwoTier.{TwoTier}
use Rattle.costs.specs.Kinds.{Kind, sums}
use Rattle.costs.specs.Models.{plain_kind, two_tier_kind}
use Rattle.networks.specs.Nets.{Net, shown, rebounded}
use Rattle.flows.specs.Flows.{imbalances_from, total, EachArc, Within, Meets}
use Rattle.flows.specs.Laps.{Lap, Better}
use Rattle.flows.proofs.Lapping.{lap_keeps, lap_long}
use Rattle.figures.specs.Worked.{triangle, no_flow, triangle_flow, loop, line, closing_figure, chain_figure, tiers_figure}

-- lists with the same head and rest
with_head : {x y : ℤ} {xs ys : List ℤ} → x ≡ y → xs ≡ ys → (x ∷ xs) ≡ (y ∷ ys)
with_head e d = ap₂ (λ a b. a ∷ b) e d

-- the flow g alone is within the bounds of a network, has the imbalances of the flow found, and costs so little
abbrev Forced : {C : Type 0} → Kind C → Net C → List ℤ → List ℤ → Type 0
Forced K n found g = (f : List ℤ) → EachArc Within (shown n) f → Meets (shown n) (imbalances_from 1 n.nodes (shown n) found) f → total (sums K) (shown n) f ≡ total (sums K) (shown n) g → f ≡ g

abbrev round : ℤ → Net Plain
round back = rebounded triangle 4 back back

pub six_round : Forced plain_kind triangle (no_flow 4) triangle_flow
six_round [] w m t = absurd w
six_round (a ∷ []) w m t = absurd w.1
six_round (a ∷ b ∷ []) w m t = absurd w.1.1
six_round (a ∷ b ∷ c ∷ []) w m t = absurd w.1.1.1
six_round (a ∷ b ∷ c ∷ d ∷ []) ((al, ah), ((bl, bh), ((cl, ch), ((dl, dh), u)))) m t =
    let one = m 1 (lit≤ tt) (lit≤ tt) in
    let two = m 2 (lit≤ tt) (lit≤ tt) in
    let cost = ap (λ (z : Plain). z.units) t in
    with_head (omega (arith, ints)) (with_head (omega (arith, ints)) (with_head (omega (arith, ints)) (with_head (omega (arith, ints)) refl)))
six_round (a ∷ b ∷ c ∷ d ∷ e ∷ f) w m t = absurd w.1.1.1.1

pub nine_round : Forced plain_kind (round (pos 9)) (no_flow 4) (pos 5 ∷ pos 5 ∷ pos 4 ∷ pos 9 ∷ [])
nine_round [] w m t = absurd w
nine_round (a ∷ []) w m t = absurd w.1
nine_round (a ∷ b ∷ []) w m t = absurd w.1.1
nine_round (a ∷ b ∷ c ∷ []) w m t = absurd w.1.1.1
nine_round (a ∷ b ∷ c ∷ d ∷ []) ((al, ah), ((bl, bh), ((cl, ch), ((dl, dh), u)))) m t =
    let one = m 1 (lit≤ tt) (lit≤ tt) in
    let two = m 2 (lit≤ tt) (lit≤ tt) in
    let cost = ap (λ (z : Plain). z.units) t in
    with_head (omega (arith, ints)) (with_head (omega (arith, ints)) (with_head (omega (arith, ints)) (with_head (omega (arith, ints)) refl)))
nine_round (a ∷ b ∷ c ∷ d ∷ e ∷ f) w m t = absurd w.1.1.1.1

pub loop_up : Forced plain_kind (loop (negsuc 0)) (no_flow 1) (pos 3 ∷ [])
loop_up [] w m t = absurd w
loop_up (a ∷ []) w m t = let cost = ap (λ (z : Plain). z.units) t in with_head (omega (arith, ints)) refl
loop_up (a ∷ b ∷ f) w m t = absurd w.1

pub loop_down : Forced plain_kind (loop (pos 1)) (no_flow 1) (negsuc 1 ∷ [])
loop_down [] w m t = absurd w
loop_down (a ∷ []) w m t = let cost = ap (λ (z : Plain). z.units) t in with_head (omega (arith, ints)) refl
loop_down (a ∷ b ∷ f) w m t = absurd w.1

pub three_along : Forced plain_kind line (pos 3 ∷ []) (pos 3 ∷ [])
three_along [] w m t = absurd w
three_along (a ∷ []) w m t = let one = m 1 (lit≤ tt) (lit≤ tt) in with_head (omega (arith, ints)) refl
three_along (a ∷ b ∷ f) w m t = absurd w.1

pub four_through : Forced plain_kind closing_figure.net (no_flow 4) (pos 4 ∷ pos 4 ∷ pos 4 ∷ pos 4 ∷ [])
four_through [] w m t = absurd w
four_through (a ∷ []) w m t = absurd w.1
four_through (a ∷ b ∷ []) w m t = absurd w.1.1
four_through (a ∷ b ∷ c ∷ []) w m t = absurd w.1.1.1
four_through (a ∷ b ∷ c ∷ d ∷ []) ((al, ah), ((bl, bh), ((cl, ch), ((dl, dh), u)))) m t =
    let one = m 1 (lit≤ tt) (lit≤ tt) in
    let two = m 2 (lit≤ tt) (lit≤ tt) in
    let three = m 3 (lit≤ tt) (lit≤ tt) in
    let cost = ap (λ (z : Plain). z.units) t in
    with_head (omega (arith, ints)) (with_head (omega (arith, ints)) (with_head (omega (arith, ints)) (with_head (omega (arith, ints)) refl)))
four_through (a ∷ b ∷ c ∷ d ∷ e ∷ f) w m t = absurd w.1.1.1.1

pub day : Forced plain_kind chain_figure.net (no_flow 10) (pos 5 ∷ pos 0 ∷ pos 0 ∷ pos 2 ∷ pos 4 ∷ pos 0 ∷ pos 3 ∷ pos 0 ∷ pos 6 ∷ pos 1 ∷ [])
day [] w m t = absurd w
day (a ∷ []) w m t = absurd w.1
day (a ∷ b ∷ []) w m t = absurd w.1.1
day (a ∷ b ∷ c ∷ []) w m t = absurd w.1.1.1
day (a ∷ b ∷ c ∷ d ∷ []) w m t = absurd w.1.1.1.1
day (a ∷ b ∷ c ∷ d ∷ e ∷ []) w m t = absurd w.1.1.1.1.1
day (a ∷ b ∷ c ∷ d ∷ e ∷ f ∷ []) w m t = absurd w.1.1.1.1.1.1
day (a ∷ b ∷ c ∷ d ∷ e ∷ f ∷ g ∷ []) w m t = absurd w.1.1.1.1.1.1.1
day (a ∷ b ∷ c ∷ d ∷ e ∷ f ∷ g ∷ h ∷ []) w m t = absurd w.1.1.1.1.1.1.1.1
day (a ∷ b ∷ c ∷ d ∷ e ∷ f ∷ g ∷ h ∷ i ∷ []) w m t = absurd w.1.1.1.1.1.1.1.1.1
day (a ∷ b ∷ c ∷ d ∷ e ∷ f ∷ g ∷ h ∷ i ∷ j ∷ []) ((al, ah), ((bl, bh), ((cl, ch), ((dl, dh), ((el, eh), ((fl, fh), ((gl, gh), ((hl, hh), ((il, ih), ((jl, jh), u)))))))))) m t =
    let one = m 1 (lit≤ tt) (lit≤ tt) in
    let two = m 2 (lit≤ tt) (lit≤ tt) in
    let cost = ap (λ (z : Plain). z.units) t in
    let no_c : c ≡ pos 0 = omega (arith, ints) in
    let no_f : f ≡ pos 0 = omega (arith, ints) in
    let no_h : h ≡ pos 0 = omega (arith, ints) in
    let lamp : d ≡ pos 2 = omega (arith, ints) in
    let later : i ≡ pos 6 = omega (arith, ints) in
    let full : g ≡ pos 3 = omega (arith, ints) in
    let dark : b ≡ pos 0 = omega (arith, ints) in
    let charged : e ≡ pos 4 = omega (arith, ints) in
    let kept : j ≡ pos 1 = omega (arith, ints) in
    let sun : a ≡ pos 5 = omega (arith, ints) in
    with_head sun (with_head dark (with_head no_c (with_head lamp (with_head charged (with_head no_f (with_head full (with_head no_h (with_head later (with_head kept refl)))))))))
day (a ∷ b ∷ c ∷ d ∷ e ∷ f ∷ g ∷ h ∷ i ∷ j ∷ k ∷ l) w m t = absurd w.1.1.1.1.1.1.1.1.1.1

pub by_second : Forced two_tier_kind tiers_figure.net (no_flow 3) (pos 0 ∷ pos 3 ∷ pos 3 ∷ [])
by_second [] w m t = absurd w
by_second (a ∷ []) w m t = absurd w.1
by_second (a ∷ b ∷ []) w m t = absurd w.1.1
by_second (a ∷ b ∷ c ∷ []) ((al, ah), ((bl, bh), ((cl, ch), u))) m t =
    let one = m 1 (lit≤ tt) (lit≤ tt) in
    let first = ap (λ (z : TwoTier). z.first) t in
    with_head (omega (arith, ints)) (with_head (omega (arith, ints)) (with_head (omega (arith, ints)) refl))
by_second (a ∷ b ∷ c ∷ d ∷ f) w m t = absurd w.1.1.1

-- one arc that is no loop: no lap leads to a better flow
pub still : (h : List ℤ) → Lap (shown line) (pos 3 ∷ []) h → Better plain_kind (shown line) (pos 3 ∷ []) h → ⊥
still [] lap better = let long = lap_long (shown line) (pos 3 ∷ []) [] lap in absurd (omega arith)
still (x ∷ []) lap better =
    let keeps = lap_keeps (shown line) (pos 3 ∷ []) (x ∷ []) refl lap 1 in
    let same : x ≡ pos 3 = omega (arith, ints) in
    go (subst (λ y. Better plain_kind (shown line) (pos 3 ∷ []) (y ∷ [])) same better)
  where
    go : Better plain_kind (shown line) (pos 3 ∷ []) (pos 3 ∷ []) → ⊥
    go (inl nearer) = omega arith
    go (inr (as_far, cheaper)) = absurd cc
still (x ∷ y ∷ rest) lap better = let long = lap_long (shown line) (pos 3 ∷ []) (x ∷ y ∷ rest) lap in absurd (omega arith)
