-- Every worked figure is right.
use Rattle.std.proofs.Common.{◌≡◌, ℕ, List, [], ◌∷◌, ℤ, pos, negsuc, length, refl, drop}
use Rattle.costs.specs.declared.Plain.{Plain}
use Rattle.costs.specs.declared.TwoTier.{TwoTier}
use Rattle.costs.specs.Models.{units, tiers, plain_kind, two_tier_kind}
use Rattle.costs.specs.PlainLaws.{plain_laws}
use Rattle.costs.specs.TwoTierLaws.{two_tier_laws}
use Rattle.networks.specs.Nets.{Net, shown, rebounded, taken, handed_back}
use Rattle.networks.specs.Locks.{locked_net}
use Rattle.flows.specs.Flows.{imbalances_from}
use Rattle.runs.specs.States.{State, state}
use Rattle.runs.specs.Events.{rebound, take_out, hand_back}
use Rattle.figures.specs.Figures.{Due, least_by, least_at_once, none_by, Figure, Foretold, Begins, Right, AllRight}
use Rattle.figures.specs.Worked.{triangle, triangle_figure, triangle_flow, triangle_prices, no_flow, lockout_figure, loop, loop_figure, line, line_figure, closing_figure, chain_figure, tiers_figure, worked}
use Rattle.figures.proofs.Foretelling.{done_then, least_then, at_once_then, none_then, right_by}
use Rattle.figures.proofs.Forced.{six_round, nine_round, loop_up, loop_down, three_along, four_through, day, by_second, still}

-- the needs of a network at the flow that it is opened at
abbrev needs_at : {C : Type 0} → Net C → List ℤ → List ℤ
needs_at n flow = imbalances_from 1 n.nodes (shown n) flow

-- what the calls of a figure leave: the triangle with 9 and with 10 back, and its flow with 9
abbrev needs : List ℤ
needs = needs_at triangle (no_flow 4)

abbrev nine_flow : List ℤ
nine_flow = pos 5 ∷ pos 5 ∷ pos 4 ∷ pos 9 ∷ []

abbrev nine : Net Plain
nine = rebounded triangle 4 (pos 9) (pos 9)

abbrev ten : Net Plain
ten = rebounded nine 4 (pos 10) (pos 10)

triangle_right : (p : State Plain) → Begins triangle_figure p → Right plain_kind triangle_figure p
triangle_right = right_by plain_kind triangle_figure refl (λ ps ms priced marked.
    least_then plain_kind plain_laws triangle (no_flow 4) needs ps ms priced marked refl triangle_flow triangle_prices (drop 1 triangle_figure.calls) refl six_round (λ qs ns priced marked.
    done_then plain_kind (state triangle triangle_flow needs qs ns) (state nine triangle_flow needs qs ns) (rebound 4 (pos 9) (pos 9)) (drop 2 triangle_figure.calls) refl (λ o q h. h)
    (least_then plain_kind plain_laws nine triangle_flow needs qs ns priced marked refl nine_flow triangle_prices (drop 3 triangle_figure.calls) refl nine_round (λ rs os priced marked.
    done_then plain_kind (state nine nine_flow needs rs os) (state ten nine_flow needs rs os) (rebound 4 (pos 10) (pos 10)) (drop 4 triangle_figure.calls) refl (λ o q h. h)
    (none_then plain_kind plain_laws ten nine_flow needs rs os priced marked refl (1 ∷ 0 ∷ 0 ∷ []) [] refl (λ ss ts priced marked. tt))))))

-- arc 3 under a lock-out: out, and handed back
abbrev out : Net Plain
out = taken lockout_figure.net 1 3

abbrev back : Net Plain
back = handed_back out 1 3

lockout_right : (p : State Plain) → Begins lockout_figure p → Right plain_kind lockout_figure p
lockout_right = right_by plain_kind lockout_figure refl (λ ps ms priced marked.
    done_then plain_kind (state lockout_figure.net (no_flow 4) needs ps ms) (state out (no_flow 4) needs ps ms) (take_out 1 3) (drop 1 lockout_figure.calls) refl (λ o q h. h)
    (none_then plain_kind plain_laws out (no_flow 4) needs ps ms priced marked refl (1 ∷ 0 ∷ 0 ∷ []) (drop 2 lockout_figure.calls) refl (λ qs ns priced marked.
    done_then plain_kind (state out (no_flow 4) needs qs ns) (state back (no_flow 4) needs qs ns) (hand_back 1 3) (drop 3 lockout_figure.calls) refl (λ o q h. h)
    (least_then plain_kind plain_laws back (no_flow 4) needs qs ns priced marked refl triangle_flow triangle_prices [] refl six_round (λ rs os priced marked. tt)))))

loop_up_right : (p : State Plain) → Begins (loop_figure (negsuc 0) (least_by (units (negsuc 2)) (pos 3 ∷ []) (units (pos 0) ∷ []))) p → Right plain_kind (loop_figure (negsuc 0) (least_by (units (negsuc 2)) (pos 3 ∷ []) (units (pos 0) ∷ []))) p
loop_up_right = right_by plain_kind (loop_figure (negsuc 0) (least_by (units (negsuc 2)) (pos 3 ∷ []) (units (pos 0) ∷ []))) refl (λ ps ms priced marked.
    least_then plain_kind plain_laws (loop (negsuc 0)) (no_flow 1) (needs_at (loop (negsuc 0)) (no_flow 1)) ps ms priced marked refl (pos 3 ∷ []) (units (pos 0) ∷ []) [] refl loop_up (λ qs ns priced marked. tt))

loop_down_right : (p : State Plain) → Begins (loop_figure (pos 1) (least_by (units (negsuc 1)) (negsuc 1 ∷ []) (units (pos 0) ∷ []))) p → Right plain_kind (loop_figure (pos 1) (least_by (units (negsuc 1)) (negsuc 1 ∷ []) (units (pos 0) ∷ []))) p
loop_down_right = right_by plain_kind (loop_figure (pos 1) (least_by (units (negsuc 1)) (negsuc 1 ∷ []) (units (pos 0) ∷ []))) refl (λ ps ms priced marked.
    least_then plain_kind plain_laws (loop (pos 1)) (no_flow 1) (needs_at (loop (pos 1)) (no_flow 1)) ps ms priced marked refl (negsuc 1 ∷ []) (units (pos 0) ∷ []) [] refl loop_down (λ qs ns priced marked. tt))

line_right : (p : State Plain) → Begins (line_figure (pos 3) (least_at_once (units (pos 3)) (pos 3 ∷ []) (units (pos 0) ∷ units (pos 1) ∷ []))) p → Right plain_kind (line_figure (pos 3) (least_at_once (units (pos 3)) (pos 3 ∷ []) (units (pos 0) ∷ units (pos 1) ∷ []))) p
line_right = right_by plain_kind (line_figure (pos 3) (least_at_once (units (pos 3)) (pos 3 ∷ []) (units (pos 0) ∷ units (pos 1) ∷ []))) refl (λ ps ms priced marked.
    at_once_then plain_kind plain_laws line (pos 3 ∷ []) (needs_at line (pos 3 ∷ [])) ps ms priced marked refl (pos 3 ∷ []) (units (pos 0) ∷ units (pos 1) ∷ []) [] refl three_along still (λ qs ns priced marked. tt))

line_none : (p : State Plain) → Begins (line_figure (pos 6) (none_by (1 ∷ 0 ∷ []))) p → Right plain_kind (line_figure (pos 6) (none_by (1 ∷ 0 ∷ []))) p
line_none = right_by plain_kind (line_figure (pos 6) (none_by (1 ∷ 0 ∷ []))) refl (λ ps ms priced marked.
    none_then plain_kind plain_laws line (pos 6 ∷ []) (needs_at line (pos 6 ∷ [])) ps ms priced marked refl (1 ∷ 0 ∷ []) [] refl (λ qs ns priced marked. tt))

closing_right : (p : State Plain) → Begins closing_figure p → Right plain_kind closing_figure p
closing_right = right_by plain_kind closing_figure refl (λ ps ms priced marked.
    least_then plain_kind plain_laws closing_figure.net (no_flow 4) (needs_at closing_figure.net (no_flow 4)) ps ms priced marked refl (pos 4 ∷ pos 4 ∷ pos 4 ∷ pos 4 ∷ []) (units (pos 0) ∷ units (pos 1) ∷ units (pos 10) ∷ units (pos 0) ∷ []) [] refl four_through (λ qs ns priced marked. tt))

-- the two hours with less from the mains
abbrev day_flow : List ℤ
day_flow = pos 5 ∷ pos 0 ∷ pos 0 ∷ pos 2 ∷ pos 4 ∷ pos 0 ∷ pos 3 ∷ pos 0 ∷ pos 6 ∷ pos 1 ∷ []

abbrev day_needs : List ℤ
day_needs = needs_at chain_figure.net (no_flow 10)

abbrev less_first : Net Plain
less_first = rebounded chain_figure.net 2 (pos 0) (pos 2)

abbrev less : Net Plain
less = rebounded less_first 7 (pos 0) (pos 2)

chain_right : (p : State Plain) → Begins chain_figure p → Right plain_kind chain_figure p
chain_right = right_by plain_kind chain_figure refl (λ ps ms priced marked.
    least_then plain_kind plain_laws chain_figure.net (no_flow 10) day_needs ps ms priced marked refl day_flow (units (pos 0) ∷ units (pos 5) ∷ units (pos 0) ∷ []) (drop 1 chain_figure.calls) refl day (λ qs ns priced marked.
    done_then plain_kind (state chain_figure.net day_flow day_needs qs ns) (state less_first day_flow day_needs qs ns) (rebound 2 (pos 0) (pos 2)) (drop 2 chain_figure.calls) refl (λ o q h. h)
    (done_then plain_kind (state less_first day_flow day_needs qs ns) (state less day_flow day_needs qs ns) (rebound 7 (pos 0) (pos 2)) (drop 3 chain_figure.calls) refl (λ o q h. h)
    (none_then plain_kind plain_laws less day_flow day_needs qs ns priced marked refl (1 ∷ 0 ∷ 1 ∷ []) [] refl (λ rs os priced marked. tt)))))

tiers_right : (p : State TwoTier) → Begins tiers_figure p → Right two_tier_kind tiers_figure p
tiers_right = right_by two_tier_kind tiers_figure refl (λ ps ms priced marked.
    least_then two_tier_kind two_tier_laws tiers_figure.net (no_flow 3) (needs_at tiers_figure.net (no_flow 3)) ps ms priced marked refl (pos 0 ∷ pos 3 ∷ pos 3 ∷ []) (tiers (pos 0) (pos 0) ∷ tiers (pos 0) (pos 9) ∷ []) [] refl by_second (λ qs ns priced marked. tt))

pub all_right : AllRight worked
all_right = (triangle_right, (lockout_right, (loop_up_right, (loop_down_right, (line_right, (line_none, (closing_right, (chain_right, (tiers_right, tt)))))))))
