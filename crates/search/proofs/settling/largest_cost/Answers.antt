use Rattle.std.proofs.Common.{◌≡◌, drop, map, max, sym, ap, ◌∙◌, rules}
use Rattle.std.specs.List.{reduce}
use Rattle.std.specs.Option.{option_map, unwrap_or}
use Rattle.std.proofs.lemmas.Iterator.{YieldsList-from_map}
use Rattle.std.proofs.lemmas.Iterator.Adapters.{option_map_id}
use Rattle.std.proofs.lemmas.Iterator.Consumers.{YieldsList-from_first, max_from_yields_List}
use Rattle.networks.specs.Nets.{shown}
use Rattle.search.proofs.Largest.{reduced_is}
use Rattle.search.proofs.settling.largest_cost.Goals as goal

pub returns : goal.returns
returns g c =
    let K = g.N.Cost.CostKind.kind in
    let arcs = shown (g.N.Network.meaning c.args.net.now) in
    let most : option_map (λ x. x) c.max.result ≡ reduce max (map (λ a. K.size a.cost) arcs) =
    max_from_yields_List _ _ c.max.ensures.ran
    (YieldsList-from_map _ (λ a. K.size a.cost) (YieldsList-from_first (λ x. x) (λ s. drop s.given (shown (g.N.Network.meaning s.net.now))) arcs (let is = c.map.ensures.source in cc)) c.map.ensures.closure (λ x r q k. search rules)) in
    c.unwrap_or.ensures ∙ ap (λ o. unwrap_or o 0) (sym (option_map_id _) ∙ most) ∙ reduced_is K arcs
