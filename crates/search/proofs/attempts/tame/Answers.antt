use Rattle.std.proofs.Common.{sym, ◌∙◌}
use Rattle.networks.specs.Nets.{shown}
use Rattle.search.proofs.Taming.{eased_same, tidied_tame, tidied_ready, tidied_eased}
use Rattle.search.proofs.Keeping.{signs_same, none_large}
use Rattle.search.proofs.attempts.tame.Goals as goal

pub returns-then-any_large : goal.returns-then-any_large
returns-then-any_large g c =
    let K = g.N.Cost.CostKind.kind in
    let n = g.N.Network.meaning c.args.net.now in
    let t = c.tidy.ensures in
    record {
      ready = tidied_ready K n.nodes (shown n) c.args.flow.now c.args.prices.now c.tidy.new.prices c.requires t;
      eased = tidied_eased K g.met.N.Cost.CostKind.lawful n.nodes (shown n) c.args.flow.now c.args.prices.now c.tidy.new.prices c.requires t;
      signs = t.signs;
      tame = tidied_tame K n.nodes (shown n) c.args.flow.now c.args.prices.now c.tidy.new.prices c.requires t;
    }

pub returns-else-any_large : goal.returns-else-any_large
returns-else-any_large g c =
    let K = g.N.Cost.CostKind.kind in
    let n = g.N.Network.meaning c.args.net.now in
    record { ready = c.requires; eased = eased_same K (shown n) c.args.flow.now c.args.prices.now c.requires.long; signs = signs_same K g.met.N.Cost.CostKind.lawful (shown n) c.args.prices.now; tame = none_large K c.args.prices.now (sym c.any_large.ensures ∙ c.if-any_large.false) }
