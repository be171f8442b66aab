use Rattle.std.proofs.Common.{rules}
use Rattle.costs.proofs.Tiers.{joined_answered}
use Rattle.costs.proofs.TwoTierCostKind.plus.Goals as goal

pub returns : goal.returns
returns c = search (rules, joined_answered)
