use Rattle.std.proofs.Common.{rules}
use Rattle.flows.proofs.Group.{size_neg}
use Rattle.flows.proofs.pricing.opposite.Goals as goal

pub unwrap-requires : goal.unwrap-requires
unwrap-requires g c = let h = size_neg g.C.CostKind.kind g.met.C.CostKind.lawful c.args.a in search rules

pub returns : goal.returns
returns g c = let h = size_neg g.C.CostKind.kind g.met.C.CostKind.lawful c.args.a in search rules
