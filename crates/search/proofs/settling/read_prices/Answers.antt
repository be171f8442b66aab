use Rattle.std.proofs.Common.{arith}
use Rattle.search.proofs.Keeping.{read_all}
use Rattle.search.proofs.settling.read_prices.Goals as goal

pub returns : goal.returns
returns g c = read_all g.C.CostKind.kind c.args.limit c.args.prices.now c.loop-p.prices c.loop-p.invariant.0 (λ k h. c.loop-p.invariant.1 k (omega arith))
