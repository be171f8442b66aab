use Rattle.flows.proofs.theorems.kilter_sum_is_limited.Goals as goal
use Rattle.flows.proofs.KilterSums.{sum_limited}

pub returns : goal.returns
returns g c = sum_limited g.C.CostKind.kind
