use Rattle.flows.proofs.theorems.kilter_sum_tells.Goals as goal
use Rattle.flows.proofs.KilterSums.{sum_tells}

pub returns : goal.returns
returns g c = sum_tells g.C.CostKind.kind g.met.C.CostKind.lawful
