use Rattle.flows.proofs.theorems.kilter_is_least.Goals as goal
use Rattle.flows.proofs.Least.{kilter_is_least}

pub returns : goal.returns
returns g c = kilter_is_least g.C.CostKind.kind g.met.C.CostKind.lawful
