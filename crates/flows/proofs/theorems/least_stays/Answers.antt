use Rattle.flows.proofs.theorems.least_stays.Goals as goal
use Rattle.flows.proofs.Settling.{least_stays}

pub returns : goal.returns
returns g c = least_stays g.C.CostKind.kind
