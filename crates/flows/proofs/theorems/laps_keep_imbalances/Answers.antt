use Rattle.flows.proofs.theorems.laps_keep_imbalances.Goals as goal
use Rattle.flows.proofs.Lapping.{laps_keep}

pub returns : goal.returns
returns g c = laps_keep g.C.CostKind.kind
