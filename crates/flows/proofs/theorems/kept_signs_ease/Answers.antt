use Rattle.flows.proofs.theorems.kept_signs_ease.Goals as goal
use Rattle.flows.proofs.Prices.{kept_signs_ease}

pub returns : goal.returns
returns g c = kept_signs_ease g.C.CostKind.kind g.met.C.CostKind.lawful
