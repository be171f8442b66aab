use Rattle.runs.proofs.Law.{steps_make_a_run}
use Rattle.runs.proofs.steps_make_a_run.Goals as goal

pub returns : goal.returns
returns g c = steps_make_a_run g.C.CostKind.kind g.met.C.CostKind.lawful
