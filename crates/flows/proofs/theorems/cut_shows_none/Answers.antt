use Rattle.flows.proofs.theorems.cut_shows_none.Goals as goal
use Rattle.flows.proofs.Cuts.{cut_shows_none}

pub returns : goal.returns
returns g c = cut_shows_none _
