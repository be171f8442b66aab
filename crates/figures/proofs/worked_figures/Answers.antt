use Rattle.figures.proofs.Figured.{all_right}
use Rattle.figures.proofs.worked_figures.Goals as goal

pub returns : goal.returns
returns c = all_right
