use Rattle.labels.proofs.Extending.{grown_both}
use Rattle.labels.proofs.labelling.label.Goals as goal

pub returns-clause-grown : goal.returns-clause-grown
returns-clause-grown g c = grown_both c.args.labels.now c.follow_first.new.labels c.label_from.new.labels c.follow_first.ensures.grown c.label_from.ensures.grown
