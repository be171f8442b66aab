use Rattle.std.proofs.Common.{rules}
use Rattle.reach.specs.Scans.{is_labelled}
use Rattle.reach.proofs.rises.raise.Goals as goal

pub returns-clause-raised : goal.returns-clause-raised
returns-clause-raised g c = c.raise.ensures.raised (is_labelled c.args.labels.now) (λ k h b e. search rules)
