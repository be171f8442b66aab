use Rattle.std.proofs.Common.{length}
use Rattle.tidy.proofs.Marks.{all_clear}
use Rattle.tidy.proofs.tidying.tidy.Goals as goal

pub label_all-requires-clause-clear : goal.label_all-requires-clause-clear
label_all-requires-clause-clear g c = all_clear (length c.args.prices.now) 256
