use Rattle.std.proofs.Common.{ap, ◌∙◌}
use Rattle.std.specs.Option.{is_some}
use Rattle.tidy.proofs.Marks.{some_free}
use Rattle.tidy.proofs.picks.Marked.first_free.Goals as goal

pub unwrap-place-requires : goal.unwrap-place-requires
unwrap-place-requires g c = ap is_some c.free_place.ensures ∙ some_free c.args.self.now.marks.now c.requires
