use Rattle.std.proofs.Common.{◌++◌, ap, ◌∙◌}
use Rattle.std.specs.String.{string_bytes}
use Rattle.files.specs.Tables.{counts}
use Rattle.planner.specs.Texts.{cost_text, answer_text}
use Rattle.planner.proofs.Filed.{table_text}
use Rattle.planner.proofs.answers.write_settled.Goals as goal

pub returns : goal.returns
returns g c =
    table_text g.C.CostKind.kind c.args.flow.now c.args.needs.now c.args.prices.now c.args.marks.now c.args.rows.now g.C.FileCost.numbers c.args.text.now (counts c.args.header)
    c.requires.first c.requires.rows c.requires.flow c.requires.needs c.requires.prices c.requires.marks
    c.settle_file-settled.result c.settle_file-settled.new.flow c.settle_file-settled.new.marks (string_bytes c.write_answer.new.out) c.settle_file-settled.ensures
    (c.write_answer.ensures ∙ ap (λ zs. zs ++ answer_text (cost_text g.C.FileCost.numbers) c.settle_file-settled.result c.settle_file-settled.new.flow c.settle_file-settled.new.marks) c.requires.empty)
