use Rattle.std.proofs.Common.{◌≤◌, length, ap, ◌∙◌, append_assoc, arith}
use Rattle.networks.specs.Limits.{most_counted}
use Rattle.files.specs.Sheets.{inked}
use Rattle.files.specs.Pens.{sheet}
use Rattle.files.proofs.Overlaid.{inked_more}
use Rattle.files.proofs.writing.write_header.Goals as goal

pub returns-clause-is : goal.returns-clause-is
returns-clause-is c =
    let s = sheet c.args.pen.now in
    let h : length s.bytes ≤ most_counted = omega arith in
    let a = inked_more s _ _ _ _ h c.put.ensures.is c.put_count.ensures.is in
    let b = inked_more s _ _ _ _ h (inked_more s _ _ _ _ h a c.put-2.ensures.is) c.put_count-2.ensures.is in
    let d = inked_more s _ _ _ _ h (inked_more s _ _ _ _ h b c.put-3.ensures.is) c.put_count-3.ensures.is in
    inked_more s _ _ _ _ h d c.end.ensures.is ∙ ap (λ t. inked t s) (simp append_assoc)
