-- A cost with one number, or with two.
use Rattle.std.proofs.Common.{◌≡◌, ◌≤◌, true, cond, [], ◌++◌, length, ap, ap₂, ◌∙◌, sym, append_assoc, w64, SFits, arith, rules}
use Rattle.std.proofs.lemmas.Int.{to_z-of_z}
use Rattle.std.proofs.lemmas.Bool.{lt-ltb}
use Rattle.std.specs.Prelude.{codes, nat_lt}
use Rattle.std.specs.Fmt.{signed_decimal}
use Rattle.networks.specs.Limits.{most_counted}
use Rattle.files.specs.Sheets.{inked}
use Rattle.files.specs.Pens.{sheet}
use Rattle.files.specs.Texts.{cost_text}
use Rattle.files.proofs.Overlaid.{inked_more}
use Rattle.files.proofs.writing.write_cost.Goals as goal

pub returns-then-tiers-gt1-clause-is : goal.returns-then-tiers-gt1-clause-is
returns-then-tiers-gt1-clause-is g c =
    let s = sheet c.args.pen.now in
    let t = g.C.FileCost.numbers in
    let h : length s.bytes ≤ most_counted = omega arith in
    let a : SFits w64 c.first.result = search rules in
    let b : SFits w64 c.second.result = search rules in
    let start = inked_more s _ _ _ _ h c.put_number.ensures.is c.put.ensures.is in
    let both = simp to_z-of_z at (inked_more s _ _ _ _ h start c.put_number-then-tiers-gt1.ensures.is) in
    let two : nat_lt 1 t.count ≡ true = lt-ltb _ _ (omega (arith, c.tiers.ensures)) in
    let text : (signed_decimal c.first.result ++ codes " ") ++ signed_decimal c.second.result ≡ cost_text t c.args.cost =
    append_assoc (signed_decimal c.first.result) (codes " ") (signed_decimal c.second.result) ∙ ap₂ (λ y z. signed_decimal y ++ (codes " " ++ signed_decimal z)) c.first.ensures c.second.ensures
    ∙ ap (λ b. signed_decimal (t.first c.args.cost) ++ cond b (codes " " ++ signed_decimal (t.second c.args.cost)) []) (sym two) in
    both ∙ ap (λ z. inked z s) text
