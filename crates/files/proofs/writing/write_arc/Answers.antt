-- The texts of a line, one after another.
use Rattle.std.proofs.Common.{◌≡◌, ℕ, ◌≤◌, List, ◌++◌, length, ap, ap₂, ◌∙◌, append_assoc, w32, w64, SFits, arith, rules}
use Rattle.std.proofs.lemmas.Int.{to_z-of_z}
use Rattle.networks.specs.Limits.{most_counted}
use Rattle.files.specs.Sheets.{Sheet, inked}
use Rattle.files.specs.Pens.{sheet}
use Rattle.files.specs.Texts.{arc_text}
use Rattle.files.proofs.Overlaid.{inked_more}
use Rattle.files.proofs.writing.write_arc.Goals as goal

joined : (a b c d e f g h i j k : List ℕ) → (((((((((a ++ b) ++ c) ++ d) ++ e) ++ f) ++ g) ++ h) ++ i) ++ j) ++ k ≡ a ++ b ++ c ++ d ++ e ++ f ++ g ++ h ++ i ++ j ++ k
joined a b c d e f g h i j k = simp append_assoc

line : (a b c d e f g h i j k : List ℕ) (s t u v w x y z o p q r : Sheet) → length s.bytes ≤ most_counted
    → t ≡ inked a s → u ≡ inked b t → v ≡ inked c u → w ≡ inked d v → x ≡ inked e w → y ≡ inked f x → z ≡ inked g y → o ≡ inked h z → p ≡ inked i o → q ≡ inked j p → r ≡ inked k q
    → r ≡ inked (a ++ b ++ c ++ d ++ e ++ f ++ g ++ h ++ i ++ j ++ k) s
line a b c d e f g h i j k s t u v w x y z o p q r l et eu ev ew ex ey ez eo ep eq er =
    let three = inked_more s u v (a ++ b) c l (inked_more s t u a b l et eu) ev in
    let five = inked_more s w x _ e l (inked_more s v w _ d l three ew) ex in
    let seven = inked_more s y z _ g l (inked_more s x y _ f l five ey) ez in
    let nine = inked_more s o p _ i l (inked_more s z o _ h l seven eo) ep in
    inked_more s q r _ k l (inked_more s p q _ j l nine eq) er ∙ ap (λ n. inked n s) (joined a b c d e f g h i j k)

pub returns-clause-is : goal.returns-clause-is
returns-clause-is g c =
    let x = c.args.arc in
    let s = sheet c.args.pen.now in
    let h : length s.bytes ≤ most_counted = omega arith in
    let a : SFits w64 c.from.result = search rules in
    let b : SFits w64 c.from-2.result = search rules in
    let lo : SFits w32 x.lo = search rules in
    let hi : SFits w32 x.hi = search rules in
    let written = line _ _ _ _ _ _ _ _ _ _ _ s _ _ _ _ _ _ _ _ _ _ _ h c.put.ensures.is c.put_count.ensures.is c.put-2.ensures.is c.put_count-2.ensures.is c.put-3.ensures.is
    c.put_number.ensures.is c.put-4.ensures.is c.put_number-2.ensures.is c.put-5.ensures.is c.write_cost.ensures.is c.end.ensures.is in
    written ∙ ap₂ (λ y z. inked (arc_text g.C.FileCost.numbers (record { from = x.from; to = x.to; lo = y; hi = z; cost = x.cost })) s) (to_z-of_z w64 _ a ∙ c.from.ensures ∙ to_z-of_z w32 x.lo lo) (to_z-of_z w64 _ b ∙ c.from-2.ensures ∙ to_z-of_z w32 x.hi hi)
