use Rattle.std.proofs.Common.{◌≡◌, ℕ, ◌+◌, List, length, take, Some, None, Option, ap, ◌∙◌, subst, IfSome}
use Rattle.std.specs.String.{string_bytes}
use Rattle.files.specs.Tables.{most_bytes}
use Rattle.planner.specs.Files.{FileText, part_read}
use Rattle.planner.proofs.reading.text_from.Goals as goal

-- what was read is the part that is answered
read_text : (known : Option (List ℕ)) (room file text : List ℕ) (n : ℕ) → length room ≡ most_bytes + 1 → IfSome known (λ bytes. take n file ≡ take (length room) bytes) → FileText (take n file) text → IfSome known (λ bytes. FileText (part_read bytes) text)
read_text None room file text n long read told = tt
read_text (Some bytes) room file text n long read told = subst (λ xs. FileText xs text) (read ∙ ap (λ k. take k bytes) long) told

pub returns : goal.returns
returns g c = read_text (g.R.Read.remaining c.args.reader.now) c.args.file.now c.read_into.new.room (string_bytes c.text_for.result) c.in_ok-len.len c.requires.long c.in_ok-len.ensures.bytes c.text_for.ensures
