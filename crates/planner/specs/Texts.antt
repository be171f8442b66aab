-- The text of an answer, as the program writes it, and the room that it can need.
use Rattle.std.specs.Prelude.{ℕ, ◌+◌, ◌*◌, List, [], ◌∷◌, ◌++◌, ℤ, Ok, Err, Result, decimal, codes, ◌==◌, if◌then◌else◌}
use Rattle.std.specs.Fmt.{signed_decimal}
use Rattle.networks.specs.Limits.{most_arcs}
use Rattle.search.specs.declared.settling.Answer.{Answer}
use Rattle.search.specs.declared.settling.Answer.TheVariants.{Least, Paused, None}
use Rattle.files.specs.declared.faults.ReadStop.{ReadStop}
pub use Rattle.files.specs.Faults.{refusal_line}
pub use Rattle.files.specs.Texts.{cost_text}

-- the most bytes of an answer: 40 for each flow's line, and 64 for one line more
abbrev pub text_room : ℕ
text_room = 64 + 40 * most_arcs

-- the line of a flow
abbrev pub flow_line : ℕ → ℤ → List ℕ
flow_line i x = codes "(flow " ++ decimal i ++ codes " " ++ signed_decimal x ++ codes ")\n"

-- a line for each flow, the first with this number
abbrev pub flow_lines : ℕ → List ℤ → List ℕ
flow_lines i [] = []
flow_lines i (x ∷ xs) = flow_line i x ++ flow_lines (i + 1) xs

-- the line of a node of a cut
abbrev pub cut_line : ℕ → List ℕ
cut_line i = codes "(cut " ++ decimal i ++ codes ")\n"

-- a line for each mark that is 1
abbrev pub cut_lines : ℕ → List ℕ → List ℕ
cut_lines i [] = []
cut_lines i (m ∷ ms) = (if m == 1 then cut_line i else []) ++ cut_lines (i + 1) ms

-- the line of a total
abbrev pub least_line : List ℕ → List ℕ
least_line total = codes "(least " ++ total ++ codes ")\n"

-- a pause after so many laps
abbrev pub paused_line : ℕ → List ℕ
paused_line laps = codes "(paused " ++ decimal laps ++ codes ")\n"

-- the whole text, where a cost is written so
abbrev pub answer_text : {C : Type 0} → (C → List ℕ) → Result (Answer C) ReadStop → List ℤ → List ℕ → List ℕ
answer_text cost (Ok (Least total laps)) flow marks = least_line (cost total) ++ flow_lines 1 flow
answer_text cost (Ok (Paused laps)) flow marks = paused_line laps
answer_text cost (Ok None) flow marks = codes "(none)\n" ++ cut_lines 1 marks
answer_text cost (Err s) flow marks = refusal_line s
