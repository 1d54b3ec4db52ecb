-- Document 01, "What the supervisor covers": the rows of the table of refusals that the line call can give.
use Rattle.std.specs.Prelude.{ℕ, Bool, List, [], ◌∷◌, eqb, ltb}
use Rattle.verdicts.specs.Table.{Row, row, verdict}
use Rattle.drive.specs.declared.answer.Answer.{Answer}
use Rattle.verdicts.specs.Table.{Verdict}

-- "45 bytes", and by 02, M-105, "a space and one letter" more
abbrev pub line_length : ℕ
line_length = 47

-- "fewer than 45 lent bytes for a line", amended by 02, M-105: "number 5 now applies below 47 bytes"; "answer to print has number above
-- 15, state above 9 or gate above 3 | 1, 2 or 3, the first"
abbrev pub line_rows : Answer → ℕ → List Row
line_rows answer lent =
    row 5 0 (ltb lent line_length)
    ∷ row 5 1 (ltb 15 answer.number)
    ∷ row 5 2 (ltb 9 answer.state)
    ∷ row 5 3 (ltb 3 answer.gate)
    ∷ []

-- "The line call answers number and place only."
abbrev pub line_verdict : Answer → ℕ → Verdict
line_verdict answer lent = verdict (line_rows answer lent)

-- "0 | accepted"
abbrev pub accepts : Answer → ℕ → Bool
accepts answer lent = eqb (line_verdict answer lent).number 0
