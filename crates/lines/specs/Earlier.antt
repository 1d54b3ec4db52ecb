-- Lines of earlier boards. Document 02, M-105: "the report line gains a space and one letter .. before the line feed": until then it had
-- neither, and whoever has the log of such a board still wants to read it.
use Rattle.std.specs.Prelude.{ℕ, cond, List, ◌++◌, eqb, length, take, drop}
use Rattle.drive.specs.declared.answer.Answer.{Answer}
use Rattle.text.specs.Text.{text}
use Rattle.report.specs.Line.{fields, line}

-- 01: "45 bytes", of which the line feed is the last
abbrev pub earlier_length : ℕ
earlier_length = 45

abbrev pub fields_length : ℕ
fields_length = 44

-- the line that such a board prints for an answer
unfoldable pub earlier_line : Answer → List ℕ
earlier_line answer = fields answer ++ text "\n"

-- the line of an answer, in the form of a line of so many bytes
abbrev pub line_like : ℕ → Answer → List ℕ
line_like size answer = cond (eqb size earlier_length) (earlier_line answer) (line answer)

-- a line in the form of today: an earlier one tells of no sample
unfoldable pub of_today : List ℕ → List ℕ
of_today bytes = cond (eqb (length bytes) earlier_length) (take fields_length bytes ++ text " ." ++ drop fields_length bytes) bytes
