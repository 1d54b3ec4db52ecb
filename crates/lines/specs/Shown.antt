-- What a line shows. A line is good where it is the line of an answer, byte for byte: of the answer that its digits show.
-- So a line with "-00000", "+40000" or small letters is not good: `report` writes no such line. A line of an earlier board is good where
-- the same with a full stop is.
use Rattle.std.specs.Prelude.{ℕ, Bool, true, false, ◌&&◌, cond, List, [], ◌∷◌, eqb, length, Option, Some, None, is_some}
use Rattle.drive.specs.declared.answer.Answer.{Answer}
use Rattle.report.specs.Refusals.{line_length, accepts}
use Rattle.report.specs.Line.{line}
use Rattle.lines.specs.Fields.{answer_in}
use Rattle.lines.specs.Earlier.{of_today}
use Rattle.lines.specs.declared.Shown.{Shown}

-- the same bytes
abbrev pub same_bytes : List ℕ → List ℕ → Bool
same_bytes [] [] = true
same_bytes [] (y ∷ ys) = false
same_bytes (x ∷ xs) [] = false
same_bytes (x ∷ xs) (y ∷ ys) = eqb x y && same_bytes xs ys

-- these bytes are the line of this answer
abbrev pub is_line_of : Answer → List ℕ → Bool
is_line_of answer bytes = accepts answer line_length && same_bytes (line answer) bytes

-- what the line of an answer shows of it to an onlooker
abbrev pub shown : Answer → Shown
shown answer = record { number = answer.number; state = answer.state; gate = answer.gate; live = answer.live }

unfoldable pub shown_today : List ℕ → Option Shown
shown_today bytes =
    cond (eqb (length bytes) line_length) (cond (is_line_of (answer_in bytes) bytes) (Some (shown (answer_in bytes))) None) None

abbrev pub shown_by : List ℕ → Option Shown
shown_by bytes = shown_today (of_today bytes)

-- the line of an answer
abbrev pub is_good : List ℕ → Bool
is_good bytes = is_some (shown_by bytes)
