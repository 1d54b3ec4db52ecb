-- Document 01, "Report line and program", amended by document 02, M-105: the line of an answer, and what the call leaves in the lent bytes.
use Rattle.std.specs.Prelude.{cond, ℕ, List, [], ◌∷◌, ◌++◌, length, get_or, drop}
use Prim.Native.String.{String}
use Rattle.drive.specs.Answer.{letter}
use Rattle.drive.specs.declared.answer.Answer.{Answer}
use Rattle.text.specs.Text.{text}
use Rattle.report.specs.Text.{padded, digits, signed}
use Rattle.report.specs.Refusals.{line_length, accepts}

-- the states by their numbers, 0 to 9
abbrev pub names : List String
names =
    "IDLE"
    ∷ "STOP"
    ∷ "OFFSETCAL"
    ∷ "BTSCHARGE"
    ∷ "MOTORRUN"
    ∷ "FAULT"
    ∷ "CATCHSPIN"
    ∷ "PARKING"
    ∷ "OPENLOOP"
    ∷ "ANGLESENSING"
    ∷ []

-- "name of the state, padded with full stops to twelve"
abbrev pub name : ℕ → List ℕ
name state = padded 12 (text (get_or names state ""))

-- "number, one hex digit; space; name of the state, ..; space; gate; space; live word, 4 hex; space; speed reference, sign and
-- 5 digits; space; position, 8 hex; space; angle, sign and 5 digits"
abbrev pub fields : Answer → List ℕ
fields answer =
    digits 16 1 answer.number
    ++ text " "
    ++ name answer.state
    ++ text " "
    ++ digits 10 1 answer.gate
    ++ text " "
    ++ digits 16 4 answer.live
    ++ text " "
    ++ signed answer.reference
    ++ text " "
    ++ digits 16 8 answer.position
    ++ text " "
    ++ signed answer.angle

-- ".. line feed"; 02, M-105: "the report line gains a space and one letter (F, S, W, B, D, X, or a full stop otherwise) before the line
-- feed"
unfoldable pub line : Answer → List ℕ
line answer = fields answer ++ text " " ++ (letter answer.judged ∷ []) ++ text "\n"

-- "lent bytes after them unchanged"; "A refusal changes .. no lent byte"
abbrev pub lent_after : Answer → List ℕ → List ℕ
lent_after answer lent = cond (accepts answer (length lent)) (line answer ++ drop line_length lent) lent
