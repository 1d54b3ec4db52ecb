-- The page of the bench programs, "benchline: any call of the supervisors, whole answers": its lines.
use Rattle.std.specs.Prelude.{ℕ, ◌+◌, ◌*◌, List, [], ◌∷◌, ◌++◌}
use Rattle.drive.specs.Answer.{letter}
use Rattle.drive.specs.declared.answer.Answer.{Answer}
use Rattle.text.specs.Text.{text}
use Rattle.text.specs.Decimal.{decimal, signed_decimal}

-- "A motor's line: number, place, state, gate, live word, reference, position, angle, first offset, second offset, retries; from M-105 on
-- the letter of the sample's fate, a full stop for anything but an accepted cycle"; "separated by single spaces, ended by a line feed"
unfoldable pub motor_line : Answer → List ℕ
motor_line answer =
    (decimal answer.number ++ text " ")
    ++ (decimal answer.place ++ text " ")
    ++ (decimal answer.state ++ text " ")
    ++ (decimal answer.gate ++ text " ")
    ++ (decimal answer.live ++ text " ")
    ++ (signed_decimal answer.reference ++ text " ")
    ++ (decimal answer.position ++ text " ")
    ++ (signed_decimal answer.angle ++ text " ")
    ++ (decimal answer.offsets.first ++ text " ")
    ++ (decimal answer.offsets.second ++ text " ")
    ++ (decimal answer.retries ++ text " ")
    ++ ((letter answer.judged ∷ []) ++ text "\n")

-- "prints the line `?`"
unfoldable pub refusal_line : List ℕ
refusal_line = text "?\n"

-- Room for any line: nine numbers of twenty digits at most, two with a sign besides, a letter, and a byte after each. The numbers of a
-- motor are far shorter; this bound asks nothing of them.
abbrev pub line_room : ℕ
line_room = 9 * 21 + 2 * 22 + 2
