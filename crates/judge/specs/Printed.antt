-- Calls with the lines that a board printed for them, and what the judge makes of them; the newest stands first, as in a log.
use Rattle.std.specs.Prelude.{ℕ, List, [], ◌∷◌, ◌≡◌, T, length}
use Rattle.drive.specs.AnyCall.{Call, reply}
use Rattle.drive.specs.Calls.{power_up}
use Rattle.drive.specs.declared.Drive.{Drive}
use Rattle.drive.specs.declared.answer.Answer.{Answer}
use Rattle.theorems_history.specs.Log.{Entry}
use Rattle.lines.specs.Earlier.{line_like}
use Rattle.lines.specs.Shown.{is_good}
use Rattle.judge.specs.Judged.{nothing_judged, shown_in, answer_of, judge_call}
use Rattle.judge.specs.declared.Judge.{Judge}

pub record Printed : Type 0 where
  pub call : Call
  pub line : List ℕ

unfoldable pub judge_all : List Printed → Judge
judge_all [] = nothing_judged
judge_all (p ∷ before) = judge_call (judge_all before) p.call p.line

-- the board's log: each call with the answer that its line shows
unfoldable pub board_log : List Printed → List (Entry Call Answer)
board_log [] = []
board_log (p ∷ before) = record { call = p.call; answer = answer_of (shown_in p.line) } ∷ board_log before

-- every line can be read
unfoldable pub Readable : List Printed → Type 0
Readable [] = Unit {0}
Readable (p ∷ before) = T (is_good p.line) × Readable before

-- the supervisor after these calls, whatever the board printed
unfoldable pub drive_after : List Printed → Drive
drive_after [] = power_up
drive_after (p ∷ before) = (reply (drive_after before) p.call).drive

-- every line is the one that the supervisor's answer has, or would have from an earlier board, by its length
unfoldable pub Supervised : List Printed → Type 0
Supervised [] = Unit {0}
Supervised (p ∷ before) =
    (p.line ≡ line_like (length p.line) (reply (drive_after before) p.call).answer) × Supervised before
