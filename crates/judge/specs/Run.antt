-- The judge's run over the bytes of records and of lines that have arrived.
use Rattle.std.specs.Prelude.{ℕ, zero, suc, ◌+◌, Bool, true, false, not, ◌&&◌, cond, is_some, is_none, List, length, drop}
use Rattle.drive.specs.AnyCall.{Call}
use Rattle.streams.specs.Run.{Front, end, unknown, short, whole}
use Rattle.records.specs.Front.{size_of, front}
use Rattle.judge.specs.NextLine.{line_size, line_of}
use Rattle.judge.specs.Judged.{judge_call, judge_refusal, ended_by}
use Rattle.judge.specs.declared.Judge.{Judge}
use Rattle.judge.specs.declared.Wants.{Wants}
use Rattle.judge.specs.declared.Wants.TheVariants.{Turn, Records, Lines, Nothing}
use Rattle.judge.specs.declared.Ran.{Ran}

-- nothing is taken before more bytes have come
abbrev pub wanting : Judge → Wants → Ran
wanting j what = record { judge = j; taken = 0; lines = 0; wants = what }

-- so many bytes are taken, and it goes on where it has not ended
abbrev pub told : Judge → ℕ → ℕ → Ran
told j taken lines = record { judge = j; taken = taken; lines = lines; wants = cond (is_some j.end) Nothing Turn }

-- what stands at the front of the records, with the line at the front of the lines: a record without a line has the line of no bytes
abbrev pub follow : Bool → Judge → List ℕ → Front Call → Ran
follow closed j line end = cond closed (told (ended_by j line) 0 0) (wanting j Records)
follow closed j line unknown = told (judge_refusal j line) 0 (length line)
follow closed j line short = cond closed (told (judge_refusal j line) 0 (length line)) (wanting j Records)
follow closed j line (whole call) = told (judge_call j call line) (size_of call) (length line)

-- a line without its line feed is waited for while more bytes may come
unfoldable pub turn : Bool → List ℕ → Bool → List ℕ → Judge → Ran
turn closed input finished lines j =
    cond (is_none (line_size lines) && not finished) (wanting j Lines) (follow closed j (line_of lines) (front input))

-- one turn more
unfoldable pub onward : Bool → List ℕ → Bool → List ℕ → Ran → Ran
onward closed input finished lines ran =
    let next : Ran = turn closed (drop ran.taken input) finished (drop ran.lines lines) ran.judge in
    record { judge = next.judge; taken = ran.taken + next.taken; lines = ran.lines + next.lines; wants = next.wants }

-- whether another turn is wanted
abbrev pub wants_turn : Wants → Bool
wants_turn Turn = true
wants_turn Records = false
wants_turn Lines = false
wants_turn Nothing = false

-- turn after turn; each that wants another has taken a record, so the length of the input is fuel enough
unfoldable pub runs : ℕ → Bool → List ℕ → Bool → List ℕ → Ran → Ran
runs zero closed input finished lines ran = onward closed input finished lines ran
runs (suc fuel) closed input finished lines ran =
    let next : Ran = onward closed input finished lines ran in
    cond (wants_turn next.wants) (runs fuel closed input finished lines next) next

abbrev pub run : Bool → List ℕ → Bool → List ℕ → Judge → Ran
run closed input finished lines j =
    runs (length input) closed input finished lines (record { judge = j; taken = 0; lines = 0; wants = Turn })
