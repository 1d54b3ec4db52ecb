-- Document 01, "What the supervisor covers" and "Gates": what an answer shows of the state; 02, M-105: and of a cycle's sample.
use Rattle.std.specs.Prelude.{ℕ, cond, ℤ, pos, int_div, Option, Some, None}
use Prim.Native.Char.{code}
use Rattle.numbers.specs.Limit.{limit}
use Rattle.faults.specs.Word.{bit, any}
use Rattle.hall.specs.declared.fate.Fate.{Fate}
use Rattle.hall.specs.declared.fate.Fate.TheVariants.{Dead, First, Same, Forward, Back, Stray}
use Rattle.states.specs.States.{number_of, is, turning}
use Rattle.states.specs.declared.State.{State}
use Rattle.drive.specs.Flags.{alive}
use Rattle.drive.specs.declared.Drive.{Drive}
use Rattle.drive.specs.declared.answer.Answer.{Answer}
use Rattle.drive.specs.declared.answer.Reply.{Reply}

-- "3 gives charge (1); 4, 6, 7, 8, 9 give drive (2); others off"
abbrev pub gate_of : State → ℕ
gate_of state = cond (is 3 state) 1 (cond (turning state) 2 0)

-- "live bit 0, off (0); else live bit 1, all low sides on (3); else any live flag, off; else .."
abbrev pub gate : State → ℕ → ℕ
gate state live = cond (bit 0 live) 0 (cond (bit 1 live) 3 (cond (any live) 0 (gate_of state)))

-- "The live word": the flags of the drive that are live
abbrev pub live_word : Drive → ℕ
live_word d = alive d.settings d.flags

-- "Reported divided by 2048, rounded toward zero"; "reference and angle are signed 16-bit"
abbrev pub reported : ℤ → ℤ
reported reference = limit (int_div reference (pos 2048))

-- 02, M-105: "The sample judgement must name it: first, same, forward, back, dead or stray."; ".. one letter (F, S, W, B, D, X, or a full
-- stop otherwise)"
abbrev pub letter_of : Fate → ℕ
letter_of First = code "F"
letter_of Same = code "S"
letter_of Forward = code "W"
letter_of Back = code "B"
letter_of Dead = code "D"
letter_of Stray = code "X"

abbrev pub letter : Option Fate → ℕ
letter (Some fate) = letter_of fate
letter None = code "."

-- "number, place, state, gate, live word, speed reference, position, angle, two offsets, retries used"; 02, M-105: "Cycle passes the name
-- on in its answer"
unfoldable pub answer_telling : Option Fate → ℕ → ℕ → Drive → Answer
answer_telling judged number place d =
    record {
      number = number;
      place = place;
      state = number_of d.state;
      gate = gate d.state (live_word d);
      live = live_word d;
      reference = reported d.run.reference;
      position = d.hall.position;
      angle = d.hall.angle;
      offsets = d.offsets.value;
      retries = d.retries;
      judged = judged;
    }

-- "Each hands the next drive state back beside its answer"
abbrev pub reply_telling : Option Fate → ℕ → ℕ → Drive → Reply
reply_telling judged number place d = record { drive = d; answer = answer_telling judged number place d }

-- and where no sample was judged
abbrev pub answer : ℕ → ℕ → Drive → Answer
answer = answer_telling None

abbrev pub reply : ℕ → ℕ → Drive → Reply
reply = reply_telling None
