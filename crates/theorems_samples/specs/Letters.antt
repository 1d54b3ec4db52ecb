-- Document 02, M-105, of calls and answers: "Fitters chasing a loose plug want to see the sample's fate. The sample judgement must name it:
-- first, same, forward, back, dead or stray. Cycle passes the name on in its answer". Whoever reads a log can judge each sample himself:
-- by the pattern of the cycle, by the patterns of the accepted cycles before it, and by the layout that the last accepted load named. So
-- he can tell the letter of each answer and of its line, and its position from the position that the answer before it showed. Neither the
-- drive's state is read nor any letter that it gave; each test is written anew here from documents 01 and 02, that of a dead pattern in
-- the onlooker's words (`onlooker` Words.antt `is_dead`). What a layout is, its order and its widths, is `hall`'s (Layout.antt).
use Rattle.std.specs.Prelude.{ℕ, ◌+◌, ◌-◌, ◌%◌, ◌^◌, ◌≡◌, Bool, not, ◌||◌, cond, List, [], ◌∷◌, T, eqb, Option, Some, None}
use Prim.Native.Char.{code}
use Rattle.numbers.specs.Count.{up}
use Rattle.hall.specs.Layout.{Layout, three, two, under, next}
use Rattle.theorems_history.specs.Log.{Entry, state_after, log}
use Rattle.drive.specs.Answer.{letter}
use Rattle.drive.specs.AnyCall.{Call, loads, cycles, ticks, block_loads}
use Rattle.drive.specs.declared.Drive.{Drive}
use Rattle.drive.specs.declared.answer.Answer.{Answer}
use Rattle.report.specs.Line.{line}
use Rattle.lines.specs.Fields.{part}
use Rattle.records.specs.Run.{shiftline}
use Rattle.onlooker.specs.Words.{setting, is_dead}
use Rattle.theorems_reached.specs.Machine.{machine}
use Rattle.theorems_demands.specs.FlagTwelve.{loads_now}
use Rattle.theorems_demands.specs.Stalled.{Log, numbers_of}

-- 02, M-101: "Setting 25 chooses 2 or 3 sensors", of the last accepted load
abbrev pub layout_of : List ℕ → Layout
layout_of numbers = cond (eqb (setting 25 numbers) 2) two three

-- ---- the letter of a pattern, under the loaded numbers

-- against the kept pattern: "Any of 1..6 with none kept"; "Same as kept"; "Next or previous"; "Another of 1..6"
abbrev pub letter_against : Layout → Option ℕ → ℕ → ℕ
letter_against l None p = code "F"
letter_against l (Some k) p =
    cond (eqb p k) (code "S") (cond (eqb p (next l k)) (code "W") (cond (eqb k (next l p)) (code "B") (code "X")))

-- "0 or 7", with three sensors; 02, M-101, of two: "The dead-pattern test does not apply."
abbrev pub letter_for : List ℕ → Option ℕ → ℕ → ℕ
letter_for numbers kept p = cond (is_dead numbers p) (code "D") (letter_against (layout_of numbers) kept p)

-- ---- what he keeps of the samples

-- the kept pattern, and the dead and the stray samples in a row
pub record Samples : Type 0 where
  pub kept : Option ℕ
  pub dead : ℕ
  pub stray : ℕ

-- "Power-up is IDLE, all zero."
abbrev pub no_sample : Samples
no_sample = record { kept = None; dead = 0; stray = 0 }

-- "dead streak up by one, at most 2; stray streak zero. At 2, .. the kept pattern is forgotten."
abbrev pub with_dead : Samples → Samples
with_dead m = let dead : ℕ = up 2 m.dead in record { kept = cond (eqb dead 2) None m.kept; dead = dead; stray = 0 }

-- "stray streak up, dead streak zero. At 3, .. the pattern is forgotten and the stray streak returns to zero."
abbrev pub with_stray : Samples → Samples
with_stray m =
    let stray : ℕ = up 3 m.stray in
    record { kept = cond (eqb stray 3) None m.kept; dead = 0; stray = cond (eqb stray 3) 0 stray }

-- "kept; .. both streaks zero"
abbrev pub keeping : Option ℕ → Samples
keeping kept = record { kept = kept; dead = 0; stray = 0 }

-- with a pattern more, by its letter
abbrev pub with_letter : ℕ → ℕ → Samples → Samples
with_letter letter p m =
    cond (eqb letter (code "D")) (with_dead m)
    (cond (eqb letter (code "X")) (with_stray m) (cond (eqb letter (code "S")) (keeping m.kept) (keeping (Some p))))

-- with an accepted call more, under the numbers that were loaded before it: "An accepted load .. clears everything else to power-up values:
-- .. pattern"; a tick brings no sample
abbrev pub with_call : List ℕ → Samples → Call → Samples
with_call numbers m (loads loaded) = no_sample
with_call numbers m (cycles c) = with_letter (letter_for numbers m.kept c.pattern) c.pattern m
with_call numbers m (ticks t) = m
with_call numbers m (block_loads image block) = no_sample

-- "A refusal changes no state": a refused sample is not judged
abbrev pub accepted : Entry Call Answer → Bool
accepted e = eqb e.answer.number 0

unfoldable pub samples_of : Log → Samples
samples_of [] = no_sample
samples_of (e ∷ past) = cond (accepted e) (with_call (numbers_of past) (samples_of past) e.call) (samples_of past)

-- ---- the letter of an answer: ".. one letter (F, S, W, B, D, X, or a full stop otherwise)"

abbrev pub letter_of_call : List ℕ → Option ℕ → Call → ℕ
letter_of_call numbers kept (loads loaded) = code "."
letter_of_call numbers kept (cycles c) = letter_for numbers kept c.pattern
letter_of_call numbers kept (ticks t) = code "."
letter_of_call numbers kept (block_loads image block) = code "."

abbrev pub letter_by_log : Entry Call Answer → Log → ℕ
letter_by_log e past = cond (accepted e) (letter_of_call (numbers_of past) (samples_of past).kept e.call) (code ".")

-- ---- the position of an answer

-- the one that the last answer showed; "Power-up is IDLE, all zero."
abbrev pub shown_position : Log → ℕ
shown_position [] = 0
shown_position (e ∷ past) = e.answer.position

-- 02, M-101: "A clockwise step adds the width of the sector left, a counter-clockwise one subtracts the width of the sector entered"
abbrev pub width_of : Layout → ℕ → ℕ
width_of l p = under l.order l.widths p

abbrev pub width_left : Layout → Option ℕ → ℕ
width_left l None = 0
width_left l (Some k) = width_of l k

-- "The position counter runs modulo 2^32."
abbrev pub moved_by : ℕ → Layout → Option ℕ → ℕ → ℕ → ℕ
moved_by letter l kept p position =
    cond (eqb letter (code "W")) ((position + width_left l kept) % 2 ^ 32)
    (cond (eqb letter (code "B")) ((position + (2 ^ 32 - width_of l p)) % 2 ^ 32) position)

abbrev pub position_of_call : List ℕ → Option ℕ → Call → ℕ → ℕ
position_of_call numbers kept (loads loaded) position = 0
position_of_call numbers kept (cycles c) position =
    moved_by (letter_for numbers kept c.pattern) (layout_of numbers) kept c.pattern position
position_of_call numbers kept (ticks t) position = position
position_of_call numbers kept (block_loads image block) position = 0

abbrev pub position_by_log : Entry Call Answer → Log → ℕ
position_by_log e past =
    cond (accepted e) (position_of_call (numbers_of past) (samples_of past).kept e.call (shown_position past)) (shown_position past)

-- ---- what is claimed: after any sequence of calls from power-up and one more

module _ (call : Call) (earlier : List Call) where
  abbrev answered : Answer
  answered = machine.answer (state_after machine earlier) call

  abbrev made : Entry Call Answer
  made = record { call = call; answer = answered }

  abbrev past : Log
  past = log machine earlier

  pub record Told : Type 0 where
    -- the letter is the judgement of this cycle's pattern against the pattern that was kept before it; any other answer has the full stop
    pub its_letter : letter answered.judged ≡ letter_by_log made past
    -- and so has the line of that answer: 01's 44 bytes, the space, this letter and the line feed
    pub printed : part 44 3 (line answered) ≡ code " " ∷ letter_by_log made past ∷ code "\n" ∷ []
    -- the position is the one shown before, moved by the width that the layout gives; only an accepted load zeroes it
    pub its_position : answered.position ≡ position_by_log made past
    -- but for that, W and B are exactly the answers whose position is another than before
    pub moves :
        T (not (loads_now made))
        → not (eqb answered.position (shown_position past)) ≡ (eqb (letter answered.judged) (code "W")
        || eqb (letter answered.judged) (code "B"))

abbrev pub SampleIsTold : Type 0
SampleIsTold = (call : Call) (earlier : List Call) → Told call earlier

-- "a line with number 6 shows the unchanged state": it is no answer to a call, and tells of no sample, whatever was told before
abbrev pub NumberSixTellsNothing : Type 0
NumberSixTellsNothing = (d : Drive) → part 44 3 (shiftline.refusal d) ≡ code " " ∷ code "." ∷ code "\n" ∷ []
