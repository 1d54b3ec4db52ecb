-- The judge after one record with its line: "it names the first line that differs from what the supervisor answers, and the first entry of
-- the log that breaks demand 3, or says that neither exists".
use Rattle.std.specs.Prelude.{ℕ, Bool, not, ◌&&◌, cond, Option, Some, None, unwrap_or, List, [], ◌∷◌, ◌++◌, eqb, pos, length, replicate}
use Rattle.std.specs.Option.{option_or}
use Rattle.std.specs.Bool.{then_some}
use Rattle.numbers.specs.Count.{up}
use Rattle.text.specs.Text.{text}
use Rattle.text.specs.Put.{written}
use Rattle.drive.specs.Answer.{reply as shown}
use Rattle.drive.specs.AnyCall.{Call, reply}
use Rattle.drive.specs.Calls.{power_up}
use Rattle.drive.specs.declared.Drive.{Drive}
use Rattle.drive.specs.declared.answer.Answer.{Answer}
use Rattle.drive.specs.declared.answer.Reply.{Reply}
use Rattle.report.specs.Refusals.{line_length}
use Rattle.report.specs.Line.{lent_after}
use Rattle.lines.specs.Earlier.{earlier_length, fields_length}
use Rattle.lines.specs.Shown.{same_bytes, shown_by, is_good}
use Rattle.lines.specs.declared.Shown.{Shown}
use Rattle.onlooker.specs.Past.{most}
use Rattle.onlooker.specs.Hears.{nothing_heard, hears}
use Rattle.onlooker.specs.declared.Onlooker.{Onlooker}
use Rattle.onlooker.specs.declared.past.Rules.{Rules}
use Rattle.judge.specs.declared.Judge.{Judge}
use Rattle.judge.specs.declared.Difference.{Difference}
use Rattle.judge.specs.declared.Breach.{Breach}
use Rattle.judge.specs.declared.End.{End}
use Rattle.judge.specs.declared.End.TheVariants.{Over, Missing, LeftOver, Unreadable, Refused}

abbrev pub blank : List ℕ
blank = replicate line_length 0

-- before the first record
abbrev pub nothing_judged : Judge
nothing_judged =
    record {
      drive = power_up;
      onlooker = nothing_heard;
      differs = None;
      breaks = None;
      end = None;
    }

-- what a line shows, and all 0 where it is not good
abbrev pub shown_in : List ℕ → Shown
shown_in line = unwrap_or (shown_by line) (record { number = 0; state = 0; gate = 0; live = 0 })

-- the board's answer, as far as its line shows it to an onlooker
abbrev pub answer_of : Shown → Answer
answer_of line =
    record {
      number = line.number;
      place = 0;
      state = line.state;
      gate = line.gate;
      live = line.live;
      reference = pos 0;
      position = 0;
      angle = pos 0;
      offsets = record { first = 0; second = 0 };
      retries = 0;
      judged = None;
    }

-- the number of the record that comes next
abbrev pub number_of : Judge → ℕ
number_of j = up most j.onlooker.past.heard

-- demand 3 holds after the newest call
abbrev pub kept : Rules → Bool
kept rules = rules.gates && rules.exit && rules.retries

-- 02, M-105: "the report line gains a space and one letter .. before the line feed": without them, as an earlier board prints it; zeros
-- take their place
unfoldable pub shortened : List ℕ → List ℕ
shortened line = written fields_length (text "\n" ++ (0 ∷ 0 ∷ [])) line

-- the line that the supervisor's answer has, in the form of a line of so many bytes, and the board's, as far as a line is long
unfoldable pub line_for : ℕ → Answer → List ℕ
line_for size answer = cond (eqb size earlier_length) (shortened (lent_after answer blank)) (lent_after answer blank)

unfoldable pub line_kept : List ℕ → List ℕ
line_kept line = written 0 line blank

-- the first line that differs: this one only where none came before
unfoldable pub differs_now : Judge → List ℕ → List ℕ → Option Difference
differs_now j expected found =
    option_or j.differs
    (then_some (not (same_bytes expected found)) (record { number = number_of j; expected = expected; found = found }))

-- the first entry that breaks the demand: this one only where none came before
unfoldable pub breaks_now : Judge → Rules → Option Breach
breaks_now j rules = option_or j.breaks (then_some (not (kept rules)) (record { number = number_of j; rules = rules }))

-- A record that the supervisor answers so, with a line that can be read, heard with the board's own answer so.
unfoldable pub read_entry : Judge → Reply → Onlooker → Option End → List ℕ → Judge
read_entry j said heard end line =
    record {
      drive = said.drive;
      onlooker = heard;
      differs = differs_now j (line_for (length line) said.answer) (line_kept line);
      breaks = breaks_now j heard.rules;
      end = end;
    }

-- A line that is not good ends the judgement: what the board answered is not known, and without it nobody can follow the log.
abbrev pub unread_entry : Judge → Drive → List ℕ → Judge
unread_entry j drive line =
    record {
      drive = drive;
      onlooker = j.onlooker;
      differs = j.differs;
      breaks = j.breaks;
      end = Some (cond (eqb (length line) 0) Missing Unreadable);
    }

abbrev pub entry_with : Judge → Reply → Onlooker → Option End → List ℕ → Judge
entry_with j said heard end line = cond (is_good line) (read_entry j said heard end line) (unread_entry j said.drive line)

-- a call, with the line that the board printed
abbrev pub judge_call : Judge → Call → List ℕ → Judge
judge_call j call line =
    entry_with j (reply j.drive call) (hears j.onlooker (record { call = call; answer = answer_of (shown_in line) })) None line

-- what is no record makes no call, and the onlooker does not hear of it: "a line with number 6 shows the unchanged state and ends the run"
abbrev pub judge_refusal : Judge → List ℕ → Judge
judge_refusal j line = entry_with j (shown 6 0 j.drive) j.onlooker (Some Refused) line

-- the records are over; so are the lines, or some are left
abbrev pub ended_by : Judge → List ℕ → Judge
ended_by j line =
    record {
      drive = j.drive;
      onlooker = j.onlooker;
      differs = j.differs;
      breaks = j.breaks;
      end = Some (cond (eqb (length line) 0) Over LeftOver);
    }
