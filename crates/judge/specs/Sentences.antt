-- What the judge says: "it names the first line that differs from what the supervisor answers, and the first entry of the log that breaks
-- demand 3, or says that neither exists".
use Rattle.std.specs.Prelude.{ℕ, Bool, cond, Option, Some, None, List, [], ◌++◌}
use Rattle.text.specs.Text.{text}
use Rattle.text.specs.Decimal.{decimal, column}
use Rattle.judge.specs.NextLine.{line_of}
use Rattle.judge.specs.Judged.{number_of}
use Rattle.judge.specs.declared.Difference.{Difference}
use Rattle.judge.specs.declared.Breach.{Breach}
use Rattle.judge.specs.declared.End.{End}
use Rattle.judge.specs.declared.End.TheVariants.{Over, Missing, LeftOver, Unreadable, Refused}
use Rattle.judge.specs.declared.Judge.{Judge}

-- what is said of the lines: how many calls were judged, and whether one differs
abbrev pub calls_words : List ℕ
calls_words = text " calls judged\n"

abbrev pub same_words : List ℕ
same_words = text "no line of these differs from what the supervisor answers\n"

abbrev pub differs_words : List ℕ
differs_words = text "the line differs from what the supervisor answers\n  expected "

abbrev pub found_words : List ℕ
found_words = text "  found    "

-- of demand 3: "if the gates charge or drive, no live fault stands, and a start was taken since the last accepted load .."; "At every exit
-- from FAULT no live cause stood."; "The timed retries .. never exceed the loaded limit."
abbrev pub kept_words : List ℕ
kept_words = text "none of these breaks demand 3\n"

abbrev pub gates_words : List ℕ
gates_words = text "breaks demand 3, gates: they charge or drive, and a live fault stands or no permitted start was taken\n"

abbrev pub exit_words : List ℕ
exit_words = text "breaks demand 3, exit: FAULT was left with a live cause, without a trip, or neither by a clear nor by a timed retry\n"

abbrev pub retries_words : List ℕ
retries_words = text "breaks demand 3, retries: more timed retries than the loaded limit\n"

-- and of how it ended
abbrev pub missing_words : List ℕ
missing_words = text "has no line: the lines end before it\n"

abbrev pub left_over_words : List ℕ
left_over_words = text "is not there: the records end, and lines are left over\n"

abbrev pub unreadable_words : List ℕ
unreadable_words = text "has a line that cannot be read: nothing behind it is judged\n"

abbrev pub refused_words : List ℕ
refused_words = text "is unknown or cut short: the run ends there\n"

-- the record's number, in a column of five and two blanks
unfoldable pub placed : ℕ → List ℕ
placed number = text "record " ++ column 5 number ++ text "  "

-- a sentence about a record
unfoldable pub about : ℕ → List ℕ → List ℕ
about number words = placed number ++ words

-- how many calls were judged
unfoldable pub counting : ℕ → List ℕ
counting heard = decimal heard ++ calls_words

-- the first line that differs: both as far as their line feed, for an earlier board's are shorter
abbrev pub differing : Option Difference → List ℕ
differing None = same_words
differing (Some first) = about first.number differs_words ++ line_of first.expected ++ found_words ++ line_of first.found

-- a rule that does not hold
unfoldable pub broken : Bool → ℕ → List ℕ → List ℕ
broken holds number words = cond holds [] (about number words)

-- the first entry that breaks demand 3, with each rule that it breaks
abbrev pub breaking : Option Breach → List ℕ
breaking None = kept_words
breaking (Some first) =
    broken first.rules.gates first.number gates_words
    ++ broken first.rules.exit first.number exit_words
    ++ broken first.rules.retries first.number retries_words

-- how it ended
abbrev pub ending : Option End → ℕ → List ℕ
ending None number = []
ending (Some Over) number = []
ending (Some Missing) number = about number missing_words
ending (Some LeftOver) number = about number left_over_words
ending (Some Unreadable) number = about number unreadable_words
ending (Some Refused) number = about number refused_words

unfoldable pub said : Judge → List ℕ
said j =
    counting j.onlooker.past.heard
    ++ differing j.differs
    ++ breaking j.breaks
    ++ ending j.end (number_of j)

-- room for all that he can say
abbrev pub verdict_size : ℕ
verdict_size = 1024
