-- The page of the bench programs, "blockline: images": the program.
use Rattle.std.specs.Prelude.{ℕ, false, List}
use Rattle.streams.specs.Run.{Program, Outcome, lined}
use Rattle.blocks.specs.Table.{Record, size_of, front}
use Rattle.blocks.specs.Line.{line_for, refusal_line, line_room}

-- no record leaves anything to the next
abbrev pub State : Type 0
State = Unit {0}

-- "A program prints one line for each record, after it"; "A record whose letter is unknown, or that the input cuts short, or that a rule
-- below calls bad, prints the line `?` and ends the run"
abbrev pub blockline : Program State Record
blockline =
    record {
      front = front;
      size_of = size_of;
      next = λ (s : State) (r : Record). s;
      line = λ (s : State) (r : Record). line_for r;
      refusal = λ (s : State). refusal_line;
      line_room = line_room;
    }

-- a line for so many bytes
abbrev pub answered : List ℕ → ℕ → Outcome State
answered line taken = lined line tt taken false

-- the buffers of the program: so many bytes of records, and so many of lines
abbrev pub input_size : ℕ
input_size = 3072

abbrev pub output_size : ℕ
output_size = 4194304

-- a part of a record: one byte less than the longest, R with an image of 2048 bytes
abbrev pub most_held : ℕ
most_held = 2051
