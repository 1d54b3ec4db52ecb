-- The page of the bench programs, "benchline: any call of the supervisors, whole answers": the program.
use Rattle.std.specs.Prelude.{ℕ}
use Rattle.drive.specs.AnyCall.{reply}
use Rattle.drive.specs.declared.Drive.{Drive}
use Rattle.streams.specs.Run.{Program}
use Rattle.bench.specs.Table.{Record, call_of, size_of, front}
use Rattle.bench.specs.Line.{motor_line, refusal_line, line_room}

-- "A program prints one line for each record, after it"; "A record whose letter is unknown, or that the input cuts short, or that a rule
-- below calls bad, prints the line `?` and ends the run"
abbrev pub benchline : Program Drive Record
benchline =
    record {
      front = front;
      size_of = size_of;
      next = λ (d : Drive) (r : Record). (reply d (call_of r)).drive;
      line = λ (d : Drive) (r : Record). motor_line (reply d (call_of r)).answer;
      refusal = λ (d : Drive). refusal_line;
      line_room = line_room;
    }

-- the buffers of the program: so many bytes of records, and so many of lines
abbrev pub input_size : ℕ
input_size = 4096

abbrev pub output_size : ℕ
output_size = 1048576

-- a part of a record: one byte less than the longest, B with the longest image
abbrev pub most_held : ℕ
most_held = 2051
