-- Document 01, "Report line and program": the program `shiftline`. What a run over bytes comes to, and that it does not depend on how they
-- are cut, is said of any program of records (`streams`).
use Rattle.std.specs.Prelude.{ℕ, ◌-◌}
use Rattle.drive.specs.Answer.{reply as shown}
use Rattle.drive.specs.AnyCall.{Call, reply}
use Rattle.drive.specs.declared.Drive.{Drive}
use Rattle.report.specs.Refusals.{line_length}
use Rattle.report.specs.Line.{line}
use Rattle.streams.specs.Run.{Program}
use Rattle.records.specs.Front.{size_of, longest, front}

-- "One line per record, after it; a line with number 6 shows the unchanged state and ends the run."
abbrev pub shiftline : Program Drive Call
shiftline =
    record {
      front = front;
      size_of = size_of;
      next = λ (d : Drive) (r : Call). (reply d r).drive;
      line = λ (d : Drive) (r : Call). line (reply d r).answer;
      refusal = λ (d : Drive). line (shown 6 0 d).answer;
      line_room = line_length;
    }

-- the buffers of the program: so many bytes of records, and so many of lines
abbrev pub input_size : ℕ
input_size = 8192

abbrev pub output_size : ℕ
output_size = 65536

-- a part of a record: one byte less than the longest
abbrev pub most_held : ℕ
most_held = longest - 1
