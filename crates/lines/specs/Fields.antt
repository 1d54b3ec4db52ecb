-- Document 01, "Report line and program", and 02, M-105: where each field stands in the line, and the answer that they show.
use Rattle.std.specs.Prelude.{ℕ, List, ℤ, get_or, take, drop}
use Rattle.drive.specs.declared.answer.Answer.{Answer}
use Rattle.lines.specs.Values.{value, signed_of, state_of, judged_of}

-- so many bytes from a place on
abbrev pub part : ℕ → ℕ → List ℕ → List ℕ
part at width bytes = take width (drop at bytes)

abbrev pub byte : ℕ → List ℕ → ℕ
byte at bytes = get_or bytes at 0

-- "sign and 5 digits"
abbrev pub signed_at : ℕ → ℕ → List ℕ → ℤ
signed_at sign digits bytes = signed_of (byte sign bytes) (value 10 (part digits 5 bytes))

-- "number, one hex digit; space; name of the state, .. twelve; space; gate; space; live word, 4 hex; space; speed reference, sign and
-- 5 digits; space; position, 8 hex; space; angle, sign and 5 digits; line feed"; 02, M-105: ".. a space and one letter .. before the line
-- feed". What no line shows is 0.
unfoldable pub answer_in : List ℕ → Answer
answer_in bytes =
    record {
      number = value 16 (part 0 1 bytes);
      place = 0;
      state = state_of (byte 2 bytes) (byte 3 bytes);
      gate = value 10 (part 15 1 bytes);
      live = value 16 (part 17 4 bytes);
      reference = signed_at 22 23 bytes;
      position = value 16 (part 29 8 bytes);
      angle = signed_at 38 39 bytes;
      offsets = record { first = 0; second = 0 };
      retries = 0;
      judged = judged_of (byte 45 bytes);
    }
