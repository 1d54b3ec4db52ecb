-- The page of the bench programs, "blockline: images": its lines.
use Rattle.std.specs.Prelude.{ℕ, ◌+◌, ◌*◌, List, [], ◌∷◌, ◌++◌, map, replicate, Option, None, Some}
use Rattle.text.specs.Text.{text}
use Rattle.text.specs.Decimal.{decimal}
use Rattle.verdicts.specs.declared.Refusal.{Refusal}
use Rattle.verdicts.specs.Table.{Verdict, accepted, verdict, number_of, place_of}
use Rattle.images.specs.Image.{fifteen}
use Rattle.images.specs.Table.{numbers_in}
use Rattle.images.specs.Reads.{read_rows, part}
use Rattle.images.specs.Choice.{choice}
use Rattle.images.specs.Writes.{Block, written, lent_after}
use Rattle.streams.specs.Run.{Front, end, unknown, short, whole}
use Rattle.blocks.specs.Table.{handed, Record, reads, chooses, writes, most_bytes}

-- "decimal numbers .., separated by single spaces"
abbrev pub field : ℕ → List ℕ
field n = text " " ++ decimal n

unfoldable pub fields : List ℕ → List ℕ
fields [] = []
fields (n ∷ more) = field n ++ fields more

-- ".., ended by a line feed"
abbrev pub line_of : ℕ → List ℕ → List ℕ
line_of first more = decimal first ++ fields more ++ text "\n"

-- the number and the place that a line begins with
abbrev pub told : Option Refusal → Verdict
told None = accepted
told (Some refusal) = record { number = number_of refusal; place = place_of refusal }

-- "number, place, then the numbers of the body that the reader gave back"
unfoldable pub reads_line : ℕ → List ℕ → List ℕ
reads_line block image =
    line_of (verdict (read_rows fifteen image block)).number
    ((verdict (read_rows fifteen image block)).place ∷ numbers_in (part fifteen image block))

-- "number, place, block"
unfoldable pub chooses_line : ℕ → List ℕ
chooses_line count =
    line_of (choice fifteen count).number ((choice fifteen count).place ∷ (choice fifteen count).block ∷ [])

-- "number, place, length of the image, then every lent byte": as the writer leaves it
unfoldable pub writes_line : ℕ → ℕ → List Block → List ℕ
writes_line lent holds blocks =
    line_of (written blocks lent).number
    ((written blocks lent).place ∷ (written blocks lent).size ∷ lent_after blocks (replicate lent holds))

abbrev pub line_for : Record → List ℕ
line_for (reads block image) = reads_line block image
line_for (chooses count) = chooses_line count
line_for (writes lent holds blocks) = writes_line lent holds (map handed blocks)

-- the line of what stands at the front of bytes, if that is a record
abbrev pub line_at : Front Record → List ℕ
line_at end = []
line_at unknown = []
line_at short = []
line_at (whole r) = line_for r

-- "prints the line `?`"
unfoldable pub refusal_line : List ℕ
refusal_line = text "?\n"

-- Room for any line: three numbers and every lent byte, of twenty digits at most, and a byte after each. Bytes are far shorter; this bound
-- asks nothing of them.
abbrev pub line_room : ℕ
line_room = 21 * (3 + most_bytes)
