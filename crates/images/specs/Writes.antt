-- Document 02, M-102: the writer, and what it is handed.
use Rattle.std.specs.Prelude.{ℕ, ◌+◌, ◌<◌, Bool, false, not, cond, ◌≡◌, List, [], ◌∷◌, ◌++◌, eqb, ltb, length, get_or, take, drop}
use Rattle.std.specs.Prelude.{Option, None, Some, Result}
use Rattle.verdicts.specs.declared.Refusal.{Refusal}
use Rattle.verdicts.specs.Table.{Row, row, verdict}
use Rattle.images.specs.Image.{fifteen, Stored, empty, filled, Blocks, length_allowed, image_of}
use Rattle.images.specs.declared.Filled.{Filled}
use Rattle.images.specs.Told.{told_by, value_of}

-- a block of the caller's: it is empty, or filled
abbrev pub Block : Type 0
Block = Option Filled

-- what it holds: of a filled one its first `count` numbers
abbrev pub stored_of : Block → Stored
stored_of None = empty
stored_of (Some f) = filled (take f.count f.numbers)

-- past the last block there is none
abbrev pub no_block : Block
no_block = None

abbrev pub stored_in : List Block → Blocks
stored_in blocks k = stored_of (get_or blocks k no_block)

-- what a caller can put into a filled block, as the code's type has it: a count of one byte and an array of 25 numbers of two
abbrev pub Fits : Block → Type 0
Fits None = Unit {0}
Fits (Some f) = (f.count < 256) × (length f.numbers ≡ 25) × ((i : ℕ) → get_or f.numbers i 0 < 65536)

-- and hand over: fifteen blocks
pub record Handed (blocks : List Block) : Type 0 where
  pub fifteen_blocks : length blocks ≡ 15
  pub each_fits : (k : ℕ) → k < 15 → Fits (get_or blocks k no_block)

-- "a body of another length": a filled block whose count is neither 24 nor 25
abbrev pub other_length : Block → Bool
other_length None = false
other_length (Some f) = not (length_allowed f.count)

-- "Writing: a body of another length is 2 at block + 1": the rows of these blocks, the first of them at this place, and then later ones
unfoldable pub length_rows : ℕ → List Block → List Row → List Row
length_rows place [] later = later
length_rows place (b ∷ blocks) later = row 2 place (other_length b) ∷ length_rows (place + 1) blocks later

-- the image that the blocks have
unfoldable pub image_in : List Block → List ℕ
image_in blocks = image_of fifteen (stored_in blocks)

-- ".., then too few lent bytes is 5"
unfoldable pub write_rows : List Block → ℕ → List Row
write_rows blocks lent = length_rows 1 blocks (row 5 0 (ltb lent (length (image_in blocks))) ∷ [])

abbrev pub is_written : List Block → ℕ → Bool
is_written blocks lent = eqb (verdict (write_rows blocks lent)).number 0

pub record Written : Type 0 where
  pub number : ℕ
  pub place : ℕ
  pub size : ℕ

-- number, place and the image's length, "a refused value is 0"
unfoldable pub written : List Block → ℕ → Written
written blocks lent =
    record {
      number = (verdict (write_rows blocks lent)).number;
      place = (verdict (write_rows blocks lent)).place;
      size = cond (is_written blocks lent) (length (image_in blocks)) 0;
    }

-- what the code's result tells
abbrev pub written_of : Result ℕ Refusal → Written
written_of r = record { number = (told_by r).number; place = (told_by r).place; size = value_of r }

-- the lent bytes: the image, and after it what they held; refused, every lent byte stands
unfoldable pub lent_after : List Block → List ℕ → List ℕ
lent_after blocks lent =
    cond (is_written blocks (length lent)) (image_in blocks ++ drop (length (image_in blocks)) lent) lent
