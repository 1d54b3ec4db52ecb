-- The page of the bench programs, "blockline: images": its table of records.
use Rattle.std.specs.Prelude.{Bool, false, ◌||◌, cond, ℕ, zero, suc, ◌+◌, ◌*◌, min}
use Rattle.std.specs.Prelude.{List, [], ◌∷◌, ◌++◌, map, eqb, ltb, length, take, drop, replicate}
use Rattle.std.specs.Prelude.{None, Some, Result, Ok, Err}
use Prim.Native.Char.{code}
use Rattle.images.specs.Writes.{Block}
use Rattle.numbers.specs.Bytes.{byte, number, numbers}
use Rattle.streams.specs.Run.{Front, end, unknown, short, whole}
use Rattle.blocks.specs.declared.find.Record.{Record as Read}
use Rattle.blocks.specs.declared.find.Call.{Call}
use Rattle.blocks.specs.declared.find.Call.TheVariants.{Reads, Chooses, Writes}
use Rattle.streams.specs.declared.Missing.{Missing}
use Rattle.streams.specs.declared.Missing.TheVariants.{End, Unknown, Short}

-- a block of W: its kind, its count, and the numbers of an array of 25
pub record Given : Type 0 where
  pub filled : Bool
  pub count : ℕ
  pub numbers : List ℕ

-- as the writer is handed it: "An empty block has its count and numbers too; they mean nothing"
abbrev pub handed : Given → Block
handed b = cond b.filled (Some (record { count = b.count; numbers = b.numbers })) None

-- the rows of the table: "R | block (1 byte), length .., so many bytes"; "A | count"; "W | how many bytes are lent .., what they hold (1
-- byte), then for each of the 15 .. blocks: .."
pub data Record : Type 0 where
  reads : ℕ → List ℕ → Record
  chooses : ℕ → Record
  writes : ℕ → ℕ → List Given → Record

-- "at most 2048, more is bad"
abbrev pub most_bytes : ℕ
most_bytes = 2048

-- of R the letter, the block and the length; of W the letter, how many bytes are lent and what they hold
abbrev pub head_size : ℕ
head_size = 4

-- the letter and the count
abbrev pub chooses_size : ℕ
chooses_size = 3

-- "the first 25 at most of so many numbers (a count of 200 is followed by 25)"
abbrev pub following : ℕ → ℕ
following count = min count 25

-- kind, count, and two bytes for each number that follows
abbrev pub block_size : ℕ → ℕ
block_size count = 2 + 2 * following count

unfoldable pub sizes_of : List Given → ℕ
sizes_of [] = 0
sizes_of (b ∷ blocks) = block_size b.count + sizes_of blocks

abbrev pub size_of : Record → ℕ
size_of (reads block image) = head_size + length image
size_of (chooses count) = chooses_size
size_of (writes lent holds blocks) = head_size + sizes_of blocks

-- the bytes of W: "for each of the 15 .. blocks: 0 empty or 1 filled (more is bad), count (1 byte), the first 25 at most of so many
-- numbers"
module _ (bytes : List ℕ) where
  -- where block k begins, from 0: behind the head and the blocks before it
  unfoldable pub place_of : ℕ → ℕ
  place_of zero = head_size
  place_of (suc k) = place_of k + block_size (byte (place_of k + 1) bytes)

  -- "more is bad": one of the first k blocks is of another kind
  unfoldable pub bad_kind : ℕ → Bool
  bad_kind zero = false
  bad_kind (suc k) = bad_kind k || ltb 1 (byte (place_of k) bytes)

  -- The block whose bytes begin at this place. The zeros behind fewer numbers than its array holds mean nothing.
  unfoldable pub block_at : ℕ → Given
  block_at place =
      let given : ℕ = following (byte (place + 1) bytes) in
      record {
        filled = eqb (byte place bytes) 1;
        count = byte (place + 1) bytes;
        numbers = numbers given (place + 2) bytes ++ drop given (replicate 25 0);
      }

  -- the first k blocks
  unfoldable pub blocks_of : ℕ → List Given
  blocks_of zero = []
  blocks_of (suc k) = blocks_of k ++ (block_at (place_of k) ∷ [])

  -- "R | block (1 byte), length (at most 2048, more is bad), so many bytes"
  unfoldable pub reads_front : Front Record
  reads_front =
      let size : ℕ = number 2 bytes in
      cond (ltb (length bytes) head_size) short
      (cond (ltb most_bytes size) unknown
      (cond (ltb (length bytes) (head_size + size)) short
      (whole (reads (byte 1 bytes) (take size (drop head_size bytes))))))

  -- "A | count"
  unfoldable pub chooses_front : Front Record
  chooses_front = cond (ltb (length bytes) chooses_size) short (whole (chooses (number 1 bytes)))

  -- "W | how many bytes are lent (at most 2048, more is bad), what they hold (1 byte)", and the blocks. A kind that is bad is so as soon as
  -- its byte is there: what has not come yet counts as 0.
  unfoldable pub writes_front : Front Record
  writes_front =
      cond (ltb (length bytes) head_size) short
      (cond (ltb most_bytes (number 1 bytes)) unknown
      (cond (bad_kind 15) unknown
      (cond (ltb (length bytes) (place_of 15)) short
      (whole (writes (number 1 bytes) (byte 3 bytes) (blocks_of 15))))))

  -- by its letter; a later request adds what it adds here
  unfoldable pub front : Front Record
  front =
      let letter : ℕ = byte 0 bytes in
      cond (eqb (length bytes) 0) end
      (cond (eqb letter (code "R")) reads_front
      (cond (eqb letter (code "A")) chooses_front
      (cond (eqb letter (code "W")) writes_front unknown)))

-- what the reader hands on: the call that a record asks for, an image by how many bytes the record has; or why there is none
abbrev pub asked : Record → Call
asked (reads block image) = Reads block
asked (chooses count) = Chooses count
asked (writes lent holds blocks) = Writes lent holds (map handed blocks)

abbrev pub found : Front Record → Result Read Missing
found end = Err End
found unknown = Err Unknown
found short = Err Short
found (whole r) = Ok (record { call = asked r; size = size_of r })
