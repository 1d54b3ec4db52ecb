-- Document 02, M-102, "Fifteen parameter blocks": what an image is, told from its blocks. The request's own words:
--
--   "First come 15 entries of kind (0 empty, 1 filled; one byte), then offset and length in bytes, two bytes each, high first. The bodies
--   follow in block order without gaps: 24 or 25 numbers, high byte first. An empty entry is all zeros, offsets count from the image's
--   first byte, and nothing else follows. An image that breaks any of this is malformed."
--
-- Everything here and in Table.antt, and all that is proved of it, is said of any form of image: of any number of blocks, and of whatever
-- bytes stand before the entries.
use Rattle.std.specs.Prelude.{ℕ, zero, suc, ◌+◌, ◌*◌, ◌<◌, Bool, true, ◌||◌, List, [], ◌∷◌, ◌++◌, T, eqb, length}
use Rattle.numbers.specs.Bytes.{word, words}

-- a form of image: what stands before the entries, and how many blocks there are
pub record Form : Type 0 where
  pub head : List ℕ
  pub blocks : ℕ

-- how many bytes stand before the entries
abbrev pub front : Form → ℕ
front form = length form.head

-- "First come 15 entries"
abbrev pub fifteen : Form
fifteen = record { head = []; blocks = 15 }

-- what a block holds: nothing, or these numbers
pub data Stored : Type 0 where
  empty : Stored
  filled : List ℕ → Stored

-- "24 or 25 numbers"
abbrev pub length_allowed : ℕ → Bool
length_allowed count = eqb count 24 || eqb count 25

-- a block that an image can hold
abbrev pub allowed : Stored → Bool
allowed empty = true
allowed (filled numbers) = length_allowed (length numbers)

-- the blocks of an image by their numbers, from 0; those from the form's number of blocks on do not count
abbrev pub Blocks : Type 0
Blocks = ℕ → Stored

abbrev pub Allowed : Form → Blocks → Type 0
Allowed form blocks = (k : ℕ) → k < form.blocks → T (allowed (blocks k))

-- the body of a block: its numbers, "high byte first"
abbrev pub body_of : Stored → List ℕ
body_of empty = []
body_of (filled numbers) = words numbers

-- the first k pieces, one after the other
unfoldable pub pieces : (ℕ → List ℕ) → ℕ → List ℕ
pieces piece zero = []
pieces piece (suc k) = pieces piece k ++ piece k

-- "The bodies follow in block order without gaps": those of the first k blocks
abbrev pub bodies : Blocks → ℕ → List ℕ
bodies blocks = pieces (λ (k : ℕ). body_of (blocks k))

-- an entry has five bytes: where entry k begins, behind so many bytes, and where the k entries before it end
abbrev pub entry_at : ℕ → ℕ → ℕ
entry_at before k = before + 5 * k

-- where the body of block k begins: behind the entries and the bodies before it; "offsets count from the image's first byte"
abbrev pub start_of : Form → Blocks → ℕ → ℕ
start_of form blocks k = entry_at (front form) form.blocks + length (bodies blocks k)

-- "kind (0 empty, 1 filled; one byte), then offset and length in bytes, two bytes each, high first"; "An empty entry is all zeros"
abbrev pub entry_of : Stored → ℕ → List ℕ
entry_of empty start = 0 ∷ 0 ∷ 0 ∷ 0 ∷ 0 ∷ []
entry_of (filled numbers) start = 1 ∷ word start ++ word (length (words numbers))

-- the entries of the first k blocks
abbrev pub entries : Form → Blocks → ℕ → List ℕ
entries form blocks = pieces (λ (k : ℕ). entry_of (blocks k) (start_of form blocks k))

-- the image that these blocks have: what the form begins with, the entries, the bodies, "and nothing else follows"
unfoldable pub image_of : Form → Blocks → List ℕ
image_of form blocks = form.head ++ (entries form blocks form.blocks ++ bodies blocks form.blocks)
