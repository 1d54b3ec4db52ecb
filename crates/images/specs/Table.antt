-- Document 02, M-102: the blocks that given bytes have, or that they are malformed. That this is the inverse of `image_of` (Image.antt) is
-- proved in proofs/Inverse.antt; that both are the paper's, of an image written out in bytes, in proofs/Examples.antt.
use Rattle.std.specs.Prelude.{ℕ, zero, suc, ◌+◌, ◌/◌, Bool, true, false, ◌&&◌, ◌||◌, cond, List, [], ◌∷◌, eqb, leb, length, take, drop}
use Rattle.numbers.specs.Bytes.{byte, number, numbers}
use Rattle.images.specs.Image.{Form, front, empty, filled, Blocks, entry_at}

-- "entries of kind (0 empty, 1 filled; one byte), then offset and length in bytes, two bytes each": the three of an entry that begins here
abbrev pub kind_at : List ℕ → ℕ → ℕ
kind_at image at = byte at image

abbrev pub offset_at : List ℕ → ℕ → ℕ
offset_at image at = number (at + 1) image

abbrev pub length_at : List ℕ → ℕ → ℕ
length_at image at = number (at + 3) image

-- an entry keeps its rule, where the bodies before it end at `end`: "An empty entry is all zeros"; a filled one has its body there,
-- "without gaps", of "24 or 25 numbers" of two bytes
unfoldable pub keeps : List ℕ → ℕ → ℕ → Bool
keeps image at end =
    cond (eqb (kind_at image at) 0)
    (eqb (offset_at image at) 0 && eqb (length_at image at) 0)
    (eqb (kind_at image at) 1 && (eqb (offset_at image at) end && (eqb (length_at image at) 48 || eqb (length_at image at) 50)))

-- the image begins with these bytes
abbrev pub begins : List ℕ → List ℕ → Bool
begins [] image = true
begins (b ∷ head) [] = false
begins (b ∷ head) (x ∷ image) = eqb b x && begins head image

-- an image whose entries stand behind so many bytes, and that has so many blocks
module _ (before blocks : ℕ) (image : List ℕ) where
  -- where the bodies of the first k blocks end: the first begins behind the entries
  unfoldable pub ends : ℕ → ℕ
  ends zero = entry_at before blocks
  ends (suc k) = ends k + length_at image (entry_at before k)

  -- the entries of the first k blocks keep their rule
  unfoldable pub kept : ℕ → Bool
  kept zero = true
  kept (suc k) = kept k && keeps image (entry_at before k) (ends k)

  -- it has all its entries, each keeps its rule, and where the last body ends the image ends: "and nothing else follows"
  unfoldable pub tabled : Bool
  tabled = leb (entry_at before blocks) (length image) && (kept blocks && eqb (ends blocks) (length image))

-- "An image that breaks any of this is malformed."
unfoldable pub well_formed : Form → List ℕ → Bool
well_formed form image = begins form.head image && tabled (front form) form.blocks image

-- of the entry of block k, behind so many bytes: it is filled; where the body begins, and how many bytes it has
module _ (before : ℕ) (image : List ℕ) (k : ℕ) where
  abbrev pub is_filled : Bool
  is_filled = eqb (kind_at image (entry_at before k)) 1

  abbrev pub start_at : ℕ
  start_at = offset_at image (entry_at before k)

  abbrev pub size_at : ℕ
  size_at = length_at image (entry_at before k)

  abbrev pub body_at : List ℕ
  body_at = take size_at (drop start_at image)

-- the numbers of a body: "high byte first"
abbrev pub numbers_in : List ℕ → List ℕ
numbers_in body = numbers (length body / 2) 0 body

-- the blocks that a well-formed image has
unfoldable pub blocks_in : Form → List ℕ → Blocks
blocks_in form image k = cond (is_filled (front form) image k) (filled (numbers_in (body_at (front form) image k))) empty
