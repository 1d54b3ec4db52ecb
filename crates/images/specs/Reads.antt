-- Document 02, M-102: the reader. "The reader gives back the part of the caller's image that holds the block; refused, an empty part."
use Rattle.std.specs.Prelude.{ℕ, ◌+◌, ◌-◌, Result, Ok, Err, Bool, not, cond, List, [], ◌∷◌, ◌≡◌, eqb, leb, take, drop}
use Rattle.std.specs.Borrow.{Bor}
use Rattle.std.specs.declared.ops.Range.{Range}
use Rattle.verdicts.specs.declared.Refusal.{Refusal}
use Rattle.verdicts.specs.Table.{Row, row, verdict}
use Rattle.images.specs.Image.{Form, front, Stored, empty, filled}
use Rattle.images.specs.Table.{well_formed, is_filled, start_at, size_at}
use Rattle.images.specs.Told.{told_by}

-- what the search for a block comes to: the number of its refusal or 0, and where in the image its body lies
pub record Found : Type 0 where
  pub number : ℕ
  pub start : ℕ
  pub size : ℕ

-- the entries stand behind so many bytes, and there are so many blocks; `formed` says that the image is well-formed
module _ (formed : Bool) (before blocks : ℕ) (image : List ℕ) (block : ℕ) where
  -- "Refusals: 7 image malformed, then 8 block above 14, then 9 block empty"; the places are 0
  abbrev pub rows_of : List Row
  rows_of = row 7 0 (not formed) ∷ row 8 0 (leb blocks block) ∷ row 9 0 (not (is_filled before image block)) ∷ []

  -- the part that holds the block: where in the image it begins, and how many bytes it has; "refused, an empty part"
  unfoldable pub found_of : Found
  found_of =
      let read : Bool = eqb (verdict rows_of).number 0 in
      record {
        number = (verdict rows_of).number;
        start = cond read (start_at before image block) 0;
        size = cond read (size_at before image block) 0;
      }

-- what the code's search tells: a part of the image, or a refusal
abbrev pub start_in : Result (Range ℕ) Refusal → ℕ
start_in (Ok place) = place.start
start_in (Err refusal) = 0

abbrev pub size_in : Result (Range ℕ) Refusal → ℕ
size_in (Ok place) = place.end - place.start
size_in (Err refusal) = 0

abbrev pub found_by : Result (Range ℕ) Refusal → Found
found_by r = record { number = (told_by r).number; start = start_in r; size = size_in r }

module _ (form : Form) (image : List ℕ) (block : ℕ) where
  abbrev pub read_rows : List Row
  read_rows = rows_of (well_formed form image) (front form) form.blocks image block

  abbrev pub found : Found
  found = found_of (well_formed form image) (front form) form.blocks image block

  -- the block is there
  abbrev pub is_read : Bool
  is_read = eqb found.number 0

  -- the bytes that the reader gives back
  abbrev pub part : List ℕ
  part = take found.size (drop found.start image)

-- the number that the reader gives to a block of a well-formed image
abbrev pub number_of : Stored → ℕ
number_of empty = 9
number_of (filled numbers) = 0

-- a part of lent bytes: so many of them from a place on. Which bytes they are, and that they lie in the caller's own memory, at this place
-- of it.
pub record Part (lent : Bor (List ℕ)) (start size : ℕ) (part : Bor (List ℕ)) : Type 0 where
  pub holds : part.now ≡ take size (drop start lent.now)
  pub memory : part.ref_ptr.0 ≡ lent.ref_ptr.0
  pub place : part.ref_ptr.1 ≡ lent.ref_ptr.1 + start

-- the part of a lent image that holds a block
abbrev pub HoldsBlock : Form → Bor (List ℕ) → ℕ → Bor (List ℕ) → Type 0
HoldsBlock form image block part = Part image (found form image.now block).start (found form image.now block).size part
