-- What a caller of the writer is told and handed back, of any blocks and any lent bytes; and that what was written is read back by the
-- reader's own replies.
use Prim.Native.Nat.{ℕ, zero, suc, ◌+◌, ◌≤◌, ◌<◌}
use native.Mathlib.Omega.{arith}
use mathlib.Core.Bool.{Bool, true, false, cond}
use mathlib.Core.Path.{◌≡◌, refl}
use mathlib.Core.List.{List, [], ◌∷◌, ◌++◌}
use lib.Dec.{ltb}
use lib.ListN.{length, get_or, take, drop}
use lib.Seq.{take_at, drop_at}
use borrow.Author.Tests.{ne_eqb, lt-ltb, le-ltb}
use Rattle.verdicts.specs.Table.{Row, row, verdict}
use Rattle.images.specs.Image.{fifteen, body_of}
use Rattle.images.specs.Reads.{number_of, found, part}
use Rattle.images.specs.Writes.{Block, Handed, no_block, stored_in, other_length, length_rows, image_in, write_rows, is_written, written}
use Rattle.images.specs.Writes.{lent_after}
use Rattle.images.proofs.Rows.{EachAllowed}
use Rattle.images.proofs.Inverse.{reader_returns}
use Rattle.images.proofs.Made.{allowed_blocks}

-- the rows before a block that are passed
first_of : (place : ℕ) (blocks : List Block) (later : List Row) (k : ℕ)
    → k < length blocks
    → ((i : ℕ) → i < k → other_length (get_or blocks i no_block) ≡ false)
    → other_length (get_or blocks k no_block) ≡ true
    → verdict (length_rows place blocks later) ≡ record { number = 2; place = place + k }
unfolding length_rows
first_of place [] later k inside before bad = absurd (omega arith)
first_of place (b ∷ blocks) later zero inside before bad =
    let same : place + 0 ≡ place = omega arith in rw (bad, same)
first_of place (b ∷ blocks) later (suc k) inside before bad =
    let next : place + 1 + k ≡ place + suc k = omega arith in
    rw (before 0 (omega arith), ← next)
    (first_of (place + 1) blocks later k (omega arith) (λ i below. before (suc i) (omega arith)) bad)

-- where each block is allowed, the verdict is that of the later rows
all_passed_by : (place : ℕ) (blocks : List Block) (later : List Row) → EachAllowed blocks
    → verdict (length_rows place blocks later) ≡ verdict later
unfolding length_rows
all_passed_by place [] later each = refl
all_passed_by place (b ∷ blocks) later each =
    rw (each 0 (omega arith)) (all_passed_by (place + 1) blocks later (λ k inside. each (suc k) (omega arith)))

returned : (blocks : List Block) (lent : ℕ) → Handed blocks → (written blocks lent).number ≡ 0
    → (k : ℕ) → k < 15
    → ((found fifteen (image_in blocks) k).number ≡ number_of (stored_in blocks k))
    × (part fifteen (image_in blocks) k ≡ body_of (stored_in blocks k))
unfolding written image_in
returned blocks lent handed none k below = reader_returns fifteen (stored_in blocks) (allowed_blocks blocks lent handed none) k below

module _ (blocks : List Block) (lent : List ℕ) where
  -- "a body of another length is 2 at block + 1": the first such block, however many bytes are lent
  pub first_bad : (k : ℕ) → k < length blocks
      → ((i : ℕ) → i < k → other_length (get_or blocks i no_block) ≡ false)
      → other_length (get_or blocks k no_block) ≡ true
      → written blocks (length lent) ≡ record { number = 2; place = k + 1; size = 0 }
  unfolding written write_rows
  first_bad k inside before bad =
      let place : 1 + k ≡ k + 1 = omega arith in rw (first_of 1 blocks _ k inside before bad, place)

  -- "then too few lent bytes is 5"
  pub too_few : EachAllowed blocks → length lent < length (image_in blocks)
      → written blocks (length lent) ≡ record { number = 5; place = 0; size = 0 }
  unfolding written write_rows
  too_few each few = rw (all_passed_by 1 blocks (row 5 0 (ltb (length lent) (length (image_in blocks))) ∷ []) each, lt-ltb _ _ few)

  pub accepts : EachAllowed blocks → length (image_in blocks) ≤ length lent
      → written blocks (length lent) ≡ record { number = 0; place = 0; size = length (image_in blocks) }
  unfolding written write_rows
  accepts each room = rw (all_passed_by 1 blocks (row 5 0 (ltb (length lent) (length (image_in blocks))) ∷ []) each, le-ltb _ _ room)

  -- refused, every lent byte stands
  pub refused_writing : ((written blocks (length lent)).number ≡ 0 → ⊥) → lent_after blocks lent ≡ lent
  unfolding written lent_after
  refused_writing given = rw (ne_eqb (verdict (write_rows blocks (length lent))).number 0 given)

  -- accepted, the bytes after the image stand
  pub behind_the_image : drop (written blocks (length lent)).size (lent_after blocks lent)
      ≡ drop (written blocks (length lent)).size lent
  unfolding written lent_after
  behind_the_image = by (is_written blocks (length lent))
    where
      by : (t : Bool)
          → drop (cond t (length (image_in blocks)) 0) (cond t (image_in blocks ++ drop (length (image_in blocks)) lent) lent)
          ≡ drop (cond t (length (image_in blocks)) 0) lent
      by true = drop_at (image_in blocks) (drop (length (image_in blocks)) lent) (length (image_in blocks)) refl
      by false = refl

  -- the image is the first `size` of the lent bytes
  pub image_written : (written blocks (length lent)).number ≡ 0
      → take (written blocks (length lent)).size (lent_after blocks lent) ≡ image_in blocks
  unfolding written lent_after
  image_written none = rw none (take_at (image_in blocks) (drop (length (image_in blocks)) lent) (length (image_in blocks)) refl)

  -- "Writing then reading returns each block": the reader, handed these bytes, gives back what was handed to the writer
  pub wrote_then_read :
      Handed blocks
      → (written blocks (length lent)).number ≡ 0
      → (k : ℕ) → k < 15
      → let image : List ℕ = take (written blocks (length lent)).size (lent_after blocks lent) in
      ((found fifteen image k).number ≡ number_of (stored_in blocks k)) × (part fifteen image k ≡ body_of (stored_in blocks k))
  wrote_then_read handed none k below =
      rw (image_written none) (returned blocks (length lent) handed none k below)
