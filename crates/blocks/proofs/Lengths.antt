-- How long a line can be, whatever it shows.
use mathlib.Core.Path.{◌≡◌, refl, ◌∙◌}
use mathlib.Core.Bool.{Bool, true, false, cond}
use mathlib.Core.List.{List, ◌∷◌, ◌++◌}
use Prim.Native.Nat.{ℕ, ◌+◌, ◌*◌, ◌/◌, ◌≤◌}
use native.Mathlib.Omega.{arith}
use lib.ListN.{length, take, drop, replicate, length-append, length-take, length-drop, length-replicate}
use borrow.Author.Tests.{eqb-true}
use Rattle.numbers.proofs.Bytes.{length-numbers}
use lib.Seq.{take_at}
use Rattle.std.proofs.lemmas.List.{take-replicate}
use Rattle.text.proofs.Chains.{behind_front, written_front}
use Rattle.text.proofs.Decimals.{at_most_twenty}
use Rattle.verdicts.specs.Table.{verdict}
use Rattle.images.specs.Image.{fifteen}
use Rattle.images.specs.Table.{numbers_in}
use Rattle.images.specs.Reads.{read_rows, part, found}
use Rattle.images.specs.Writes.{Block, image_in, write_rows, is_written, written, lent_after}
use Rattle.images.proofs.Rows.{image_fits}
use Rattle.blocks.specs.Line.{line_of, reads_line, chooses_line, writes_line, refusal_line, line_room}
use Rattle.blocks.specs.Table.{most_bytes}
use Rattle.blocks.proofs.Fields.{length_fields}

length-line : (first : ℕ) (more : List ℕ) → length (line_of first more) ≤ 21 * (1 + length more)
length-line first more = simp length-append (omega (arith, at_most_twenty first, length_fields more))

-- the reader gives back no more bytes than the image has, and two of them make a number
pub reads_length : (block : ℕ) (image : List ℕ) → length (reads_line block image) ≤ 21 * (2 + length image)
unfolding reads_line
reads_length block image =
    let body = part fifteen image block in
    let more = numbers_in body in
    let start = (found fifteen image block).start in
    omega (
      arith,
      length-line (verdict (read_rows fifteen image block)).number ((verdict (read_rows fifteen image block)).place ∷ more),
      length-numbers (length body / 2) 0 body,
      length-take (found fifteen image block).size (drop start image),
      length-drop start image,
    )

pub chooses_length : (count : ℕ) → length (chooses_line count) ≤ 63
unfolding chooses_line
chooses_length count = length-line _ _

-- the writer leaves as many bytes as it was lent: an image that is written fits
pub length-lent : (blocks : List Block) (lent : List ℕ) → length (lent_after blocks lent) ≡ length lent
unfolding lent_after
length-lent blocks lent = by (is_written blocks (length lent)) refl
  where
    by : (t : Bool) → is_written blocks (length lent) ≡ t
        → length (cond t (image_in blocks ++ drop (length (image_in blocks)) lent) lent) ≡ length lent
    by true e =
        let fits = image_fits blocks (length lent) (eqb-true (verdict (write_rows blocks (length lent))).number 0 e) in
        simp (length-append, length-drop) (omega arith)
    by false e = refl

pub writes_length : (lent holds : ℕ) (blocks : List Block) → length (writes_line lent holds blocks) ≤ 21 * (3 + lent)
unfolding writes_line
writes_length lent holds blocks =
    omega (
      arith,
      length-line (written blocks lent).number
          ((written blocks lent).place ∷ (written blocks lent).size ∷ lent_after blocks (replicate lent holds)),
      length-lent blocks (replicate lent holds),
      length-replicate lent holds,
    )

pub refusal_fits : length refusal_line ≤ line_room
unfolding refusal_line
refusal_fits = omega arith

pub ruleset fronts = (behind_front, written_front, refusal_fits)

-- what the writer is lent, and what is shown of what it leaves: so many of the bytes that the code has
module _ (count holds : ℕ) (few : count ≤ most_bytes) where
  pub is_lent : take count (replicate most_bytes holds) ≡ replicate count holds
  is_lent = take-replicate count most_bytes holds few

  pub is_shown : (blocks : List Block) (rest : List ℕ)
      → take count (lent_after blocks (replicate count holds) ++ rest) ≡ lent_after blocks (replicate count holds)
  is_shown blocks rest =
      take_at (lent_after blocks (replicate count holds)) rest count
      (length-lent blocks (replicate count holds) ∙ length-replicate count holds)

pub ruleset lent = (is_lent, is_shown, length-replicate)
