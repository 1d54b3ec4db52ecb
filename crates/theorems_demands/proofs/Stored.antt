-- The numbers that the onlooker reads off an image by a block's entry are those that the drive loads: of a block that is found.
use Prim.Native.Nat.{ℕ, zero, suc, ◌+◌, ◌*◌, ◌/◌}
use mathlib.Core.Path.{◌≡◌, refl, sym, ap, ◌∙◌}
use mathlib.Core.List.{List}
use native.Mathlib.Nat.{add-zero}
use native.Mathlib.Omega.{arith}
use lib.Dec.{eqb, eqb→eq}
use lib.ListN.{length, take, drop}
use Rattle.numbers.specs.Bytes.{number, numbers}
use Rattle.numbers.proofs.Bytes.{numbers_drop, numbers_take}
use Rattle.numbers.proofs.Tests.{or_cases}
use Rattle.verdicts.specs.Table.{verdict}
use Rattle.images.specs.Image.{fifteen}
use Rattle.images.specs.Table.{start_at, size_at}
use Rattle.images.specs.Reads.{read_rows, found_of, part}
use Rattle.images.proofs.Search.{Located, located, length_part}
use Rattle.drive.specs.Blocks.{block_numbers}
use Rattle.onlooker.specs.Words.{two_bytes, numbers_from, stored}

same_two : (image : List ℕ) (at : ℕ) → two_bytes image at ≡ number at image
same_two image at = omega arith

same_numbers : (image : List ℕ) (at count : ℕ) → numbers_from image at count ≡ numbers count at image
unfolding numbers_from numbers
same_numbers image at zero = refl
same_numbers image at (suc count) = rw (same_two image at, same_numbers image (at + 2) count)

-- so many numbers of the part that begins there
of_part : (image : List ℕ) (start count : ℕ) → numbers count 0 (take (2 * count) (drop start image)) ≡ numbers count start image
of_part image start count =
    numbers_take count 0 (2 * count) (drop start image) (omega arith)
    ∙ sym (numbers_drop count 0 start image)
    ∙ ap (λ (at : ℕ). numbers count at image) (add-zero start)

module _ (image : List ℕ) (block : ℕ) where
  size_there : two_bytes image (5 * block + 3) ≡ size_at 0 image block
  size_there = same_two image (5 * block + 3) ∙ ap (λ (at : ℕ). number at image) (omega arith)

  start_there : two_bytes image (5 * block + 1) ≡ start_at 0 image block
  start_there = same_two image (5 * block + 1) ∙ ap (λ (at : ℕ). number at image) (omega arith)

  -- by the length that the entry tells
  stored_24 : size_at 0 image block ≡ 48 → stored image block ≡ numbers_from image (two_bytes image (5 * block + 1)) 24
  unfolding stored
  stored_24 is = rw (size_there, is)

  stored_25 : size_at 0 image block ≡ 50 → stored image block ≡ numbers_from image (two_bytes image (5 * block + 1)) 25
  unfolding stored
  stored_25 is = rw (size_there, is)

  loaded_are : (count : ℕ) → size_at 0 image block ≡ 2 * count → Located fifteen image block
      → numbers_from image (two_bytes image (5 * block + 1)) count ≡ block_numbers image block
  loaded_are count is at =
      let half : length (part fifteen image block) / 2 ≡ count = omega (arith, length_part fifteen image block at) in
      let start = start_at 0 image block in
      rw (half, at.start, at.size, is, start_there) (same_numbers image start count ∙ sym (of_part image start count))

  pub stored_is : (verdict (read_rows fifteen image block)).number ≡ 0 → stored image block ≡ block_numbers image block
  unfolding found_of
  stored_is none =
      let at = located fifteen image block none in
      or_cases (eqb (size_at 0 image block) 48) (eqb (size_at 0 image block) 50) (rw at.two tt)
      (λ e. let is = eqb→eq (size_at 0 image block) 48 e in stored_24 is ∙ loaded_are 24 is at)
      (λ e. let is = eqb→eq (size_at 0 image block) 50 e in stored_25 is ∙ loaded_are 25 is at)
