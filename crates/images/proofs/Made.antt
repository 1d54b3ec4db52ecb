-- What the writer makes of the blocks that it is handed is read back as they are, and every well-formed image is one that it makes.
use Prim.Native.Nat.{ℕ, zero, suc, ◌+◌, ◌-◌, ◌/◌, ◌≤◌, ◌<◌}
use native.Mathlib.Omega.{arith}
use mathlib.Core.Bool.{Bool, true, false, not}
use Rattle.std.specs.Prelude.{None, Some}
use Rattle.std.specs.List.{range_with_len}
use Rattle.std.proofs.lemmas.Bool.{false≢true}
use Rattle.std.proofs.lemmas.List.FromFn.{length-map-range_with_len, get_or-map-range_with_len}
use mathlib.Core.Path.{◌≡◌, refl, sym, ap, ◌∙◌}
use mathlib.Core.List.{List, [], ◌∷◌, ◌++◌, map}
use lib.Dec.{T, eqb, eqb→eq}
use lib.Ieee.Bits.{is_true}
use lib.ListN.{length, get_or, take, drop, replicate, length-append, length-replicate}
use lib.Seq.{take_at, length-take-le}
use borrow.Author.Tests.{le-ltb}
use Rattle.numbers.specs.Bytes.{numbers}
use Rattle.numbers.proofs.Bytes.{Bytes, bytes_take, bytes_drop}
use Rattle.numbers.proofs.Tests.{by_test, or_cases}
use Rattle.verdicts.specs.Table.{verdict}
use Rattle.images.specs.Image.{fifteen, Stored, empty, filled, Blocks, Allowed, allowed, length_allowed}
use Rattle.images.specs.Table.{well_formed, is_filled, start_at, size_at, body_at, blocks_in}
use Rattle.images.specs.Writes.{Block, Fits, Handed, stored_of, no_block, stored_in, other_length, image_in, write_rows}
use Rattle.images.proofs.Rows.{all_passed, none_refused}
use Rattle.images.proofs.Inverse.{written_then_read, read_then_written, same_blocks_same_image}

-- a block of an allowed length holds that many numbers
held_allowed : (b : Block) → Fits b → other_length b ≡ false → T (allowed (stored_of b))
held_allowed None fits right = tt
held_allowed (Some f) fits right = by (length_allowed f.count) refl right
  where
    by : (l : Bool) → length_allowed f.count ≡ l → not l ≡ false → T (length_allowed (length (take f.count f.numbers)))
    by false is bad = absurd (false≢true (sym bad))
    by true is good =
        let few : f.count ≤ length f.numbers =
        or_cases (eqb f.count 24) (eqb f.count 25) (rw is tt)
        (λ e. omega (arith, eqb→eq f.count 24 e, fits.1)) (λ e. omega (arith, eqb→eq f.count 25 e, fits.1)) in
        rw (length-take-le f.count f.numbers few, is) tt

pub allowed_blocks : (blocks : List Block) (lent : ℕ) → Handed blocks → (verdict (write_rows blocks lent)).number ≡ 0
    → Allowed fifteen (stored_in blocks)
unfolding write_rows
allowed_blocks blocks lent handed none k below =
    let each = (all_passed 0 blocks _ none).0 in
    held_allowed (get_or blocks k no_block) (handed.each_fits k below) (each k (omega (arith, handed.fifteen_blocks)))

-- the image of an accepted writing is well-formed, and has the blocks that were handed over
pub accepted_is_read :
    (blocks : List Block) (lent : ℕ)
    → Handed blocks
    → (verdict (write_rows blocks lent)).number ≡ 0
    → (well_formed fifteen (image_in blocks) ≡ true)
    × ((k : ℕ) → k < 15 → blocks_in fifteen (image_in blocks) k ≡ stored_in blocks k)
unfolding image_in
accepted_is_read blocks lent handed none = written_then_read fifteen (stored_in blocks) (allowed_blocks blocks lent handed none)

-- ---- every well-formed image is made

-- a block that holds this
abbrev block_of : Stored → Block
block_of empty = None
block_of (filled list) = Some (record { count = length list; numbers = list ++ replicate (25 - length list) 0 })

few : (list : List ℕ) → T (length_allowed (length list)) → length list ≤ 25
few list right =
    or_cases (eqb (length list) 24) (eqb (length list) 25) right (λ e. omega (arith, eqb→eq (length list) 24 e))
    (λ e. omega (arith, eqb→eq (length list) 25 e))

block_holds : (s : Stored) → T (allowed s) → (stored_of (block_of s) ≡ s) × (other_length (block_of s) ≡ false)
block_holds empty right = (refl, refl)
block_holds (filled list) right = (
  ap filled (take_at list (replicate (25 - length list) 0) (length list) refl),
  rw (is_true (length_allowed (length list)) right),
)

-- ---- and its numbers are numbers of two bytes

abbrev NumbersFit : List ℕ → Type 0
NumbersFit list = (i : ℕ) → get_or list i 0 < 65536

numbers_fit : (count at : ℕ) (bytes : List ℕ) → Bytes bytes → NumbersFit (numbers count at bytes)
unfolding numbers
numbers_fit zero at bytes small i = omega arith
numbers_fit (suc count) at bytes small zero = omega (arith, small at, small (at + 1))
numbers_fit (suc count) at bytes small (suc i) = numbers_fit count (at + 2) bytes small i

zeros_fit : (n : ℕ) → NumbersFit (replicate n 0)
zeros_fit zero i = omega arith
zeros_fit (suc n) zero = omega arith
zeros_fit (suc n) (suc i) = zeros_fit n i

more_fit : (list : List ℕ) (n : ℕ) → NumbersFit list → NumbersFit (list ++ replicate n 0)
more_fit [] n fit i = zeros_fit n i
more_fit (x ∷ list) n fit zero = fit 0
more_fit (x ∷ list) n fit (suc i) = more_fit list n (λ j. fit (suc j)) i

abbrev FitIn : Stored → Type 0
FitIn empty = Unit {0}
FitIn (filled list) = NumbersFit list

read_fits : (image : List ℕ) → Bytes image → (k : ℕ) → FitIn (blocks_in fifteen image k)
unfolding blocks_in
read_fits image small k =
    let start = start_at 0 image k in
    by_test FitIn (is_filled 0 image k)
    (λ full.
    numbers_fit (length (body_at 0 image k) / 2) 0 (body_at 0 image k)
    (bytes_take (size_at 0 image k) (drop start image) (bytes_drop start image small)))
    (λ none. tt)

block_fits : (s : Stored) → T (allowed s) → FitIn s → Fits (block_of s)
block_fits empty right fit = tt
block_fits (filled list) right fit = (
  omega (arith, few list right),
  simp (length-append, length-replicate) (omega (arith, few list right)),
  more_fit list (25 - length list) fit,
)

module _ (image : List ℕ) (small : Bytes image) (formed : well_formed fifteen image ≡ true) where
  abbrev read : Blocks
  read = blocks_in fifteen image

  unfoldable blocks : List Block
  blocks = map (λ (k : ℕ). block_of (read k)) (range_with_len 0 15)

  fifteen_long : length blocks ≡ 15
  unfolding blocks
  fifteen_long = length-map-range_with_len (λ (k : ℕ). block_of (read k)) 0 15

  right : Allowed fifteen read
  right = (read_then_written fifteen image small formed).0

  block_at_lem : (k : ℕ) → k < 15 → get_or blocks k no_block ≡ block_of (read k)
  unfolding blocks
  block_at_lem k below = get_or-map-range_with_len (λ (i : ℕ). block_of (read i)) 0 15 k k no_block below (omega arith)

  image_is : image_in blocks ≡ image
  unfolding image_in
  image_is =
      same_blocks_same_image fifteen (stored_in blocks) read
      (λ k below. rw (block_at_lem k below) (block_holds (read k) (right k below)).0)
      ∙ sym (read_then_written fifteen image small formed).1

  accepted : (verdict (write_rows blocks (length image))).number ≡ 0
  unfolding write_rows
  accepted =
      none_refused 1 blocks _
      (λ k inside.
      let below : k < 15 = omega (arith, fifteen_long) in
      rw (block_at_lem k below) (block_holds (read k) (right k below)).1)
      (rw (image_is, le-ltb (length image) (length image) (omega arith)))

  pub made_by_the_writer :
      (given : List Block) × Handed given × (image_in given ≡ image) × ((verdict (write_rows given (length image))).number ≡ 0)
  made_by_the_writer = (
    blocks,
    record {
      fifteen_blocks = fifteen_long;
      each_fits = λ k below. rw (block_at_lem k below) (block_fits (read k) (right k below) (read_fits image small k));
    },
    image_is,
    accepted,
  )
