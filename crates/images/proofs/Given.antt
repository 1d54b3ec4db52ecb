-- How many bytes the entries and bodies of the blocks have that the writer is handed.
use Prim.Native.Nat.{ℕ, zero, suc, ◌+◌, ◌*◌, ◌≤◌}
use native.Mathlib.Numerals.{add-one}
use native.Mathlib.Omega.{arith}
use mathlib.Core.Path.{◌≡◌, refl}
use mathlib.Core.List.{List}
use lib.ListN.{length, get_or, take, length-append}
use lib.Seq.{take_all}
use Rattle.std.specs.Prelude.{sum_by}
use Rattle.std.proofs.lemmas.List.Sums.{sum_by_more, sum-map}
use Rattle.numbers.proofs.Bytes.{length-words}
use Rattle.images.specs.Image.{fifteen, pieces, body_of, bodies}
use Rattle.images.specs.Writes.{Block, no_block, stored_of, stored_in, image_in}
use Rattle.images.proofs.Lengths.{length-image}

-- of one block
abbrev pub size : Block → ℕ
size block = 5 + length (body_of (stored_of block))

-- of the first k
sizes : (blocks : List Block) (k : ℕ) → k ≤ length blocks
    → 5 * k + length (bodies (stored_in blocks) k) ≡ sum_by size (take k blocks)
unfolding pieces
sizes blocks zero inside = refl
sizes blocks (suc k) inside =
    let more : sum_by size (take (suc k) blocks) ≡ sum_by size (take k blocks) + size (get_or blocks k no_block) =
    rw add-one at (sum_by_more size blocks k no_block inside) in
    rw (length-append, more) (omega (arith, sizes blocks k (omega arith)))

pub length-image_in : (blocks : List Block) → length blocks ≡ 15 → length (image_in blocks) ≡ sum_by size blocks
unfolding image_in
length-image_in blocks all =
    let whole = take_all 15 blocks (omega arith) in
    rw (length-image fifteen (stored_in blocks)) (rw whole at (sizes blocks 15 (omega arith)))

pub ruleset doubled = (length-words)

pub ruleset summed = (sum-map, length-image_in)
