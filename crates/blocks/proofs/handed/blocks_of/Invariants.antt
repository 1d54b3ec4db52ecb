-- `blocks_of` has the first blocks at the head of its loop, and knows where the next begins.
use Rattle.std.proofs.Common.{◌≡◌, ◌+◌, ◌*◌, ◌≤◌, length, map, take}
use Rattle.blocks.specs.Table.{place_of, handed, blocks_of}
use Rattle.blocks.proofs.handed.blocks_of.Given as goal

abbrev pub invariant-loop-block : goal.invariant-loop-block
invariant-loop-block l =
    (l.place ≤ 4 + 52 * l.block-index) × (l.place ≡ place_of l.bytes l.block-index)
    × (length l.block-items ≡ 15)
    × (take l.block-index l.block-items ≡ map handed (blocks_of l.bytes l.block-index))
