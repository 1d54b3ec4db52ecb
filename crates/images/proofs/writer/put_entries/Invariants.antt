-- `put_entries` has put the entries of the first blocks at the head of its loop, and knows where the next body begins.
use Rattle.std.proofs.Common.{◌≡◌, ◌+◌, ◌*◌, ◌≤◌}
use Rattle.text.proofs.Chains.{Puts}
use Rattle.images.specs.Image.{fifteen, start_of, entries}
use Rattle.images.specs.Writes.{stored_in}
use Rattle.images.proofs.writer.put_entries.Given as goal

abbrev pub invariant-loop-block : goal.invariant-loop-block
invariant-loop-block l =
    (l.start ≤ 75 + 50 * l.block-index) × (l.start ≡ start_of fifteen (stored_in l.blocks) l.block-index)
    × Puts 0 (entries fifteen (stored_in l.blocks) l.block-index) l.fn.lent l.at l.lent
