-- `put_bodies` has put the bodies of the first blocks at the head of its loop.
use Rattle.std.proofs.Common.{◌≤◌, length}
use Rattle.text.proofs.Chains.{Puts}
use Rattle.images.specs.Image.{bodies}
use Rattle.images.specs.Writes.{stored_in}
use Rattle.images.proofs.writer.put_bodies.Given as goal

abbrev pub invariant-loop-block : goal.invariant-loop-block
invariant-loop-block l =
    (l.next ≤ length l.lent) × Puts l.at (bodies (stored_in l.blocks) l.block-index) l.fn.lent l.next l.lent
