-- `end_of` may stop at the first block of a bad kind.
use Rattle.std.proofs.Common.{arith}
use Rattle.blocks.proofs.Places.{stopped}
use Rattle.blocks.proofs.handed.end_of.Goals as goal

pub returns-then-byte_at-gt-FILLED : goal.returns-then-byte_at-gt-FILLED
returns-then-byte_at-gt-FILLED c =
    stopped _ c.args.bytes.now c.loop.counter c.loop.place (omega arith) c.loop.invariant.1 (omega (arith, c.byte_at.ensures))
