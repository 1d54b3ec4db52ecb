-- Before the first read nothing is held; each read is one more.
use Rattle.std.proofs.Common.{arith, rules}
use Rattle.pieces.specs.Turn.{none, more}
use Rattle.pieces.proofs.serving.serve_runnable.Goals as goal

pub loop-reads-init : goal.loop-reads-init
loop-reads-init g c = (omega arith, none)

pub loop-reads-preserved : goal.loop-reads-preserved
loop-reads-preserved g c =
    (search rules, more c.loop-reads.invariant.1 (search rules) (rw (← c.loop-reads.auto.output) c.read_on-held.ensures.rest))
