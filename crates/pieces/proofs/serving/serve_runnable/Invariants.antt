-- `serve_runnable` reads only where its test has shown that there is to be a next read, and each read follows from the one before it.
use Rattle.std.proofs.Common.{length, true, ◌≤◌}
use Rattle.pieces.specs.Turn.{Served}
use Rattle.pieces.proofs.serving.serve_runnable.Given as goal

abbrev pub invariant-loop-reads : goal.invariant-loop-reads
invariant-loop-reads g l =
    (l.held.count ≤ length l.input)
    × Served g.P.Records.program (length l.fn.output) l.fn.input (record { state = l.fn.state; count = 0; going = true })
    l.reads l.input l.held
