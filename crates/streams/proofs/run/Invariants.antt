-- `run` keeps the whole answer in sight: the lines written so far, and then the run over what is left, are the run over everything.
use Rattle.std.proofs.Common.{◌-◌, length}
use Rattle.streams.proofs.LoopOfRun.{Ongoing}
use Rattle.streams.proofs.run.Given as goal

abbrev pub invariant-loop-ran : goal.invariant-loop-ran
invariant-loop-ran g l =
    Ongoing g.P.Records.program l.input l.closed l.fn.output l.fn.state l.output l.ran.taken l.ran.written l.ran.state

abbrev pub decreases-loop-ran : goal.decreases-loop-ran
decreases-loop-ran g l = length l.input - l.ran.taken
