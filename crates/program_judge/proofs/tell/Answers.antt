-- `tell` writes no more than the verdict filled of its bytes.
use native.Mathlib.Omega.{arith}
use mathlib.Core.Path.{sym}
use lib.Seq.{length-take-le}
use Rattle.program_judge.proofs.tell.Goals as goal

pub slice_bounds-output-end : goal.slice_bounds-output-end
slice_bounds-output-end g c = omega (arith, c.put_verdict-said.ensures.within, c.put_verdict-said.auto.output)

pub slice_bounds-write_out-end : goal.slice_bounds-write_out-end
slice_bounds-write_out-end g c =
    sym (length-take-le _ _ (omega (arith, c.put_verdict-said.ensures.within, c.put_verdict-said.auto.output)))
