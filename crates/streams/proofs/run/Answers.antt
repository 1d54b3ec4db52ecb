-- A turn of the loop is one step, and what it comes to is what the definition's run says of it: the last turn's answer is the run's.
use Rattle.std.proofs.Common.{arith}
use Rattle.streams.proofs.LoopOfRun.{at_start, stepped}
use Rattle.streams.proofs.run.Goals as goal

pub loop-ran-init : goal.loop-ran-init
loop-ran-init g c = rw c.resting-ran.ensures (at_start g.P.Records.program _ _ _ _)

-- what is taken and what is written are within the buffers, whose lengths a usize holds
pub overflow_add-ran : goal.overflow_add-ran
overflow_add-ran g c =
    let after = stepped c.step-one.ensures.lawful c.loop-ran.invariant c.step-one.ensures.result c.step-one.ensures.lent in
    omega (arith, after.taken_within)

pub returns-then-one-eq0 : goal.returns-then-one-eq0
returns-then-one-eq0 g c =
    let after = stepped c.step-one.ensures.lawful c.loop-ran.invariant c.step-one.ensures.result c.step-one.ensures.lent in
    let last = c.if-one-eq0.true in
    record {
      result = after.answer last;
      lent = after.leaves last;
      within = (after.taken_within, after.filled_within);
    }

pub loop-ran-smaller : goal.loop-ran-smaller
loop-ran-smaller g c =
    let after = stepped c.step-one.ensures.lawful c.loop-ran.invariant c.step-one.ensures.result c.step-one.ensures.lent in
    omega (arith, after.taken_within, c.if-one-eq0.false)

pub loop-ran-preserved : goal.loop-ran-preserved
loop-ran-preserved g c =
    let after = stepped c.step-one.ensures.lawful c.loop-ran.invariant c.step-one.ensures.result c.step-one.ensures.lent in
    after.again c.if-one-eq0.false
