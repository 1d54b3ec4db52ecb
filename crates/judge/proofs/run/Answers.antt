-- A turn that wants no other ends the run, and so does the last for which there is fuel; any other is the next of it.
use Rattle.std.proofs.Common.{suc, ◌+◌, ◌-◌, ◌≡◌, length, ◌∙◌, arith}
use Rattle.judge.specs.Run.{runs}
use Rattle.judge.proofs.Runs.{stops, goes}
use Rattle.judge.proofs.run.Goals as goal

pub returns-then-ne-clause-result : goal.returns-then-ne-clause-result
returns-then-ne-clause-result c =
    let records = c.args.records in
    let lines = c.args.lines in
    let fuel = length records.bytes.now - c.loop.index in
    stops records.over records.bytes.now lines.over lines.bytes.now c.loop.ran c.onward.new.self c.onward.ensures.result
    c.ne.result c.ne.ensures fuel c.if-ne.true
    ∙ c.loop.invariant.to_come

pub loop-preserved : goal.loop-preserved
loop-preserved c =
    let records = c.args.records in
    let lines = c.args.lines in
    let fuel = length records.bytes.now - (c.loop.index + 1) in
    let left : suc fuel ≡ length records.bytes.now - c.loop.index = omega arith in
    let on = goes records.over records.bytes.now lines.over lines.bytes.now c.loop.ran c.onward.new.self c.onward.ensures.result
    c.ne.result c.ne.ensures fuel c.if-ne.false in
    record {
      to_come = rw left at on ∙ c.loop.invariant.to_come;
      taken = c.onward.ensures.within.0;
      lines = c.onward.ensures.within.1;
    }

pub returns-clause-result : goal.returns-clause-result
unfolding runs
returns-clause-result c =
    let left : length c.args.records.bytes.now - c.loop.index ≡ 0 = omega arith in
    c.onward-2.ensures.result ∙ rw left at c.loop.invariant.to_come
