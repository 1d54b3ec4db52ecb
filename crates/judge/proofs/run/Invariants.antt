-- `run` goes on from where it is: what is still to come of the run at the head of its loop is the whole of it.
use Rattle.std.proofs.Common.{◌≡◌, ◌-◌, ◌≤◌, length}
use Rattle.judge.specs.Run.{runs}
use Rattle.judge.proofs.run.Given as goal

abbrev pub invariant-loop : goal.invariant-loop
invariant-loop l =
    record {
      to_come : runs (length l.records.bytes.now - l.index) l.records.over l.records.bytes.now l.lines.over l.lines.bytes.now l.ran
          ≡ runs (length l.records.bytes.now) l.records.over l.records.bytes.now l.lines.over l.lines.bytes.now l.initial.ran;
      taken : l.ran.taken ≤ length l.records.bytes.now;
      lines : l.ran.lines ≤ length l.lines.bytes.now;
    }
