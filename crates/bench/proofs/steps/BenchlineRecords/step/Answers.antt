-- `step` answers a block load by the case of the definition that the reader's answer means; the search finds the other arms.
use Rattle.std.proofs.Common.{length}
use Rattle.bench.proofs.Laws.{lawful}
use Rattle.bench.proofs.Turns.{at_imaged}
use Rattle.bench.proofs.steps.BenchlineRecords.step.Goals as goal

pub returns-in-Ok-Imaged : goal.returns-in-Ok-Imaged
returns-in-Ok-Imaged c =
    let known = rw (c.in-Ok-Imaged.is, c.in-Ok-Imaged.field-0-is) at c.find.ensures in
    let is = at_imaged c.args.closed (length c.args.output.now) c.args.input.now c.args.drive c.if-output-lt-LINE_ROOM.false _ _ known in
    record {
      result = rw (is, ← c.imaged.ensures, ← c.imaged_size.ensures) c.answering-in-Ok-Imaged.ensures.result;
      lent = rw (is, ← c.imaged.ensures) c.answering-in-Ok-Imaged.ensures.lent;
      lawful = lawful;
    }
