-- `answering` writes the line of an answer that the line call accepts, and a line has one length.
use Rattle.std.proofs.Common.{◌∙◌}
use Rattle.report.proofs.Fields.{length-line}
use Rattle.records.proofs.answers.answering.Goals as goal

pub returns : goal.returns
returns c =
    record {
      result = rw (length-line c.args.reply.answer);
      lent = rw (length-line c.args.reply.answer) (c.line.ensures.lent ∙ rw c.requires);
    }
