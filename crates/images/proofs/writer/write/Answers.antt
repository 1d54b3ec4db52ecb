-- Refused, every lent byte stands.
use Rattle.std.proofs.Common.{sym}
use Rattle.images.proofs.Replies.{leaves_all}
use Rattle.images.proofs.writer.write.Goals as goal

pub returns-in_err-verdict-clause-lent : goal.returns-in_err-verdict-clause-lent
returns-in_err-verdict-clause-lent c =
    sym (leaves_all c.args.blocks c.args.lent.now _ (rw c.image_size-size.ensures at c.in_err-verdict.ensures))
