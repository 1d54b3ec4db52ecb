-- `read` completes a line of an earlier board, and takes any other as it is.
use borrow.Author.Tests.{ne_eqb}
use Rattle.lines.specs.Earlier.{of_today}
use Rattle.lines.proofs.read.Goals as goal

pub returns : goal.returns
unfolding of_today
returns c = rw (c.read_today-2.ensures, ne_eqb _ 45 c.if-line-eq-EARLIER_LENGTH.false)
