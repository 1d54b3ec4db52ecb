-- `put_body` has put the bytes of the first numbers at the head of its loop.
use Rattle.std.proofs.Common.{take}
use Rattle.numbers.specs.Bytes.{words}
use Rattle.text.proofs.Chains.{Puts}
use Rattle.images.proofs.writer.put_body.Given as goal

abbrev pub invariant-loop-number : goal.invariant-loop-number
invariant-loop-number l = Puts l.at (words (take l.number-index l.number-items)) l.fn.lent l.next l.lent
