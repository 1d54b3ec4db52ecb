-- `put_numbers` has put the first i numbers of the body at the head of its loop.
use Rattle.std.proofs.Common.{take}
use Rattle.text.proofs.Chains.{Puts}
use Rattle.images.specs.Table.{numbers_in}
use Rattle.blocks.specs.Line.{fields}
use Rattle.blocks.proofs.line.put_numbers.Given as goal

abbrev pub invariant-loop-i : goal.invariant-loop-i
invariant-loop-i l = Puts l.at (fields (take l.i (numbers_in l.body))) l.fn.lent l.next l.lent
