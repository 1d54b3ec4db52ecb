-- `put_bytes` has put the first bytes at the head of its loop.
use Rattle.std.proofs.Common.{take}
use Rattle.text.proofs.Chains.{Puts}
use Rattle.blocks.specs.Line.{fields}
use Rattle.blocks.proofs.line.put_bytes.Given as goal

abbrev pub invariant-loop-byte : goal.invariant-loop-byte
invariant-loop-byte l = Puts l.at (fields (take l.byte-index l.bytes)) l.fn.lent l.next l.lent
