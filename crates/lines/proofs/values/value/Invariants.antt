-- `value` has at the head of its loop the value of the digits so far.
use Rattle.std.proofs.Common.{◌≡◌, take}
use Rattle.lines.specs.Values.{value}
use Rattle.lines.proofs.values.value.Given as goal

abbrev pub invariant-loop-byte : goal.invariant-loop-byte
invariant-loop-byte l = l.sum ≡ value l.base (take l.byte-index l.digits)
