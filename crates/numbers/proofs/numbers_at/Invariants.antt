-- `numbers_at` has filled its array up to `i` with the numbers of the definition.
use Rattle.std.proofs.Common.{◌≡◌, min, replicate}
use Rattle.numbers.specs.Bytes.{numbers}
use Rattle.numbers.proofs.Fill.{filled}
use Rattle.numbers.proofs.numbers_at.Given as goal

abbrev pub invariant-loop-i : goal.invariant-loop-i
invariant-loop-i g l = l.numbers ≡ filled (replicate g.row.N l.blank) (numbers (min l.count g.row.N) l.first l.bytes) l.i
