-- `put_digits` stores its digits from the right: with those of `rest` stored in front of them, the ones made are the number's.
use mathlib.Core.Path.{◌≡◌}
use lib.ListN.{length}
use lib.Seq.{sets}
use Rattle.report.specs.Text.{digits}
use Rattle.report.proofs.put.put_digits.Given as goal

abbrev pub invariant-loop-i : goal.invariant-loop-i
invariant-loop-i l =
    (length l.lent ≡ length l.initial.lent)
    × (sets l.lent l.at (digits l.base l.i l.rest) ≡ sets l.initial.lent l.at (digits l.base l.width l.number))
