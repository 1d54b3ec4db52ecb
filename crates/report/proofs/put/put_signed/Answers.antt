-- `put_signed` stores the sign, and after it the digits of the absolute value.
use Rattle.std.proofs.Common.{◌∙◌, to_z-of_z}
use native.Mathlib.Numerals.{add-one}
use Rattle.report.specs.Text.{signed}
use Rattle.report.proofs.put.put_signed.Goals as goal

pub returns-clause-lent : goal.returns-clause-lent
unfolding signed
returns-clause-lent c =
    c.put_digits.ensures.lent ∙ rw (c.absolute.ensures, c.sign.ensures, to_z-of_z c.ranges.number, add-one)
