-- `put_digits` stores its digits from the right: with those of `rest` stored in front of them, the ones made are the number's.
use native.Mathlib.Nat.{mod-lt}
use native.Mathlib.Omega.{arith}
use mathlib.Core.Path.{◌≡◌, ◌∙◌}
use lib.ListN.{length-set}
use borrow.Author.Rules.{rules}
use Rattle.report.specs.Text.{digits}
use Rattle.report.proofs.Runs.{sets_append}
use Rattle.report.proofs.Digits.{length_digits, one_made}
use Rattle.report.proofs.put.put_digits.Goals as goal

pub loop-i-preserved : goal.loop-i-preserved
loop-i-preserved c =
    let args = c.args in
    let turn = one_made c.loop-i.lent args.at args.base c.loop-i.rest c.loop-i.i (search rules) in
    (simp length-set c.loop-i.invariant.0, rw c.digit.ensures (turn ∙ c.loop-i.invariant.1))

-- after the loop no digit is to come
pub returns-clause-lent : goal.returns-clause-lent
unfolding digits
returns-clause-lent c =
    let none : c.loop-i.i ≡ 0 = omega arith in
    let made = rw none at c.loop-i.invariant.1 in
    rw (made, sets_append, length_digits c.args.base c.args.width c.args.number)

pub digit-requires : goal.digit-requires
digit-requires c = omega (arith, mod-lt c.loop-i.rest c.requires.base_nonzero.0)
