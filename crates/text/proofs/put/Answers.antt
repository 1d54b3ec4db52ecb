-- What fits is what is written.
use Rattle.std.proofs.Common.{◌≡◌, ◌+◌, ◌-◌, ◌≤◌, length, arith}
use lib.Seq.{drop-drop}
use Rattle.text.specs.Put.{behind}
use Rattle.text.proofs.Chains.{written_past, written_clipped}
use Rattle.text.proofs.put.Goals as goal

pub returns-then-lent-at : goal.returns-then-lent-at
unfolding behind
returns-then-lent-at c =
    let past : length c.args.lent.now ≤ c.args.at = c.if-lent-at.true in
    record { next = omega arith; lent = rw (written_past c.args.at c.args.bytes.now c.args.lent.now past) }

pub returns-clause-next : goal.returns-clause-next
unfolding behind
returns-clause-next c = omega (arith, c.min-count.ensures, c.if-lent-at.false)

pub returns-clause-lent : goal.returns-clause-lent
returns-clause-lent c =
    let at = c.args.at in
    let gap : at + c.min-count.result - at ≡ c.min-count.result = omega arith in
    rw (gap, c.copy_from_slice.ensures.after, drop-drop)
    (written_clipped at c.args.bytes.now c.args.lent.now at c.min-count.result (omega (arith, c.if-lent-at.false)) c.min-count.ensures)
