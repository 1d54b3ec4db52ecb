-- `motor_line` is a chain of writers, one for each number, and one for the letter.
use Prim.Native.Nat.{ℕ}
use mathlib.Core.List.{List, ◌++◌}
use mir.Syntax.{w16}
use mir.Val.{SFits}
use mir.Facts.{to_z-of_z}
use borrow.Author.Rules.{rules}
use Rattle.text.proofs.Chains.{Puts, and_then}
use Rattle.bench.specs.Line.{motor_line}
use Rattle.bench.proofs.line.motor_line.Goals as goal

-- one writer more
then : {a b lent middle after : List ℕ} {at next last : ℕ}
    → Puts at a lent next middle → Puts next b middle last after → Puts at (a ++ b) lent last after
then {a} {b} before put = and_then b before (put.place, put.out)

pub returns : goal.returns
unfolding motor_line
returns c =
    let reference_fits : SFits w16 c.args.answer.reference = search rules in
    let angle_fits : SFits w16 c.args.answer.angle = search rules in
    let reference = rw (to_z-of_z reference_fits) at c.put_signed_field-at.ensures in
    let angle = rw (to_z-of_z angle_fits) at c.put_signed_field-at-2.ensures in
    let five =
    then (then (then (then c.put_field-at.ensures c.put_field-at-2.ensures) c.put_field-at-3.ensures) c.put_field-at-4.ensures)
    c.put_field-at-5.ensures in
    let eight = then (then (then five reference) c.put_field-at-6.ensures) angle in
    let eleven = then (then (then eight c.put_field-at-7.ensures) c.put_field-at-8.ensures) c.put_field-at-9.ensures in
    let last = rw c.letter.ensures at c.put.ensures in
    and_then _ eleven (last.next, last.lent)
