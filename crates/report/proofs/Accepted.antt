-- What the line call accepts: no row of its table holds.
use Prim.Native.Nat.{ℕ, ◌≤◌}
use lib.Dec.{nltb→le}
use mathlib.Core.Bool.{true}
use mathlib.Core.Path.{◌≡◌}
use borrow.Author.Tests.{le-ltb}
use Rattle.drive.specs.declared.answer.Answer.{Answer}
use Rattle.verdicts.proofs.Passed.{passed}
use Rattle.report.specs.Refusals.{line_length, line_rows, line_verdict, accepts}

pub accepted : (answer : Answer) (lent : ℕ)
    → line_length ≤ lent → answer.number ≤ 15 → answer.state ≤ 9 → answer.gate ≤ 3
    → accepts answer lent ≡ true
accepted answer lent room number state gate =
    rw (le-ltb lent line_length room, le-ltb 15 answer.number number, le-ltb 9 answer.state state, le-ltb 3 answer.gate gate)

-- an answer that is accepted has room and a state
pub fits : (answer : Answer) (lent : ℕ) → (line_verdict answer lent).number ≡ 0 → (line_length ≤ lent) × (answer.state ≤ 9)
fits answer lent e =
    let fails = passed (line_rows answer lent) tt e in
    (nltb→le lent line_length fails.0, nltb→le 9 answer.state fails.1.1.0)
