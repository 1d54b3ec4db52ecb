-- How long each field is whatever it shows, and so the line.
use Prim.Native.Nat.{ℕ}
use native.Mathlib.Omega.{arith}
use mathlib.Core.Path.{◌≡◌}
use lib.IntN.{ℤ, nat_abs}
use lib.ListN.{length, length-append, length-take}
use Rattle.drive.specs.declared.answer.Answer.{Answer}
use Rattle.report.specs.Text.{signed}
use Rattle.report.specs.Refusals.{line_length}
use Rattle.report.specs.Line.{name, line}
use Rattle.report.proofs.Digits.{length_digits}

pub length-signed : (z : ℤ) → length (signed z) ≡ 6
unfolding signed
length-signed z = rw (length_digits 10 5 (nat_abs z))

pub length-name : (state : ℕ) → length (name state) ≡ 12
length-name state = simp (length-take, length-append) (omega arith)

pub length-line : (answer : Answer) → length (line answer) ≡ line_length
unfolding line
length-line answer = simp (length-append, length_digits, length-signed, length-name)
