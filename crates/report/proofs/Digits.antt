-- What a digit is, computed over the text of the sixteen; digits made from the right, one a turn, and how many there are.
use Prim.Native.Nat.{ℕ, zero, suc, ◌+◌, ◌-◌, ◌/◌, ◌%◌, ◌≤◌, ◌<◌}
use native.Mathlib.Nat.{le_refl, not-suc-le-zero}
use native.Mathlib.Numerals.{add-one, sub-one}
use mathlib.Core.Path.{◌≡◌, refl}
use mathlib.Core.Bool.{cond}
use mathlib.Core.List.{List}
use lib.Dec.{eqb, ltb, eqb→eq}
use lib.ListN.{length, set, length-append}
use lib.Seq.{sets}
use Rattle.numbers.proofs.Table.{at}
use Rattle.text.specs.Text.{text}
use Rattle.report.proofs.Runs.{sets_append, set_past}
use Rattle.report.specs.Text.{digit, digits}

-- a digit worked out is what the text has at its place: one test, which antt computes at all sixteen
abbrev pub worked_out : ℕ → ℕ
worked_out value = cond (ltb value 10) (48 + value) (65 + (value - 10))

pub as_in_the_text : (value : ℕ) → value < 16 → digit value ≡ worked_out value
as_in_the_text value below =
    eqb→eq _ _ (at (λ (place byte : ℕ). eqb byte (worked_out place)) (text "0123456789ABCDEF") 0 tt value below)

pub length_digits : (base width n : ℕ) → length (digits base width n) ≡ width
unfolding digits
length_digits base zero n = refl
length_digits base (suc width) n = rw (length-append, length_digits base width (n / base), add-one)

-- a turn stores the last digit of those still to come, so what the buffer will be stays the same
pub one_made : (l : List ℕ) (at base rest left : ℕ) → 0 < left
    → sets (set l (at + (left - 1)) (digit (rest % base))) at (digits base (left - 1) (rest / base)) ≡ sets l at (digits base left rest)
unfolding digits
one_made l at base rest zero some = absurd (not-suc-le-zero some)
one_made l at base rest (suc left) some =
    let before = digits base left (rest / base) in
    let long : length before ≡ left = length_digits base left (rest / base) in
    let past : at + length before ≤ at + left = rw long (le_refl (at + left)) in
    rw (sub-one, sets_append, long, set_past l at before (at + left))
