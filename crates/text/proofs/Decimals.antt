-- The fewest digits that hold a number are its decimal digits with no zero in front.
use Prim.Native.Nat.{ℕ, zero, suc, ◌+◌, ◌-◌, ◌*◌, ◌/◌, ◌%◌, ◌^◌, ◌≤◌, ◌<◌}
use native.Mathlib.Nat.{not-suc-le-zero, le_of_suc-le-suc, mod-lt, le-div_iff_mul-le, div-lt_iff_lt-mul}
use native.Mathlib.Nat.{pow-suc, one-le-pow, pow-le-pow_right}
use native.Mathlib.Omega.{arith}
use mathlib.Core.Bool.{Bool, true, false}
use mathlib.Core.Path.{◌≡◌, refl, sym, ◌∙◌}
use mathlib.Core.List.{List, append-nil}
use lib.Dec.{ltb}
use lib.IntN.{ℤ, pos, negsuc, nat_abs}
use lib.ListN.{length, take, length-append}
use borrow.Author.Tests.{lt-ltb, le-ltb, ltb-true, ltb-false}
use Rattle.io.specs.Digits.{hex_digit_ascii, last_digits, IsDigitCount}
use Rattle.text.specs.Decimal.{decimals, decimal, signed_decimal, column}

last : (n : ℕ) → hex_digit_ascii (n % 10) ≡ 48 + n % 10
last n = rw (lt-ltb (n % 10) 10 (mod-lt n (omega arith)))

pub fewest : (most k n : ℕ) → k ≤ most → IsDigitCount 10 1 n k → decimals most n ≡ last_digits 10 k n
unfolding decimals
fewest most zero n room few = absurd (not-suc-le-zero few.0)
fewest zero (suc k) n room few = absurd (not-suc-le-zero room)
fewest (suc most) (suc zero) n room few =
    let small : n < 10 = omega (arith, few.1) in
    rw (lt-ltb n 10 small, last n)
fewest (suc most) (suc (suc k)) n room few =
    let back : suc k - 1 ≡ k = omega arith in
    let ten : 0 < 10 = omega arith in
    let some : 1 ≤ 10 ^ k = one-le-pow k 10 (omega arith) in
    let whole : suc (suc k) - 1 ≡ suc k = omega arith in
    let low : 10 ^ k * 10 ≤ n = rw (whole, pow-suc) at (few.2 (omega arith)) in
    let large : 10 ≤ n = omega arith in
    let high : n < 10 ^ suc k * 10 = rw (pow-suc 10 (suc k)) at few.1 in
    let before : IsDigitCount 10 1 (n / 10) (suc k) =
    (omega arith, (div-lt_iff_lt-mul ten).1 high, λ more. rw back ((le-div_iff_mul-le ten).1 low)) in
    rw (le-ltb n 10 large, last n, fewest most (suc k) (n / 10) (le_of_suc-le-suc room) before)

-- a number of 64 bits has twenty digits at most
twenty : (k n : ℕ) (test : Bool) → ltb 20 k ≡ test → n < 2 ^ 64 → IsDigitCount 10 1 n k → k ≤ 20
twenty k n true e small few =
    let many : 20 < k = ltb-true 20 k e in
    let ten : 0 < 10 = omega arith in
    let more : 20 ≤ k - 1 = omega arith in
    let large : 10 ^ 20 ≤ 10 ^ (k - 1) = pow-le-pow_right ten more in
    absurd (omega (arith, few.2 (omega arith)))
twenty k n false e small few = ltb-false 20 k e

-- so what `io::decimal` leaves in front is the number in decimal
pub decimal_made : (k n : ℕ) (out : List ℕ) → n < 2 ^ 64 → IsDigitCount 10 1 n k → take k out ≡ last_digits 10 k n
    → take k out ≡ decimal n
unfolding decimal
decimal_made k n out small few made = made ∙ sym (fewest 20 k n (twenty k n (ltb 20 k) refl small few) few)

-- a column of no width has the digits alone
pub narrowest : (n : ℕ) → column 0 n ≡ decimal n
unfolding column
narrowest n = let none : 0 - length (decimal n) ≡ 0 = omega arith in rw none (append-nil (decimal n))

-- how long a decimal number can be, by what it is below
module _ (most : ℕ) (shorter : (k n : ℕ) → 0 < k → n < 10 ^ k → length (decimals most n) ≤ k) where
  one_longer : (k n : ℕ) (test : Bool) → ltb n 10 ≡ test → n < 10 ^ suc k → length (decimals (suc most) n) ≤ suc k
  unfolding decimals
  one_longer k n true e small = rw e (omega arith)
  one_longer zero n false e small = absurd (omega (arith, ltb-false n 10 e))
  one_longer (suc k) n false e small =
      let ten : 0 < 10 = omega arith in
      let high : n < 10 ^ suc k * 10 = rw (pow-suc 10 (suc k)) at small in
      let before = shorter (suc k) (n / 10) (omega arith) ((div-lt_iff_lt-mul ten).1 high) in
      rw (e, length-append) (omega arith)

length-decimals : (most k n : ℕ) → 0 < k → n < 10 ^ k → length (decimals most n) ≤ k
unfolding decimals
length-decimals zero k n some small = omega arith
length-decimals (suc most) zero n some small = absurd (not-suc-le-zero some)
length-decimals (suc most) (suc k) n some small = one_longer most (length-decimals most) k n (ltb n 10) refl small

pub length-decimal : (k n : ℕ) → 0 < k → n < 10 ^ k → length (decimal n) ≤ k
unfolding decimal
length-decimal = length-decimals 20

pub length-signed : (k : ℕ) (z : ℤ) → 0 < k → nat_abs z < 10 ^ k → length (signed_decimal z) ≤ suc k
unfolding signed_decimal
length-signed k (pos n) some small = omega (arith, length-decimal k n some small)
length-signed k (negsuc n) some small = omega (arith, length-decimal k (suc n) some small)

-- and whatever the number is
module _ (most : ℕ) (shorter : (n : ℕ) → length (decimals most n) ≤ most) where
  one_more : (n : ℕ) (test : Bool) → ltb n 10 ≡ test → length (decimals (suc most) n) ≤ suc most
  unfolding decimals
  one_more n true e = rw e (omega arith)
  one_more n false e = rw (e, length-append) (omega (arith, shorter (n / 10)))

at_most : (most n : ℕ) → length (decimals most n) ≤ most
unfolding decimals
at_most zero n = omega arith
at_most (suc most) n = one_more most (at_most most) n (ltb n 10) refl

pub at_most_twenty : (n : ℕ) → length (decimal n) ≤ 20
unfolding decimal
at_most_twenty = at_most 20

pub at_most_twenty_one : (z : ℤ) → length (signed_decimal z) ≤ 21
unfolding signed_decimal
at_most_twenty_one (pos n) = omega (arith, at_most_twenty n)
at_most_twenty_one (negsuc n) = omega (arith, at_most_twenty (suc n))
