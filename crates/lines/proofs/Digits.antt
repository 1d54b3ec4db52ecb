-- Digits and signs read back: the value of the digits of a number is that number, and no value is too large for its digits.
use Prim.Native.Nat.{ℕ, zero, suc, ◌+◌, ◌*◌, ◌-◌, ◌^◌, ◌%◌, ◌/◌, ◌≤◌, ◌<◌}
use native.Mathlib.Nat.{add-zero, zero-add, add-suc, suc-add, mul-le-mul_left, pow-zero, pow-suc}
use native.Mathlib.Nat.{mod-lt, mod-eq_of_lt, div-add-mod', div-lt_iff_lt-mul}
use native.Mathlib.Omega.{arith}
use mathlib.Core.Path.{◌≡◌, refl, ◌∙◌}
use mathlib.Core.Bool.{Bool}
use mathlib.Core.List.{List, [], ◌∷◌, ◌++◌}
use lib.Dec.{eqb, ltb, eqb→eq}
use lib.IntN.{ℤ, pos, negsuc, nat_abs}
use lib.ListN.{length}
use borrow.Author.Tests.{le-ltb}
use mir.Syntax.{w16}
use mir.Val.{SFits}
use mir.Facts.{to_z-of_z}
use Rattle.numbers.proofs.Table.{at}
use Rattle.numbers.proofs.Tests.{by_test}
use Rattle.text.specs.Text.{text}
use Rattle.report.specs.Text.{digit, digits, sign}
use Rattle.lines.specs.Values.{value_of, onward, value, signed_of}

pub value_of_below : (byte : ℕ) → value_of byte < 16
value_of_below byte =
    by_test (λ (v : ℕ). v < 16) (ltb byte 65) (λ _. mod-lt byte (omega arith)) (λ _. mod-lt (byte + 9) (omega arith))

onward_append : (base before : ℕ) (a b : List ℕ) → onward base before (a ++ b) ≡ onward base (onward base before a) b
unfolding onward
onward_append base before [] b = refl
onward_append base before (x ∷ a) b = onward_append base (before * base + value_of x) a b

-- one digit more
pub value_more : (base : ℕ) (a : List ℕ) (byte : ℕ) → value base (a ++ (byte ∷ [])) ≡ value base a * base + value_of byte
unfolding onward
value_more base a byte = onward_append base 0 a (byte ∷ [])

onward_below : (base : ℕ) → base ≤ 16 → (k before : ℕ) (bytes : List ℕ) → before < 16 ^ k
    → onward base before bytes < 16 ^ (k + length bytes)
unfolding onward
onward_below base small k before [] low = rw add-zero low
onward_below base small k before (byte ∷ bytes) low =
    let more : before * base ≤ before * 16 = mul-le-mul_left before small in
    let next : before * base + value_of byte < 16 ^ suc k = rw pow-suc (omega (arith, value_of_below byte)) in
    let below = onward_below base small (suc k) (before * base + value_of byte) bytes next in
    rw (add-suc k (length bytes)) (rw (suc-add k (length bytes)) at below)

pub value_below : (base : ℕ) → base ≤ 16 → (bytes : List ℕ) → value base bytes < 16 ^ length bytes
value_below base small bytes = rw zero-add at (onward_below base small 0 0 bytes (omega arith))

-- the sixteen digits, one after the other
right : ℕ → ℕ → Bool
right v byte = eqb (value_of byte) v

pub digit_back : (v : ℕ) → v < 16 → value_of (digit v) ≡ v
unfolding right
digit_back v below = eqb→eq (value_of (digit v)) v (at right (text "0123456789ABCDEF") 0 tt v below)

pub digits_back : (base width n : ℕ) → 0 < base → base ≤ 16 → n < base ^ width → value base (digits base width n) ≡ n
unfolding digits onward
digits_back base zero n some small below = let one : n < 1 = rw pow-zero at below in omega arith
digits_back base (suc width) n some small below =
    let front : n / base < base ^ width = (div-lt_iff_lt-mul some).1 (rw pow-suc at below) in
    let last : n % base < base = mod-lt n some in
    value_more base (digits base width (n / base)) (digit (n % base))
    ∙ rw (digits_back base width (n / base) some small front, digit_back (n % base) (omega arith), div-add-mod')

-- a sign and five digits hold any 16-bit number
pub signed_back : (z : ℤ) → SFits w16 z → signed_of (sign z) (value 10 (digits 10 5 (nat_abs z))) ≡ z
signed_back (pos n) fits =
    let below : n < 65536 = omega (arith, fits.sfits) in
    rw (digits_back 10 5 n (omega arith) (omega arith) (omega arith), le-ltb n 0 (omega arith), mod-eq_of_lt below) (to_z-of_z fits)
signed_back (negsuc n) fits =
    let below : suc n < 65536 = omega (arith, fits.sfits) in
    let negative : 65536 - suc n < 65536 = omega arith in
    rw (digits_back 10 5 (suc n) (omega arith) (omega arith) (omega arith), mod-eq_of_lt below, mod-eq_of_lt negative) (to_z-of_z fits)
