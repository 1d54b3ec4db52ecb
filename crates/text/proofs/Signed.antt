-- The text of a signed number, as the code reads it: a minus and the digits of its size where it is below zero, else the digits alone.
use Rattle.std.proofs.Common.{◌≡◌, refl, subst, true, false, [], ◌∷◌, ◌++◌, arith, to_z, of_z, w16, to_z-of_z, FitsSigned}
use Prim.Native.Char.{code}
use lib.Dec.{T}
use lib.IntN.{ℤ, pos, negsuc, nat_abs}
use lib.Signed.{lt_z}
use borrow.Author.Tests.{ltb-true}
use Rattle.text.specs.Decimal.{decimal, signed_decimal}
use Rattle.text.proofs.Chains.{behind_behind, written_written}

below : (z : ℤ) → lt_z z (pos 0) ≡ true → (code "-" ∷ []) ++ decimal (nat_abs z) ≡ signed_decimal z
unfolding signed_decimal
below (pos n) e = absurd (omega (arith, ltb-true n 0 e))
below (negsuc n) e = refl

above : (z : ℤ) → lt_z z (pos 0) ≡ false → decimal (nat_abs z) ≡ signed_decimal z
unfolding signed_decimal
above (pos n) e = refl
above (negsuc n) e = absurd (subst T e tt)

pub below_zero : (z : ℤ) → FitsSigned w16 z → lt_z (to_z w16 (of_z w16 z)) (pos 0) ≡ true
    → (code "-" ∷ []) ++ decimal (nat_abs (to_z w16 (of_z w16 z))) ≡ signed_decimal z
below_zero z fits e = rw (to_z-of_z fits) (below z (rw (to_z-of_z fits) at e))

pub at_least_zero : (z : ℤ) → FitsSigned w16 z → lt_z (to_z w16 (of_z w16 z)) (pos 0) ≡ false
    → decimal (nat_abs (to_z w16 (of_z w16 z))) ≡ signed_decimal z
at_least_zero z fits e = rw (to_z-of_z fits) (above z (rw (to_z-of_z fits) at e))

-- what joins a minus and the digits behind it
pub ruleset chained_signs = (behind_behind, written_written, below_zero, at_least_zero)
