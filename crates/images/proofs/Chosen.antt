-- "The analog choice is floor(count x 15 / 4096)": the block is the one whose fifteenth of the range holds the count, and it is one of the
-- fifteen, so no reader refuses it with 8.
use Prim.Native.Nat.{ℕ, ◌+◌, ◌*◌, ◌≤◌, ◌<◌}
use native.Mathlib.Omega.{arith}
use mathlib.Core.Path.{◌≡◌, refl}
use borrow.Author.Tests.{lt-ltb, le-ltb}
use Rattle.images.specs.Image.{fifteen}
use Rattle.images.specs.Choice.{Choice, choice}

pub record Chosen (count : ℕ) (c : Choice) : Type 0 where
  pub number : c.number ≡ 0
  pub place : c.place ≡ 0
  pub from : c.block * 4096 ≤ count * 15
  pub below : count * 15 < (c.block + 1) * 4096
  pub one_of_them : c.block < 15

pub chosen : (count : ℕ) → count ≤ 4095 → Chosen count (choice fifteen count)
unfolding choice
chosen count small =
    rw (le-ltb 4095 count small)
    (record { number = refl; place = refl; from = omega arith; below = omega arith; one_of_them = omega arith })

-- "Count above 4095 is 1."
pub too_high : (count : ℕ) → 4095 < count → choice fifteen count ≡ record { number = 1; place = 1; block = 0 }
unfolding choice
too_high count high = rw (lt-ltb 4095 count high)
