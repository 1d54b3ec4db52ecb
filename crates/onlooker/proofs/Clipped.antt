-- He counts the ticks in FAULT no further than he asks: the count that stops at the wait answers as the one that goes on.
use Prim.Native.Nat.{ℕ, suc, min}
use native.Mathlib.Omega.{arith}
use mathlib.Core.Path.{◌≡◌}
use mathlib.Core.Bool.{Bool, cond}
use lib.Dec.{leb}
use Rattle.std.proofs.lemmas.Bool.Decides.{nat_tests}
use Rattle.onlooker.specs.Hears.{wait}

due_clipped : (count : ℕ) → leb wait (min count wait) ≡ leb wait count
due_clipped count = grind (arith, nat_tests)

-- and so it does from call to call: one tick more, or none, or from nothing again
pub clipped_on : (stays ticked : Bool) (count : ℕ)
    → min (cond stays (cond ticked (suc (min count wait)) (min count wait)) 0) wait
    ≡ min (cond stays (cond ticked (suc count) count) 0) wait
clipped_on stays ticked count = grind (arith, nat_tests)

pub due_again : (stays : Bool) (count : ℕ) → leb wait (cond stays (suc (min count wait)) 0) ≡ leb wait (cond stays (suc count) 0)
due_again stays count = grind (arith, nat_tests)
