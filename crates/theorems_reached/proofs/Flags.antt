-- The live flags below 15: none where none is live, and a cycle, which sets flag 15 alone, adds none.
use native.Mathlib.Omega.{arith}
use mathlib.Core.Path.{◌≡◌, sym, ◌∙◌, ap}
use mathlib.Core.Bool.{Bool, true, false, not}
use mathlib.Core.List.{List}
use Prim.Native.Nat.{ℕ, ◌%◌, ◌^◌}
use lib.Bits.{bit_and, and_mod, or_mod, or_zero_r}
use lib.Dec.{T}
use mir.Facts.{eqb_yes}
use Rattle.faults.specs.Word.{flag, ◌or◌, any}
use Rattle.settings.specs.Settings.{FaultEnable}
use Rattle.drive.specs.Flags.{always_live, alive}
use Rattle.theorems_reached.specs.Reached.{but_hall}

-- where no flag is live, none is but for flag 15
pub calm_but_hall : (word : ℕ) → T (not (any word)) → T (not (any (but_hall word)))
calm_but_hall word calm = grind (arith, eqb_yes)

-- flag 15 adds nothing below it
below : (flags : ℕ) (set : Bool) → (flags or flag 15 set) % 2 ^ 15 ≡ flags % 2 ^ 15
below flags true = or_mod flags (2 ^ 15) 15 ∙ or_zero_r (flags % 2 ^ 15)
below flags false = grind (arith, or_mod, or_zero_r)

pub same_but_hall : (s : List ℕ) (flags : ℕ) (set : Bool) → but_hall (alive s (flags or flag 15 set)) ≡ but_hall (alive s flags)
same_but_hall s flags set =
    let enabled : ℕ = always_live or FaultEnable s in
    and_mod (flags or flag 15 set) enabled 15
    ∙ ap (λ (word : ℕ). bit_and word (enabled % 2 ^ 15)) (below flags set)
    ∙ sym (and_mod flags enabled 15)
