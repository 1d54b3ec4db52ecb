-- A place for 25 settings that held threes, filled with the 24 or 25 numbers of a load, holds what they mean.
use mathlib.Core.Path.{◌≡◌, refl}
use mathlib.Core.Bool.{Bool, true, false, ◌||◌}
use mathlib.Core.List.{List, append-nil}
use Prim.Native.Nat.{ℕ, ◌≤◌}
use native.Mathlib.Omega.{arith}
use lib.Dec.{eqb}
use lib.ListN.{length, replicate}
use lib.Seq.{take_all}
use borrow.Author.Tests.{eqb-true}
use Rattle.numbers.proofs.Fill.{filled}
use Rattle.settings.specs.Settings.{setting_count, all_settings, meant}
use Rattle.settings.proofs.Meant.{meant_of_24, meant_of_25}

abbrev pub threes : List ℕ
threes = replicate all_settings 3

pub filled_meant : (numbers : List ℕ) → (eqb (length numbers) setting_count || eqb (length numbers) all_settings) ≡ true
    → (length numbers ≤ all_settings) × (filled threes numbers (length numbers) ≡ meant numbers)
filled_meant numbers either = go (eqb (length numbers) setting_count) refl either
  where
    go : (few : Bool) → eqb (length numbers) setting_count ≡ few → (few || eqb (length numbers) all_settings) ≡ true
        → (length numbers ≤ all_settings) × (filled threes numbers (length numbers) ≡ meant numbers)
    go true e all =
        let is = eqb-true (length numbers) setting_count e in
        (omega (arith, is), rw (take_all (length numbers) numbers (omega arith), is, meant_of_24 numbers is))
    go false e all =
        let is = eqb-true (length numbers) all_settings all in
        (omega (arith, is), rw (take_all (length numbers) numbers (omega arith), is, meant_of_25 numbers is) (append-nil numbers))
