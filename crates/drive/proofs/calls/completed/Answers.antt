-- `completed` has the numbers, and a three behind 24 of them.
use Rattle.std.proofs.Common.{◌≡◌, ℕ, Bool, true, false, ◌||◌, eqb, List, ◌++◌, length, take, replicate, refl}
use Rattle.std.proofs.Math.Seq.{take-append-add, take-append_seam}
use borrow.Author.Tests.{eqb-true}
use Rattle.settings.specs.Settings.{setting_count, all_settings, meant}
use Rattle.settings.proofs.Meant.{meant_of_24, meant_of_25}
use Rattle.drive.proofs.calls.completed.Goals as goal

filled_is : (numbers : List ℕ) → (eqb (length numbers) setting_count || eqb (length numbers) all_settings) ≡ true
    → take all_settings (numbers ++ replicate all_settings 3) ≡ meant numbers
filled_is numbers either = go (eqb (length numbers) setting_count) refl either
  where
    go : (few : Bool) → eqb (length numbers) setting_count ≡ few → (few || eqb (length numbers) all_settings) ≡ true
        → take all_settings (numbers ++ replicate all_settings 3) ≡ meant numbers
    go true e all =
        let is = eqb-true (length numbers) setting_count e in
        rw (meant_of_24 numbers is) (rw is at (take-append-add numbers (replicate all_settings 3) 1))
    go false e all =
        let is = eqb-true (length numbers) all_settings all in
        rw (meant_of_25 numbers is) (rw is at (take-append_seam numbers (replicate all_settings 3)))

pub returns : goal.returns
returns c = λ either. rw c.filled.ensures (filled_is c.args.numbers.now either)
