-- What the numbers of a load mean, by their count.
use mathlib.Core.Path.{◌≡◌}
use mathlib.Core.Bool.{true, ◌||◌}
use mathlib.Core.List.{List, [], ◌∷◌, ◌++◌}
use Prim.Native.Nat.{ℕ}
use native.Mathlib.Omega.{arith}
use lib.Dec.{eqb}
use lib.ListN.{length, length-append}
use borrow.Author.Tests.{eq-eqb, ne_eqb, eqb-true}
use Rattle.settings.specs.Settings.{setting_count, all_settings, meant}

pub meant_of_24 : (numbers : List ℕ) → length numbers ≡ setting_count → meant numbers ≡ numbers ++ (3 ∷ [])
unfolding meant
meant_of_24 numbers is = rw (eq-eqb (length numbers) setting_count is)

pub meant_of_others : (numbers : List ℕ) → (length numbers ≡ setting_count → ⊥) → meant numbers ≡ numbers
unfolding meant
meant_of_others numbers not = rw (ne_eqb (length numbers) setting_count not)

pub meant_of_25 : (numbers : List ℕ) → length numbers ≡ all_settings → meant numbers ≡ numbers
meant_of_25 numbers is = meant_of_others numbers (λ other. absurd (omega (arith, is, other)))

-- either count means 25 settings
pub length-meant : (numbers : List ℕ) → (eqb (length numbers) setting_count || eqb (length numbers) all_settings) ≡ true
    → length (meant numbers) ≡ all_settings
length-meant numbers either = grind (arith, eqb-true, meant_of_24, meant_of_others, length-append)

-- what is meant means itself: 25 numbers of which the last is 3 are the same load as the 24 before it
pub meant_again : (numbers : List ℕ) → (eqb (length numbers) setting_count || eqb (length numbers) all_settings) ≡ true
    → meant (meant numbers) ≡ meant numbers
meant_again numbers either = meant_of_25 (meant numbers) (length-meant numbers either)
