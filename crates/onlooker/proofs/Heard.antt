-- 24 numbers mean 25: who hears either hears the same.
use mathlib.Core.Path.{◌≡◌}
use mathlib.Core.Bool.{true, ◌||◌}
use mathlib.Core.List.{List}
use Prim.Native.Nat.{ℕ}
use lib.Dec.{eqb}
use lib.ListN.{length}
use Rattle.settings.specs.Settings.{setting_count, all_settings, meant}
use Rattle.settings.proofs.Meant.{meant_again}
use Rattle.drive.specs.AnyCall.{loads}
use Rattle.drive.specs.declared.answer.Answer.{Answer}
use Rattle.onlooker.specs.Words.{as_loaded}
use Rattle.onlooker.specs.Hears.{hears}
use Rattle.onlooker.specs.declared.Onlooker.{Onlooker}

same_loaded : (numbers : List ℕ) → (eqb (length numbers) setting_count || eqb (length numbers) all_settings) ≡ true
    → as_loaded (meant numbers) ≡ as_loaded numbers
unfolding meant
same_loaded numbers either = meant_again numbers either

pub meant_heard : (o : Onlooker) (numbers : List ℕ) (answer : Answer)
    → (eqb (length numbers) setting_count || eqb (length numbers) all_settings) ≡ true
    → hears o (record { call = loads (meant numbers); answer = answer }) ≡ hears o (record { call = loads numbers; answer = answer })
unfolding hears
meant_heard o numbers answer either = rw (same_loaded numbers either)
