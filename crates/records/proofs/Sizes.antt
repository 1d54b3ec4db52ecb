-- A record has no fewer bytes than the shortest, and no more than the longest; a load as many as its numbers ask for.
use mathlib.Core.Path.{◌≡◌, refl, sym, ◌∙◌}
use mathlib.Core.Bool.{Bool, true, false, ◌||◌}
use mathlib.Core.List.{List, ◌++◌, append-nil}
use Prim.Native.Nat.{ℕ, ◌≤◌, min}
use native.Mathlib.Omega.{arith}
use lib.Dec.{eqb}
use lib.ListN.{length, drop, replicate}
use borrow.Author.Tests.{eqb-true}
use Rattle.std.proofs.lemmas.Bool.Decides.{nat_tests}
use Rattle.settings.specs.Settings.{setting_count, all_settings, meant}
use Rattle.settings.proofs.Meant.{meant_of_24, meant_of_25}
use Rattle.drive.specs.AnyCall.{Call, loads, cycles, ticks, block_loads}
use Rattle.records.specs.Decoded.{load_size, counts, settings_of}
use Rattle.records.specs.Front.{size_of, shortest, longest}
use Rattle.numbers.specs.Bytes.{numbers}
use Rattle.numbers.proofs.Bytes.{length-numbers}

pub at_least_shortest : (r : Call) → shortest ≤ size_of r
at_least_shortest (loads numbers) = grind (arith, nat_tests)
at_least_shortest (cycles fields) = omega arith
at_least_shortest (ticks fields) = omega arith
at_least_shortest (block_loads image block) = omega arith

pub length-settings : (count : ℕ) (bytes : List ℕ) → length (settings_of count bytes) ≡ count
unfolding settings_of
length-settings count bytes = length-numbers count 1 bytes

-- what holds of 24 and of 25 numbers holds of each count that a load can have
of_either : (P : ℕ → Type 0) → P setting_count → P all_settings → (count : ℕ) → counts count ≡ true → P count
of_either P few all count known = go (eqb count setting_count) refl known
  where
    go : (is_few : Bool) → eqb count setting_count ≡ is_few → (is_few || eqb count all_settings) ≡ true → P count
    go true e _ = rw (eqb-true count setting_count e) few
    go false _ e = rw (eqb-true count all_settings e) all

pub size_of_load : (count : ℕ) (bytes : List ℕ) → counts count ≡ true → size_of (loads (settings_of count bytes)) ≡ load_size count
size_of_load count bytes =
    of_either (λ n. size_of (loads (settings_of n bytes)) ≡ load_size n)
    (rw (length-settings setting_count bytes)) (rw (length-settings all_settings bytes)) count

pub load_at_most : (count : ℕ) → counts count ≡ true → load_size count ≤ longest
load_at_most = of_either (λ n. load_size n ≤ longest) (omega arith) (omega arith)

-- the numbers that are there, and threes behind them up to the 25th
pub settings_meant : (count : ℕ) (bytes : List ℕ) → counts count ≡ true
    → numbers (min count all_settings) 1 bytes ++ drop (min count all_settings) (replicate all_settings 3)
    ≡ meant (settings_of count bytes)
unfolding settings_of
settings_meant count bytes =
    of_either
    (λ n. numbers (min n all_settings) 1 bytes ++ drop (min n all_settings) (replicate all_settings 3) ≡ meant (numbers n 1 bytes))
    (sym (meant_of_24 (numbers setting_count 1 bytes) (length-numbers setting_count 1 bytes)))
    (append-nil (numbers all_settings 1 bytes)
    ∙ sym (meant_of_25 (numbers all_settings 1 bytes) (length-numbers all_settings 1 bytes)))
    count
