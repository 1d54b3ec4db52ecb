-- An accepted load was made in IDLE or STOP, and its settings keep their rules: each lies in its range, and stands to others as it must.
use mathlib.Core.Path.{◌≡◌}
use mathlib.Core.Bool.{true, ◌&&◌, ◌||◌}
use mathlib.Core.List.{List, [], ◌∷◌, map}
use Prim.Native.Nat.{ℕ, zero, suc, ◌+◌, ◌≤◌, ◌<◌}
use native.Mathlib.Omega.{arith}
use native.Mathlib.Nat.{le_of_suc-le-suc, not-suc-le-zero}
use lib.Dec.{T, eqb, leb, leb→le}
use lib.Ieee.Bits.{is_true}
use lib.ListN.{length, get_or, take, length-take}
use Rattle.verdicts.specs.Table.{verdict}
use Rattle.verdicts.proofs.Passed.{Passed, passed}
use Rattle.numbers.proofs.Fill.{first_at}
use Rattle.settings.specs.Settings.{setting_count, all_settings, meant, HallSensors}
use Rattle.settings.proofs.Meant.{length-meant}
use Rattle.settings.specs.Rules.{rule, related, indices, lowest, highest, setting_row, setting_rows}
use Rattle.settings.proofs.Places.{place_at}
use Rattle.states.specs.States.{is}
use Rattle.drive.specs.Refusals.{load_rows}
use Rattle.drive.specs.declared.Drive.{Drive}
use Rattle.theorems_reached.specs.Reached.{Loaded}

rule_at :
    (s places : List ℕ)
    → Passed (map (setting_row s) places)
    → (k : ℕ)
    → k < length places
    → T (rule s (get_or places k 0))
rule_at s [] p k h = absurd (not-suc-le-zero h)
rule_at s (i ∷ places) p zero h = grind arith
rule_at s (i ∷ places) p (suc k) h = rule_at s places p.1 k (le_of_suc-le-suc h)

-- an accepted load was made in IDLE or STOP, and its settings keep their rules
pub accepted_state :
    (d : Drive) (numbers : List ℕ)
    → (verdict (load_rows d numbers)).number ≡ 0
    → T (is 0 d.state || is 1 d.state)
unfolding setting_rows
accepted_state d numbers e = grind arith

-- a rule asks the 24 settings that the drive keeps as it asked the numbers of the load
rule_kept : (s : List ℕ) → length s ≡ all_settings → (i : ℕ) → i < setting_count → rule (take setting_count s) i ≡ rule s i
rule_kept s all i h =
    let kept : (k : ℕ) → k < setting_count → get_or (take setting_count s) k 0 ≡ get_or s k 0 =
    λ k below. first_at setting_count s k below (omega (arith, all))
    in
    rw (
      kept i h,
      kept 2 (omega arith),
      kept 3 (omega arith),
      kept 4 (omega arith),
      kept 20 (omega arith),
      kept 21 (omega arith),
    )

-- numbers that are accepted are 24 or 25
pub accepted_count : (d : Drive) (numbers : List ℕ) → (verdict (load_rows d numbers)).number ≡ 0
    → (eqb (length numbers) setting_count || eqb (length numbers) all_settings) ≡ true
unfolding setting_rows
accepted_count d numbers e = grind (arith, is_true)

pub accepted_settings : (d : Drive) (numbers : List ℕ) → (verdict (load_rows d numbers)).number ≡ 0
    → Loaded (take setting_count (meant numbers))
unfolding setting_rows
accepted_settings d numbers e =
    let p = passed (load_rows d numbers) tt e in
    let s : List ℕ = meant numbers in
    let all : length s ≡ all_settings = length-meant numbers (accepted_count d numbers e) in
    record {
      count = omega (arith, all, length-take setting_count s);
      rules = λ i h.
          rw (rule_kept s all i h)
          (rw (place_at i (omega (arith, h))) at (rule_at s indices p.1.1 i (omega (arith, h))));
    }

-- "Setting 25 chooses 2 or 3 sensors": no other number is accepted
pub accepted_sensors : (d : Drive) (numbers : List ℕ) → (verdict (load_rows d numbers)).number ≡ 0
    → (2 ≤ HallSensors (meant numbers)) × (HallSensors (meant numbers) ≤ 3)
unfolding setting_rows
accepted_sensors d numbers e =
    let n : ℕ = HallSensors (meant numbers) in
    let kept : T (leb 2 n && leb n 3 && true) = rule_at (meant numbers) indices (passed (load_rows d numbers) tt e).1.1 24 (omega arith) in
    grind (arith, leb→le)

-- an accepted setting lies in the range of its place, and in the relation that its place asks for
module _ {s : List ℕ} (loaded : Loaded s) (i : ℕ) (h : i < setting_count) where
  pub at_least : get_or lowest i 0 ≤ get_or s i 0
  at_least = grind (arith, loaded.rules i h, leb→le)

  pub at_most : get_or s i 0 ≤ get_or highest i 0
  at_most = grind (arith, loaded.rules i h, leb→le)

  pub related_there : T (related s (i + 1))
  related_there = grind (arith, loaded.rules i h)
