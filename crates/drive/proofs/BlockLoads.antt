-- The block load by what the reader says: of a block that is found it is the load of its numbers, but for what a refusal leaves; else the
-- reader's own refusal.
use Rattle.std.proofs.Common.{◌≡◌, ℕ, ◌/◌, ◌≤◌, true, false, cond, ◌||◌, T, eqb, List, length, take, ne_eqb, arith, eqb→eq}
use Rattle.std.proofs.Common.{refl, Result, Ok, Err, is_err}
use mathlib.Core.Path.{subst}
use Rattle.numbers.specs.Bytes.{numbers}
use Rattle.numbers.proofs.Tests.{or_cases}
use Rattle.states.specs.States.{is}
use Rattle.settings.specs.Settings.{setting_count, all_settings, meant}
use Rattle.verdicts.specs.Table.{verdict, verdict_of}
use Rattle.verdicts.specs.declared.Refusal.{Refusal}
use Rattle.verdicts.proofs.OneToOne.{accepts}
use Rattle.verdicts.proofs.Passed.{behind_passed, before_later}
use Rattle.images.specs.Image.{fifteen}
use Rattle.images.specs.Reads.{read_rows, found_of, part}
use Rattle.images.proofs.Search.{found_counts}
use Rattle.drive.specs.Refusals.{load_rows}
use Rattle.drive.specs.Calls.{loaded, settle}
use Rattle.drive.specs.Blocks.{block_numbers, marked, block_load}
use Rattle.drive.specs.declared.Drive.{Drive}

module _ (d : Drive) (image : List ℕ) (block : ℕ) where
  pub found_loads :
      (verdict (read_rows fifteen image block)).number ≡ 0
      → settle (verdict (load_rows d (block_numbers image block))) (loaded (meant (block_numbers image block)))
      (cond (is 0 d.state) (marked d) d)
      ≡ block_load d image block
  unfolding block_load found_of
  found_loads none = rw (behind_passed (read_rows fifteen image block) (load_rows d (block_numbers image block)) tt none, none)

  pub not_found : ((verdict (read_rows fifteen image block)).number ≡ 0 → ⊥)
      → settle (verdict (read_rows fifteen image block)) d d ≡ block_load d image block
  unfolding block_load found_of
  not_found refused =
      rw (before_later (read_rows fifteen image block) (load_rows d (block_numbers image block)) refused, ne_eqb _ 0 refused)

-- a block that is found has as many numbers as a load
pub counts : (image : List ℕ) (block : ℕ) → (verdict (read_rows fifteen image block)).number ≡ 0
    → (eqb (length (part fifteen image block) / 2) setting_count || eqb (length (part fifteen image block) / 2) all_settings) ≡ true
unfolding found_of
counts image block none = found_counts fifteen image block none

-- they are the first of the 25 that an array has room for
module _ (count : ℕ) (either : (eqb count setting_count || eqb count all_settings) ≡ true) where
  pub within_25 : count ≤ 25
  within_25 =
      or_cases (eqb count setting_count) (eqb count all_settings) (rw either tt)
      (λ few. omega (arith, eqb→eq count setting_count few))
      (λ all. omega (arith, eqb→eq count all_settings all))

  pub numbers_are : (body : List ℕ) → take count (numbers 25 0 body) ≡ numbers count 0 body
  unfolding numbers
  numbers_are body =
      or_cases (eqb count setting_count) (eqb count all_settings) (rw either tt)
      (λ few. rw (eqb→eq count setting_count few) refl)
      (λ all. rw (eqb→eq count all_settings all) refl)

-- what the reader says of a block, by the result that it gives back
pub refused : (told : Result (Unit {0}) Refusal) → is_err told ≡ true → ((verdict_of told).number ≡ 0 → ⊥)
refused told refuses none =
    let refuses : T (is_err told) = rw refuses tt in
    absurd (rw (accepts told none) at refuses)

pub found : (told : Result (Unit {0}) Refusal) → is_err told ≡ false → (verdict_of told).number ≡ 0
found (Ok u) passes = refl
found (Err refusal) passes = absurd (subst T passes tt)
