-- What a `?` behind a row tells, and that no two results tell the same.
use mathlib.Core.Path.{◌≡◌, refl, sym, ◌∙◌}
use mathlib.Core.Bool.{Bool, true, false, cond}
use lib.Dec.{eqb}
use Rattle.std.specs.Prelude.{ℕ, Result, Ok, Err}
use Rattle.verdicts.specs.declared.Refusal.{Refusal}
use Rattle.verdicts.specs.declared.Refusal.TheVariants.{Field, Setting, Idle, Running, Line, Record, Image, Block, Empty}
use Rattle.verdicts.specs.Table.{number_of}
use Rattle.verdicts.proofs.OneToOne.{one_to_one}
use Rattle.images.specs.Told.{forgotten, told_by, value_of}

-- past the `?` the row does not hold
pub passed : (holds : Bool) (refusal : Refusal) {u : Unit {0}} → Ok u ≡ cond holds (Err refusal) (Ok tt) → holds ≡ false
passed true refusal {u} is = let never : ◌≡◌ {A = Result (Unit {0}) Refusal} (Ok u) (Err refusal) = is in cc
passed false refusal is = refl

pub refused : (refusal : Refusal) → eqb (number_of refusal) 0 ≡ false
refused (Field place) = refl
refused (Setting place) = refl
refused Idle = refl
refused Running = refl
refused (Line place) = refl
refused Record = refl
refused Image = refl
refused Block = refl
refused Empty = refl

-- a result again, of what is left of it and its value
abbrev with_value : Result (Unit {0}) Refusal → ℕ → Result ℕ Refusal
with_value (Ok u) value = Ok value
with_value (Err refusal) value = Err refusal

whole : (r : Result ℕ Refusal) → with_value (forgotten r) (value_of r) ≡ r
whole (Ok value) = refl
whole (Err refusal) = refl

pub same_result : (r s : Result ℕ Refusal) → told_by r ≡ told_by s → value_of r ≡ value_of s → r ≡ s
same_result r s told value =
    let left : forgotten r ≡ forgotten s = one_to_one (forgotten r) (forgotten s) told in
    sym (whole r) ∙ rw (left, value) (whole s)
