-- A verdict tells the result: no two results have one verdict, and so a promise of the verdict is one of the result itself.
use mathlib.Core.Path.{◌≡◌, refl, sym, ap, ◌∙◌}
use mathlib.Core.Bool.{cond}
use lib.Dec.{eqb}
use Rattle.std.specs.Prelude.{ℕ, Result, Ok, Err}
use Rattle.verdicts.specs.Table.{Verdict, verdict_of}
use Rattle.verdicts.specs.declared.Refusal.{Refusal}
use Rattle.verdicts.specs.declared.Refusal.TheVariants.{Field, Setting, Idle, Running, Line, Record, Image, Block, Empty}

-- the result that a number and a place tell
abbrev result_of : ℕ → ℕ → Result (Unit {0}) Refusal
result_of number place =
    cond (eqb number 1) (Err (Field place))
    (cond (eqb number 2) (Err (Setting place))
    (cond (eqb number 3) (Err Idle)
    (cond (eqb number 4) (Err Running)
    (cond (eqb number 5) (Err (Line place))
    (cond (eqb number 6) (Err Record)
    (cond (eqb number 7) (Err Image)
    (cond (eqb number 8) (Err Block)
    (cond (eqb number 9) (Err Empty) (Ok tt)))))))))

abbrev told_by : Verdict → Result (Unit {0}) Refusal
told_by v = result_of v.number v.place

told_back : (r : Result (Unit {0}) Refusal) → told_by (verdict_of r) ≡ r
told_back (Ok u) = refl
told_back (Err (Field place)) = refl
told_back (Err (Setting place)) = refl
told_back (Err Idle) = refl
told_back (Err Running) = refl
told_back (Err (Line place)) = refl
told_back (Err Record) = refl
told_back (Err Image) = refl
told_back (Err Block) = refl
told_back (Err Empty) = refl

pub one_to_one : (r s : Result (Unit {0}) Refusal) → verdict_of r ≡ verdict_of s → r ≡ s
one_to_one r s e = sym (told_back r) ∙ ap told_by e ∙ told_back s

-- the number 0 tells that the call is accepted
pub accepts : (r : Result (Unit {0}) Refusal) → (verdict_of r).number ≡ 0 → r ≡ Ok tt
accepts r none = sym (told_back r) ∙ ap (λ (number : ℕ). result_of number (verdict_of r).place) none
