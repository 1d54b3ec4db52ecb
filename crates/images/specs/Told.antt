-- What the results of this crate tell: number and place of a refusal, or 0 and 0, and a value, "a refused value is 0".
use Rattle.std.specs.Prelude.{ℕ, Result, Ok, Err}
use Rattle.verdicts.specs.declared.Refusal.{Refusal}
use Rattle.verdicts.specs.Table.{Verdict, verdict_of}

-- accepted with any value, or refused
abbrev pub forgotten : {A : Type 0} → Result A Refusal → Result (Unit {0}) Refusal
forgotten (Ok value) = Ok tt
forgotten (Err refusal) = Err refusal

abbrev pub told_by : {A : Type 0} → Result A Refusal → Verdict
told_by r = verdict_of (forgotten r)

abbrev pub value_of : Result ℕ Refusal → ℕ
value_of (Ok value) = value
value_of (Err refusal) = 0
