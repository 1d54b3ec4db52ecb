-- Document 01, "Command" and "Move": arming, and the move out of FAULT, given what a supervisor's settings and fields say.
use Rattle.std.specs.Prelude.{ℕ, Bool, ◌&&◌, ◌||◌, not, cond, eqb, ltb, leb}
use Rattle.numbers.specs.Count.{up}
use Rattle.faults.specs.declared.Exit.{Exit}
use Rattle.faults.specs.declared.Exit.TheVariants.{Stay, Clear, Retry}

-- "A low, where the state before the tick is not FAULT, arms."
abbrev pub arms : Bool → Bool → Bool → Bool
arms armed low in_fault = armed || low && not in_fault

-- "5 FAULT: no live cause may stand. Then clear = 1, in either mode (house), [..] to 1. Else in mode 1, from its 10,000th tick on,
-- with fewer than RetryLimit retries used: [..] to 1."
abbrev pub from_fault : (timed : Bool) (limit nth retries clear : ℕ) (blocked : Bool) → Exit
from_fault timed limit nth retries clear blocked =
    cond blocked Stay (cond (eqb clear 1) Clear (cond (timed && leb 10000 nth && ltb retries limit) Retry Stay))

-- "retries up by one", and never above the limit
abbrev pub retried : ℕ → ℕ → ℕ
retried limit retries = up limit retries
