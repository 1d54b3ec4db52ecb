-- A test that passes at each of the ten states passes at every state: antt computes it ten times, so no proof goes through them again.
use mathlib.Core.Path.{◌≡◌, refl, ap, ◌∙◌}
use mathlib.Core.Bool.{Bool, ◌||◌, not, beq}
use mathlib.Core.List.{List, [], ◌∷◌}
use Prim.Native.Nat.{ℕ, ◌<◌}
use native.Mathlib.Omega.{arith}
use lib.Dec.{T, eqb→eq}
use lib.ListN.{get_or}
use Rattle.numbers.proofs.Table as table
use Rattle.numbers.proofs.Tests.{follows, agreed}
use Rattle.states.specs.States.{number_of, is}
use Rattle.states.specs.declared.State.{State}
use Rattle.states.specs.declared.State.TheVariants.{Idle, Stop, OffsetCal, BtsCharge, MotorRun, Fault, CatchSpin, Parking}
use Rattle.states.specs.declared.State.TheVariants.{OpenLoop}
use Rattle.states.specs.declared.State.TheVariants.{AngleSensing}

-- by their numbers, from 0
abbrev pub ten : List State
ten =
    Idle
    ∷ Stop
    ∷ OffsetCal
    ∷ BtsCharge
    ∷ MotorRun
    ∷ Fault
    ∷ CatchSpin
    ∷ Parking
    ∷ OpenLoop
    ∷ AngleSensing
    ∷ []

abbrev pub AtAllTen : (State → Bool) → Type 0
AtAllTen test = T (table.every (λ (i : ℕ). test) 0 ten)

at_number : (test : State → Bool) → AtAllTen test → (k : ℕ) → k < 10 → T (test (get_or ten k Idle))
at_number test passes k h = table.at (λ (i : ℕ). test) ten Idle passes k h

pub every : (test : State → Bool) → AtAllTen test → (s : State) → T (test s)
every test passes Idle = at_number test passes 0 (omega arith)
every test passes Stop = at_number test passes 1 (omega arith)
every test passes OffsetCal = at_number test passes 2 (omega arith)
every test passes BtsCharge = at_number test passes 3 (omega arith)
every test passes MotorRun = at_number test passes 4 (omega arith)
every test passes Fault = at_number test passes 5 (omega arith)
every test passes CatchSpin = at_number test passes 6 (omega arith)
every test passes Parking = at_number test passes 7 (omega arith)
every test passes OpenLoop = at_number test passes 8 (omega arith)
every test passes AngleSensing = at_number test passes 9 (omega arith)

-- a state is the one of its number
of_number : (s : State) → s ≡ get_or ten (number_of s) Idle
of_number Idle = refl
of_number Stop = refl
of_number OffsetCal = refl
of_number BtsCharge = refl
of_number MotorRun = refl
of_number Fault = refl
of_number CatchSpin = refl
of_number Parking = refl
of_number OpenLoop = refl
of_number AngleSensing = refl

pub named : (n : ℕ) (s : State) → T (is n s) → s ≡ get_or ten n Idle
named n s at = of_number s ∙ ap (λ (k : ℕ). get_or ten k Idle) (eqb→eq (number_of s) n at)

-- where one test passes, so does another, at every state
pub at_every : (one other : State → Bool) → AtAllTen (λ s. not (one s) || other s) → (s : State) → T (one s) → T (other s)
at_every one other passes s = follows (one s) (other s) (every (λ s. not (one s) || other s) passes s)

-- two tests agree at every state
pub same_at_every : (one other : State → Bool) → AtAllTen (λ s. beq (one s) (other s)) → (s : State) → one s ≡ other s
same_at_every one other passes s = agreed (one s) (other s) (every (λ s. beq (one s) (other s)) passes s)
