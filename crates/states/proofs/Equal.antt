-- `==` of two states, as the code has it, is `is` of the definition: two states are equal where their numbers are.
use mathlib.Core.Path.{◌≡◌, refl}
use denote.Enum.Declared.{tag_of}
use denote.Enum.Bare.{sameb}
use Rattle.states.specs.States.{number_of, is}
use Rattle.states.specs.contracts.State.{the_type}
use Rattle.states.specs.declared.State.{State}
use Rattle.states.specs.declared.State.TheVariants.{Idle, Stop, OffsetCal, BtsCharge, MotorRun, Fault, CatchSpin, Parking}
use Rattle.states.specs.declared.State.TheVariants.{OpenLoop, AngleSensing}

-- the code lists the states in the order of their numbers
listed : (state : State) → tag_of the_type state ≡ number_of state
listed Idle = refl
listed Stop = refl
listed OffsetCal = refl
listed BtsCharge = refl
listed MotorRun = refl
listed Fault = refl
listed CatchSpin = refl
listed Parking = refl
listed OpenLoop = refl
listed AngleSensing = refl

pub equal_is : (state other : State) → sameb the_type state other ≡ is (number_of other) state
equal_is state other = rw (listed state, listed other)
