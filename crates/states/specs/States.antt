-- Document 01: the states and their numbers. "Move" has those of 1 to 9; IDLE is 0: "Power-up is IDLE, all zero."
use Rattle.std.specs.Prelude.{ℕ, Bool, ◌||◌, eqb}
use Rattle.states.specs.declared.State.{State}
use Rattle.states.specs.declared.State.TheVariants.{Idle, Stop, OffsetCal, BtsCharge, MotorRun, Fault, CatchSpin, Parking}
use Rattle.states.specs.declared.State.TheVariants.{OpenLoop, AngleSensing}

abbrev pub number_of : State → ℕ
number_of Idle = 0
number_of Stop = 1
number_of OffsetCal = 2
number_of BtsCharge = 3
number_of MotorRun = 4
number_of Fault = 5
number_of CatchSpin = 6
number_of Parking = 7
number_of OpenLoop = 8
number_of AngleSensing = 9

-- the state has this number
abbrev pub is : ℕ → State → Bool
is n state = eqb (number_of state) n

-- "the six starting and running states (3, 4, 6, 7, 8, 9)"
abbrev pub turning : State → Bool
turning state = is 3 state || is 4 state || is 6 state || is 7 state || is 8 state || is 9 state
