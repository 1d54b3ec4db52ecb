-- Document 01, "Move": "One at most per tick, by the state before it."
use Rattle.std.specs.Prelude.{ℕ, ◌*◌, Bool, ◌&&◌, ◌||◌, not, cond, List, eqb, ltb, leb, nat_abs}
use Rattle.settings.specs.Settings
use Rattle.states.specs.States.{is, turning}
use Rattle.states.specs.declared.State.{State}
use Rattle.states.specs.declared.State.TheVariants.{Idle, Stop, OffsetCal, BtsCharge, MotorRun, Fault, CatchSpin, Parking}
use Rattle.states.specs.declared.State.TheVariants.{OpenLoop, AngleSensing}
use Rattle.faults.specs.Exit.{from_fault}
use Rattle.faults.specs.declared.Exit.{Exit}
use Rattle.faults.specs.declared.Exit.TheVariants.{Stay as Remain, Clear as ClearAll, Retry as TryAgain}
use Rattle.moves.specs.declared.Grounds.{Grounds}
use Rattle.moves.specs.declared.Move.{Move}
use Rattle.moves.specs.declared.Move.TheVariants.{Stay, Enter, Measure, Clear, Retry}

-- "1 STOP: offsets not measured, to 2; else armed and high, to 3 (the start)."
abbrev pub from_stop : Bool → Bool → Bool → Move
from_stop measured armed high = cond (not measured) (Enter OffsetCal) (cond (armed && high) (Enter BtsCharge) Stay)

-- "2 OFFSETCAL: N cycles done, to 1; [..]"
abbrev pub from_offset_cal : List ℕ → ℕ → Move
from_offset_cal s cycles = cond (leb (Settings.samples (Settings.OffsetPsc s)) cycles) Measure Stay

-- "3 BTSCHARGE: BtsChargeTime cycles done, to 6."
abbrev pub from_bts_charge : List ℕ → ℕ → Move
from_bts_charge s cycles = cond (leb (Settings.BtsChargeTime s) cycles) (Enter CatchSpin) Stay

-- "6 CATCHSPIN: TCatchSpin 0, to 9. Else at its TCatchSpin-th tick: absolute speed above DirectStartThr, to 4, otherwise to 9."
abbrev pub from_catch_spin : List ℕ → ℕ → ℕ → Move
from_catch_spin s nth absolute_speed =
    cond (eqb (Settings.TCatchSpin s) 0) (Enter AngleSensing)
    (cond (leb (Settings.TCatchSpin s) nth)
    (cond (ltb (Settings.DirectStartThr s) absolute_speed) (Enter MotorRun) (Enter AngleSensing))
    Stay)

-- "9 ANGLESENSING: IS_Pulses 0, to 7; else 6 x IS_Pulses cycles done, to 4 (house)."
abbrev pub from_angle_sensing : List ℕ → ℕ → Move
from_angle_sensing s cycles =
    cond (eqb (Settings.IS_Pulses s) 0) (Enter Parking)
    (cond (leb (6 * Settings.IS_Pulses s) cycles) (Enter MotorRun) Stay)

-- "7 PARKING: at its ParkTime-th tick, or its first if that is 0, to 8."
abbrev pub from_parking : List ℕ → ℕ → Move
from_parking s nth = cond (leb (Settings.ParkTime s) nth) (Enter OpenLoop) Stay

-- "8 OPENLOOP: OpenLoopRamp 0, or absolute speed at least MinSpd, to 4."
abbrev pub from_open_loop : List ℕ → ℕ → Move
from_open_loop s absolute_speed = cond (eqb (Settings.OpenLoopRamp s) 0 || leb (Settings.MinSpd s) absolute_speed) (Enter MotorRun) Stay

-- the move out of FAULT, as a move
abbrev pub out_of : Exit → Move
out_of Remain = Stay
out_of ClearAll = Clear
out_of TryAgain = Retry

-- "Else:" each state's own move; "4 MOTORRUN: stays."; a tick in IDLE is refused
abbrev pub own : Grounds → State → Move
own g Idle = Stay
own g Stop = from_stop g.measured g.armed g.high
own g OffsetCal = from_offset_cal g.settings g.cycles
own g BtsCharge = from_bts_charge g.settings g.cycles
own g MotorRun = Stay
own g Fault =
    out_of
    (from_fault (Settings.mode1 g.settings) (Settings.RetryLimit g.settings) g.nth g.retries g.clear g.blocked)
own g CatchSpin = from_catch_spin g.settings g.nth (nat_abs g.speed)
own g Parking = from_parking g.settings g.nth
own g OpenLoop = from_open_loop g.settings (nat_abs g.speed)
own g AngleSensing = from_angle_sensing g.settings g.cycles

-- tripped: a flag is live, with the causes of this tick; blocked: a live cause stands.
-- "Outside FAULT, any live flag moves to FAULT. Else, in the six starting and running states (3, 4, 6, 7, 8, 9), a low moves to STOP."
unfoldable pub move_of : Grounds → Move
move_of g =
    cond (not (is 5 g.state) && g.tripped) (Enter Fault)
    (cond (turning g.state && g.low) (Enter Stop) (own g g.state))
