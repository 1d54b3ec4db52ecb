-- Document 01, "Settings, in order", and document 02, M-101, which brings setting 25.
use Rattle.std.specs.Prelude.{ℕ, ◌-◌, ◌^◌, Bool, cond, List, [], ◌∷◌, ◌++◌, eqb, length, get_or}

-- "its 24 settings", which the drive state keeps as loaded
abbrev pub setting_count : ℕ
setting_count = 24

-- 02: "Setting 25 chooses 2 or 3 sensors"
abbrev pub all_settings : ℕ
all_settings = 25

-- 02: "a load of 24 numbers means 3": the settings that the numbers of a load mean
unfoldable pub meant : List ℕ → List ℕ
meant numbers = cond (eqb (length numbers) setting_count) (numbers ++ (3 ∷ [])) numbers

-- the settings are counted from 1
abbrev pub setting : ℕ → List ℕ → ℕ
setting n settings = get_or settings (n - 1) 0

abbrev pub ControlMode : List ℕ → ℕ
ControlMode = setting 1

abbrev pub FaultEnable : List ℕ → ℕ
FaultEnable = setting 2

abbrev pub VdcOvLevel : List ℕ → ℕ
VdcOvLevel = setting 3

abbrev pub VdcLvLevel : List ℕ → ℕ
VdcLvLevel = setting 4

abbrev pub CriticalOvLevel : List ℕ → ℕ
CriticalOvLevel = setting 5

abbrev pub Tshutdown : List ℕ → ℕ
Tshutdown = setting 6

abbrev pub RotorLockTime : List ℕ → ℕ
RotorLockTime = setting 7

abbrev pub FluxFaultTime : List ℕ → ℕ
FluxFaultTime = setting 8

abbrev pub HallTimeoutPeriod : List ℕ → ℕ
HallTimeoutPeriod = setting 9

abbrev pub HallAngleOffset : List ℕ → ℕ
HallAngleOffset = setting 10

abbrev pub MinSpd : List ℕ → ℕ
MinSpd = setting 11

abbrev pub SpdRampRate : List ℕ → ℕ
SpdRampRate = setting 12

abbrev pub MotorLim : List ℕ → ℕ
MotorLim = setting 13

abbrev pub OffsetPsc : List ℕ → ℕ
OffsetPsc = setting 14

abbrev pub BtsChargeTime : List ℕ → ℕ
BtsChargeTime = setting 15

abbrev pub TCatchSpin : List ℕ → ℕ
TCatchSpin = setting 16

abbrev pub DirectStartThr : List ℕ → ℕ
DirectStartThr = setting 17

abbrev pub IS_Pulses : List ℕ → ℕ
IS_Pulses = setting 18

abbrev pub ParkTime : List ℕ → ℕ
ParkTime = setting 19

abbrev pub OpenLoopRamp : List ℕ → ℕ
OpenLoopRamp = setting 20

abbrev pub CmdStart : List ℕ → ℕ
CmdStart = setting 21

abbrev pub CmdStop : List ℕ → ℕ
CmdStop = setting 22

abbrev pub CmdGain : List ℕ → ℕ
CmdGain = setting 23

abbrev pub RetryLimit : List ℕ → ℕ
RetryLimit = setting 24

-- 02 gives setting 25 no name
abbrev pub HallSensors : List ℕ → ℕ
HallSensors = setting 25

-- ControlMode 1: "Mode 1"
abbrev pub mode1 : List ℕ → Bool
mode1 s = eqb (ControlMode s) 1

-- how many samples the offsets are measured over: "N = 2^(13 - OffsetPsc)"
abbrev pub samples : ℕ → ℕ
samples psc = 2 ^ (13 - psc)
