-- Document 01, "Settings, in order": the rule of each, and row 2, "a setting breaks its rule". Document 02, M-101: "setting 25 outside 2..3
-- is 2 at place 25".
use Rattle.std.specs.Prelude.{ℕ, ◌+◌, Bool, true, ◌&&◌, not, cond, List, [], ◌∷◌, map, eqb, ltb, leb, get_or}
use Rattle.verdicts.specs.Table.{Row, row}
use Rattle.settings.specs.Settings.{VdcOvLevel, VdcLvLevel, CriticalOvLevel, CmdStart, CmdStop}

-- "Settings, in order": the lowest and the highest value of each
abbrev pub ranges : List (ℕ × ℕ)
ranges =
    -- 1 ControlMode, 2 FaultEnable, 3 VdcOvLevel, 4 VdcLvLevel, 5 CriticalOvLevel, 6 Tshutdown
    (0, 1) ∷ (0, 65535) ∷ (0, 4095) ∷ (0, 4095) ∷ (0, 4095) ∷ (0, 4095) ∷
    -- 7 RotorLockTime, 8 FluxFaultTime, 9 HallTimeoutPeriod, 10 HallAngleOffset, 11 MinSpd, 12 SpdRampRate
    (1, 65535) ∷ (1, 65535) ∷ (1, 65535) ∷ (0, 65535) ∷ (0, 16383) ∷ (0, 32767) ∷
    -- 13 MotorLim, 14 OffsetPsc, 15 BtsChargeTime, 16 TCatchSpin, 17 DirectStartThr, 18 IS_Pulses
    (1, 4095) ∷ (0, 7) ∷ (0, 65535) ∷ (0, 65535) ∷ (0, 16383) ∷ (0, 255) ∷
    -- 19 ParkTime, 20 OpenLoopRamp, 21 CmdStart, 22 CmdStop, 23 CmdGain, 24 RetryLimit
    (0, 65535) ∷ (0, 65535) ∷ (0, 4095) ∷ (0, 4095) ∷ (0, 65535) ∷ (0, 100) ∷
    -- 25 the number of Hall sensors
    (2, 3) ∷ []

abbrev pub lowest : List ℕ
lowest = map (λ (r : ℕ × ℕ). r.0) ranges

abbrev pub highest : List ℕ
highest = map (λ (r : ℕ × ℕ). r.1) ranges

-- "4 VdcLvLevel .. below setting 3"
abbrev pub levels_apart : ℕ → ℕ → Bool
levels_apart lower upper = ltb lower upper

-- "5 CriticalOvLevel .. not below setting 3"
abbrev pub critical_above : ℕ → ℕ → Bool
critical_above upper critical = leb upper critical

-- "22 CmdStop .. below setting 21"
abbrev pub stop_below : ℕ → ℕ → Bool
stop_below stop start = ltb stop start

-- the relation of the setting at this place to others
abbrev pub related : List ℕ → ℕ → Bool
related s place =
    cond (eqb place 4) (levels_apart (VdcLvLevel s) (VdcOvLevel s))
    (cond (eqb place 5) (critical_above (VdcOvLevel s) (CriticalOvLevel s))
    (cond (eqb place 22) (stop_below (CmdStop s) (CmdStart s)) true))

-- the setting at this index, from 0, keeps its rule
abbrev pub rule : List ℕ → ℕ → Bool
rule s i = leb (get_or lowest i 0) (get_or s i 0) && leb (get_or s i 0) (get_or highest i 0) && related s (i + 1)

abbrev pub indices : List ℕ
indices =
    0 ∷ 1 ∷ 2 ∷ 3 ∷ 4 ∷ 5 ∷ 6 ∷ 7 ∷ 8 ∷ 9 ∷ 10 ∷ 11 ∷
    12 ∷ 13 ∷ 14 ∷ 15 ∷ 16 ∷ 17 ∷ 18 ∷ 19 ∷ 20 ∷ 21 ∷ 22 ∷ 23 ∷ 24 ∷ []

-- row 2, "a setting breaks its rule", with the place "first bad setting, from 1"
abbrev pub setting_row : List ℕ → ℕ → Row
setting_row s i = row 2 (i + 1) (not (rule s i))

unfoldable pub setting_rows : List ℕ → List Row
setting_rows s = map (setting_row s) indices
