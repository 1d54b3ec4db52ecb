-- Calls by name, for the bench cases and the named runs: the settings and the tick of the paper's example, with what a case changes of
-- them. A run is written in the order in which its calls are made, the first first.
use Rattle.std.specs.Prelude.{ℕ, zero, suc, List, [], ◌∷◌, ◌++◌, reverse, pos}
use Rattle.theorems_history.specs.Log.{state_after}
use Rattle.drive.specs.Answer.{answer}
use Rattle.drive.specs.Calls.{power_up}
use Rattle.drive.specs.AnyCall.{Call, loads, cycles, ticks}
use Rattle.drive.specs.declared.Drive.{Drive}
use Rattle.drive.specs.declared.answer.Answer.{Answer}
use Rattle.theorems_reached.specs.Machine.{machine}

-- the settings of the paper's example, with this ControlMode and HallAngleOffset
abbrev pub settings_with : ℕ → ℕ → List ℕ
settings_with mode offset =
    mode ∷ 65535 ∷ 3000 ∷ 1000 ∷ 3500 ∷ 3500 ∷ 100 ∷ 800 ∷ 100 ∷ offset ∷ 600 ∷ 64 ∷
    4095 ∷ 7 ∷ 3 ∷ 0 ∷ 300 ∷ 0 ∷ 0 ∷ 0 ∷ 400 ∷ 300 ∷ 4096 ∷ 2 ∷ []

abbrev pub loaded : Call
loaded = loads (settings_with 0 0)

-- in mode 1 the command is the control level: low at most 300, high at least 400
abbrev pub loaded_in_mode1 : Call
loaded_in_mode1 = loads (settings_with 1 0)

-- a cycle with this pattern
abbrev pub shows : ℕ → Call
shows pattern = cycles (record { pattern = pattern; first = 0; second = 0 })

-- the tick of the paper's example, with gate kill, clear, command, control, VdcRaw, VdcFilt, speed and target as told
abbrev pub tick_with : ℕ → ℕ → ℕ → ℕ → ℕ → ℕ → ℕ → ℕ → Call
tick_with kill clear command control raw filtered speed target =
    ticks
    (record {
      gate_kill = kill;
      clear = clear;
      command = command;
      control = control;
      vdc_raw = raw;
      vdc_filt = filtered;
      temperature = 1000;
      flx_m = 2048;
      trq_ref = pos 0;
      speed = pos speed;
      target = pos target;
    })

-- a low and a high in either mode, at a speed
abbrev pub low : Call
low = tick_with 0 0 0 0 2623 2623 0 0

abbrev pub high_at : ℕ → Call
high_at speed = tick_with 0 0 1 400 2623 2623 speed 700

abbrev pub high : Call
high = high_at 0

-- over-voltage, the command still high; and a clear, the command still high
abbrev pub over : Call
over = tick_with 0 0 1 400 2623 3001 0 0

abbrev pub clear : Call
clear = tick_with 0 1 1 400 2623 2623 0 0

-- a call n times
abbrev pub times : ℕ → Call → List Call
times zero call = []
times (suc n) call = call ∷ times n call

-- load, measure the offsets over 64 cycles, and let the command be low: STOP, offsets measured, armed
abbrev pub ready : Call → List Call
ready load = load ∷ low ∷ times 64 (shows 1) ++ (low ∷ low ∷ [])

-- "with command held at 1, three cycles between the first tick and the second": the start, and n ticks more
abbrev pub started : ℕ → List Call
started n = high ∷ times 3 (shows 1) ++ times n high

-- the drive after a run from power-up, and the last answer of it
abbrev pub after : List Call → Drive
after calls = state_after machine (reverse calls)

abbrev newest : List Call → Answer
newest [] = answer 0 0 power_up
newest (call ∷ earlier) = machine.answer (state_after machine earlier) call

abbrev pub answered : List Call → Answer
answered calls = newest (reverse calls)
