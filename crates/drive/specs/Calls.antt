-- Document 01: power-up, load and cycle. "Each hands the next drive state back beside its answer".
use Rattle.std.specs.Prelude.{ℕ, Bool, false, cond, ◌&&◌, List, take, replicate, ◌==◌, nat_lt, Option, Some, None}
use Rattle.std.specs.Int.{w16}
use Rattle.std.proofs.Common.{to_z}
use Rattle.numbers.specs.Count.{up}
use Rattle.faults.specs.Word.{flag, ◌or◌}
use Rattle.hall.specs.Sample.{sampled, powered_up}
use Rattle.hall.specs.declared.Hall.{Hall}
use Rattle.hall.specs.declared.Sampled.{Sampled}
use Rattle.hall.specs.declared.layout.Sensors.{Sensors}
use Rattle.hall.specs.declared.layout.Sensors.TheVariants.{Three, Two}
use Rattle.states.specs.States.{is}
use Rattle.states.specs.declared.State.{State}
use Rattle.states.specs.declared.State.TheVariants.{Idle, Stop}
use Rattle.settings.specs.Settings.{setting_count, meant, HallAngleOffset, HallSensors, OffsetPsc, samples}
use Rattle.fields.specs.declared.Cycle.{Cycle}
use Rattle.motor.specs.Counts.{at_rest}
use Rattle.motor.specs.declared.Run.{Run}
use Rattle.verdicts.specs.Table.{verdict}
use Rattle.verdicts.specs.Table.{Verdict}
use Rattle.drive.specs.Offsets.{unmeasured, added}
use Rattle.drive.specs.Refusals.{load_rows, cycle_rows}
use Rattle.drive.specs.Answer.{reply, reply_telling}
use Rattle.drive.specs.declared.Drive.{Drive}
use Rattle.drive.specs.declared.offsets.Offsets.{Offsets}
use Rattle.hall.specs.declared.fate.Fate.{Fate}
use Rattle.drive.specs.declared.answer.Reply.{Reply}

-- 02, M-101: "Setting 25 chooses 2 or 3 sensors"
abbrev pub chosen : List ℕ → Sensors
chosen settings = cond (HallSensors settings == 2) Two Three

-- everything "to power-up values: flags, position, pattern, offsets and arming", but state, settings and sensors
abbrev pub fresh : State → List ℕ → Sensors → Drive
fresh state settings sensors =
    record {
      state = state;
      settings = settings;
      sensors = sensors;
      hall = powered_up;
      flags = 0;
      cycles = 0;
      ticks = 0;
      offsets = unmeasured;
      run = at_rest;
      armed = false;
      retries = 0;
    }

-- "Power-up is IDLE, all zero." No paper says which sensors; no cycle is accepted there.
abbrev pub power_up : Drive
power_up = fresh Idle (replicate setting_count 0) Three

-- what a call but an accepted load leaves: "no cycle or tick changes" the settings, nor the sensors; the rest is given, in the order of
-- the state
abbrev pub becomes :
    Drive
    → (state : State) (hall : Hall) (flags cycles ticks : ℕ) (offsets : Offsets) (run : Run) (armed : Bool) (retries : ℕ)
    → Drive
becomes d state hall flags cycles ticks offsets run armed retries =
    record {
      state = state;
      settings = d.settings;
      sensors = d.sensors;
      hall = hall;
      flags = flags;
      cycles = cycles;
      ticks = ticks;
      offsets = offsets;
      run = run;
      armed = armed;
      retries = retries;
    }

-- What a call comes to: the next state, or the number and place of its refusal with the state that the refusal leaves.
-- "A refusal changes no state ..; its other fields show the unchanged state.": each call below leaves the state that it was given.
-- A refused call has judged no sample.
abbrev pub settle_telling : Option Fate → Verdict → (next left : Drive) → Reply
settle_telling judged v next left = cond (v.number == 0) (reply_telling judged 0 0 next) (reply v.number v.place left)

-- nor has a load or a tick
abbrev pub settle : Verdict → (next left : Drive) → Reply
settle = settle_telling None

-- "An accepted load gives STOP and clears everything else to power-up values"; "keeps its 24 settings as loaded", and beside them the
-- sensors that setting 25 chooses
abbrev pub loaded : List ℕ → Drive
loaded numbers = fresh Stop (take setting_count numbers) (chosen numbers)

unfoldable pub load : Drive → List ℕ → Reply
load d numbers = settle (verdict (load_rows d numbers)) (loaded (meant numbers)) d

-- the sample of a cycle, judged with the chosen layout and with HallAngleOffset, "any (signed)"
abbrev pub sample : Drive → Cycle → Sampled
sample d c = sampled d.sensors d.hall c.pattern (to_z w16 (HallAngleOffset d.settings))

-- "In OFFSETCAL the first N = 2^(13 - OffsetPsc) add their samples to two sums."
abbrev pub summed : Drive → Cycle → Offsets
summed d c =
    cond (is 2 d.state && nat_lt d.cycles (samples (OffsetPsc d.settings)))
    (added c.first c.second d.offsets)
    d.offsets

-- the sample is judged, "flag 15 is set" where it says so; "Cycles in the present state are counted to at most 65535."
abbrev pub cycled_by : Drive → Cycle → Sampled → Drive
cycled_by d c sampled =
    becomes d d.state sampled.hall (d.flags or flag 15 sampled.flagged) (up 65535 d.cycles) d.ticks
    (summed d c)
    d.run
    d.armed
    d.retries

unfoldable pub cycled : Drive → Cycle → Drive
cycled d c = cycled_by d c (sample d c)

-- 02, M-105: "The sample judgement must name it ..; Cycle passes the name on in its answer"
abbrev pub judged_by : Drive → Cycle → Option Fate
judged_by d c = Some (sample d c).fate

unfoldable pub cycle : Drive → Cycle → Reply
cycle d c = settle_telling (judged_by d c) (verdict (cycle_rows d c)) (cycled d c) d
