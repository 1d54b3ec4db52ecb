-- Wrong drives about a stalled pump: each is this drive but for one thing, in its replies, its state and its account of itself alike. What
-- specs/Stalled.antt says of live word and state, asked of calls and answers alone, tells each at the last call of a run that is written
-- out, and this drive passes every run. antt computes each verdict.
use mathlib.Core.Path.{◌≡◌, refl}
use mathlib.Core.Bool.{Bool, true, false, not, ◌&&◌, ◌||◌, cond, beq}
use mathlib.Core.List.{List, [], ◌∷◌, ◌++◌, reverse}
use Prim.Native.Nat.{ℕ, ◌+◌, ◌^◌}
use lib.Dec.{eqb, ltb, leb}
use lib.IntN.{ℤ, pos, negsuc, nat_abs}
use lib.Signed.{lt_z}
use Rattle.faults.specs.Word.{bit}
use Rattle.states.specs.States.{is}
use Rattle.states.specs.declared.State.{State}
use Rattle.states.specs.declared.State.TheVariants.{Stop, MotorRun, Fault}
use Rattle.settings.specs.Settings.{MinSpd, MotorLim}
use Rattle.fields.specs.declared.Tick.{Tick}
use Rattle.motor.specs.declared.Run.{Run}
use Rattle.drive.specs.Answer.{reply as replied}
use Rattle.drive.specs.Calls.{becomes}
use Rattle.drive.specs.AnyCall.{Call, loads, cycles, ticks, block_loads, reply}
use Rattle.drive.specs.declared.Drive.{Drive}
use Rattle.drive.specs.declared.answer.Reply.{Reply}
use Rattle.theorems_history.specs.Log.{log}
use Rattle.theorems_history.specs.Onlooker.{heard, is_tick}
use Rattle.theorems_history.proofs.Judges.{judges}
use Rattle.theorems_reached.specs.Machine.{machine, machine_of}
use Rattle.onlooker.specs.Words.{words}
use Rattle.theorems_demands.specs.NamedCalls.{shows, high, clear, times, ready, started}
use Rattle.theorems_demands.specs.Stalled.{Log, in_motor_run, stalled_for, shows7, with_torque, slack}
use Rattle.theorems_demands.proofs.Computes.{computes, each}
use Rattle.theorems_demands.proofs.WrongDrives.{Replies, Row}

-- ---- drives that misread a tick that is taken in MOTORRUN: as one without torque, or at another speed

abbrev misread : (Drive → Tick → Tick) → Replies
misread read d (loads numbers) = reply d (loads numbers)
misread read d (cycles fields) = reply d (cycles fields)
misread read d (ticks fields) = reply d (ticks (cond (is 4 d.state) (read d fields) fields))
misread read d (block_loads image block) = reply d (block_loads image block)

abbrev overlooks : (Drive → Tick → Bool) → Replies
overlooks where-it-does = misread (λ d t. cond (where-it-does d t) (slack t) t)

-- ---- drives that miscount, or misreport

-- the same drive in this state, with these flags and this count of held ticks
abbrev pub with : State → ℕ → ℕ → Drive → Drive
with state flags count d =
    let run : Run = d.run in
    becomes d state d.hall flags d.cycles d.ticks d.offsets
    (record {
      slots = run.slots;
      rotor_lock_ticks = count;
      hall_still_ticks = run.hall_still_ticks;
      reference = run.reference;
    })
    d.armed
    d.retries

-- this drive, but that where the test holds of a call and its reply, the state that it leaves is changed, and shown as it is
abbrev pub changed : (Drive → Call → Reply → Bool) → (Drive → Drive → Drive) → Replies
changed test change d call =
    let r : Reply = reply d call in
    cond (test d call r) (replied r.answer.number r.answer.place (change d r.drive)) r

-- it has counted this many, told by how many there were before
abbrev recounted : (ℕ → ℕ) → Drive → Drive → Drive
recounted count before d = with d.state d.flags (count before.run.rotor_lock_ticks) d

-- it is in this state, with or without its flags
abbrev pub put : State → Bool → Drive → Drive → Drive
put state flagged before d = with state (cond flagged d.flags 0) before.run.rotor_lock_ticks d

abbrev pub is_cycle : Call → Bool
is_cycle (loads numbers) = false
is_cycle (cycles fields) = true
is_cycle (ticks fields) = false
is_cycle (block_loads image block) = false

-- a tick of which this holds
abbrev pub is_tick_with : (Tick → Bool) → Call → Bool
is_tick_with test (loads numbers) = false
is_tick_with test (cycles fields) = false
is_tick_with test (ticks fields) = test fields
is_tick_with test (block_loads image block) = false

-- one more is counted, and the tenth trips
abbrev counts_and_trips : Drive → Drive → Drive
counts_and_trips before d =
    let count : ℕ = before.run.rotor_lock_ticks + 1 in
    cond (leb 10 count) (with Fault (2 ^ 7) count d) (with d.state d.flags count d)

-- a call that is refused
abbrev is_refused : Drive → Call → Reply → Bool
is_refused d call r = not (eqb r.answer.number 0)

-- flag 7 is set
abbrev sets : Drive → Call → Reply → Bool
sets d call r = not (bit 7 d.flags) && bit 7 r.drive.flags

-- ---- the runs

-- a load with RotorLockTime 1, this FaultEnable, MotorLim and MinSpd
abbrev pub cold_load : (mask limit least : ℕ) → Call
cold_load mask limit least =
    loads
    (0 ∷ mask ∷ 3000 ∷ 1000 ∷ 3500 ∷ 3500 ∷ 1 ∷ 800 ∷ 100 ∷ 0 ∷ least ∷ 20480 ∷
    limit ∷ 7 ∷ 3 ∷ 0 ∷ 300 ∷ 0 ∷ 0 ∷ 0 ∷ 400 ∷ 300 ∷ 4096 ∷ 2 ∷ [])

-- a start with it, one tick short of MOTORRUN; and in MOTORRUN
abbrev pub cold : (mask limit least : ℕ) → List Call
cold mask limit least = ready (cold_load mask limit least) ++ started 4

abbrev running : List Call
running = cold 65535 4095 600 ++ (high ∷ [])

-- the fields of a tick with this command, control, torque and speed; a control of 4096 is refused
abbrev fields_with : ℕ → ℕ → ℤ → ℤ → Tick
fields_with command control torque speed =
    record {
      gate_kill = 0;
      clear = 0;
      command = command;
      control = control;
      vdc_raw = 2623;
      vdc_filt = 2623;
      temperature = 1000;
      flx_m = 2048;
      trq_ref = torque;
      speed = speed;
      target = pos 700;
    }

abbrev tick_with : ℕ → ℕ → ℤ → ℤ → Call
tick_with command control torque speed = ticks (fields_with command control torque speed)

abbrev tick_at : ℤ → ℤ → Call
tick_at = tick_with 1 400

abbrev pub held_tick : Tick
held_tick = fields_with 1 400 (pos 4095) (pos 0)

abbrev held : Call
held = ticks held_tick

abbrev pub refused : Call
refused = tick_with 1 4096 (pos 4095) (pos 0)

abbrev pub held_in_stop : Call
held_in_stop = tick_with 0 400 (pos 4095) (pos 0)

abbrev rows : List Row
rows =
    -- 01's range: from MinSpd on, and none where MinSpd is above 4095
    (overlooks (λ d t. ltb (nat_abs t.speed) (MinSpd d.settings)), running ++ times 10 held) ∷
    (overlooks (λ d t. ltb 4095 (MinSpd d.settings)), cold 65535 4095 5000 ++ (high ∷ times 10 held)) ∷
    -- speed 0 outside; 4095 outside; 4096 inside
    (overlooks (λ d t. eqb (nat_abs t.speed) 0), running ++ times 10 held) ∷
    (overlooks (λ d t. eqb (nat_abs t.speed) 4095), running ++ times 10 (tick_at (pos 4095) (pos 4095))) ∷ (
      misread (λ d t. cond (eqb (nat_abs t.speed) 4096) (with_torque t.trq_ref (pos 0) t) t),
      running ++ times 10 (tick_at (pos 4095) (pos 4096)),
    ) ∷
    -- a speed or a torque judged with its sign; a torque that must be above MotorLim
    (overlooks (λ d t. lt_z t.speed (pos 0)), running ++ times 10 (tick_at (pos 4095) (negsuc 599))) ∷
    (overlooks (λ d t. lt_z t.trq_ref (pos 0)), running ++ times 10 (tick_at (negsuc 4094) (pos 0))) ∷
    (overlooks (λ d t. leb (nat_abs t.trq_ref) (MotorLim d.settings)), running ++ times 10 held) ∷
    -- counted in any state: the tick that enters MOTORRUN is one of the ten
    (changed (λ d call r. not (is 4 d.state) && is 4 r.drive.state) (recounted (λ n. 1)), cold 65535 4095 600 ++ times 10 held) ∷
    -- the first one not counted; a row that another tick does not end
    (overlooks (λ d t. eqb d.ticks 0), running ++ times 10 held) ∷ (
      changed (λ d call r. is_tick_with (λ t. eqb (nat_abs t.trq_ref) 0) call) (recounted (λ n. n)),
      running ++ times 5 held ++ (high ∷ times 5 held),
    ) ∷
    -- a row that a cycle ends, or a refused tick; a refused tick that is counted
    (changed (λ d call r. is_cycle call) (recounted (λ n. 0)), running ++ (held ∷ shows 1 ∷ times 9 held)) ∷
    (changed is_refused (recounted (λ n. 0)), running ++ (held ∷ refused ∷ times 9 held)) ∷
    (changed is_refused (recounted (λ n. n + 1)), running ++ (held ∷ refused ∷ times 8 held)) ∷
    -- a flag that does not trip; a trip that shows no flag, or leads to STOP; a trip by a masked bit
    (changed sets (put MotorRun true), running ++ times 10 held) ∷
    (changed sets (put Fault false), running ++ times 10 held) ∷
    (changed sets (put Stop true), running ++ times 10 held) ∷
    (changed sets (put Fault true), cold 65407 4095 600 ++ (high ∷ times 10 held)) ∷
    []

-- flag 7 elsewhere: the last call is no tick that is taken in MOTORRUN
abbrev elsewhere : List Row
elsewhere =
    -- counted in STOP, and tripped by there
    (
      changed (λ d call r. is 1 d.state && is_tick_with (λ t. leb 4095 (nat_abs t.trq_ref)) call) counts_and_trips,
      ready (cold_load 65535 4095 600) ++ times 10 held_in_stop,
    ) ∷
    -- left by a clear; gone with a tick in FAULT, or with a cycle
    (
      changed (λ d call r. is 5 d.state && is 1 r.drive.state) (λ before d. with Stop (2 ^ 7) 0 d),
      running ++ times 10 held ++ (clear ∷ []),
    ) ∷
    (changed (λ d call r. is 5 d.state && is 5 r.drive.state) (put Fault false), running ++ times 11 held) ∷
    (changed (λ d call r. is_cycle call) (λ before d. with d.state 0 0 d), running ++ times 10 held ++ (shows 1 ∷ [])) ∷
    []

-- ---- what a log says of its newest entry

abbrev taken_in_motor_run : Log → Bool
taken_in_motor_run [] = false
taken_in_motor_run (e ∷ past) = in_motor_run past && is_tick words (heard words e)

-- `FlagSevenIsShown`, and `moves` of `FlagSeven` without its low, for no run has a low in MOTORRUN
abbrev reported : Log → Bool
reported [] = false
reported (e ∷ past) =
    beq (bit 7 e.answer.live) (shows7 (e ∷ past))
    && (not (taken_in_motor_run (e ∷ past)) || eqb e.answer.state (cond (eqb e.answer.live 0) 4 5))

-- the log of a row's calls: of its wrong drive, and of this one
abbrev wrongly : Row → Log
wrongly row = log (machine_of row.0) (reverse row.1)

abbrev rightly : Row → Log
rightly row = log machine (reverse row.1)

pub each_is_told : each (λ row. not (reported (wrongly row))) (rows ++ elsewhere) ≡ true
unfolding judges computes stalled_for shows7
each_is_told = refl

pub this_drive_passes : each (λ row. reported (rightly row)) (rows ++ elsewhere) ≡ true
unfolding judges computes stalled_for shows7
this_drive_passes = refl

-- so there are such ticks: each run of `rows` ends with one, and none of `elsewhere`
pub there_are_such : each (λ row. taken_in_motor_run (rightly row) && taken_in_motor_run (wrongly row)) rows ≡ true
unfolding judges computes stalled_for
there_are_such = refl
