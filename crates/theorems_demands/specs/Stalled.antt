-- Document 02, M-103, of calls and answers: "A stalled pump that no one reports. With cold polymer the shaft stands, speed reads about
-- zero, and bit 7 stays quiet because 01 starts its speed range at MinSpd. Document 004 does too, but the house rule now differs: the
-- range is every absolute speed up to 4095." Whoever reads a log can count for how many ticks in a row a shaft was held, and tell from it
-- when flag 7 stands; the live word of each answer says the same. Settings are the numbers of the last accepted load, and the state is the
-- one that the last answer showed, as the onlooker of demand 3 remembers them. Two things stand in no log: flag 7 where it is masked, which
-- no answer shows and which is read off the drive's state; and what the drive would answer without torque, by which "no low and no other
-- cause" is told.
use Rattle.std.specs.Prelude.{ℕ, suc, ◌+◌, ◌*◌, ◌^◌, ◌≤◌, Bool, true, false, not, ◌&&◌, ◌||◌, None}
use Rattle.std.specs.Prelude.{cond, ◌≡◌, List, [], ◌∷◌, ◌++◌, map, T, eqb, leb, ℤ, pos, nat_abs}
use Rattle.faults.specs.Word.{bit}
use Rattle.fields.specs.declared.Tick.{Tick}
use Rattle.theorems_history.specs.Log.{Entry, state_after, entry, log}
use Rattle.theorems_history.specs.Onlooker.{Asked, load, tick, neither, heard, is_load, is_tick, memory_of}
use Rattle.drive.specs.AnyCall.{Call, loads, cycles, ticks, block_loads}
use Rattle.drive.specs.declared.answer.Answer.{Answer}
use Rattle.theorems_reached.specs.Machine.{machine}
use Rattle.onlooker.specs.Words.{words, setting, enabled, low_of}

abbrev pub Log : Type 0
Log = List (Entry Call Answer)

abbrev pub numbers_of : Log → List ℕ
numbers_of past = (memory_of words past).numbers

-- "4 MOTORRUN"
abbrev pub in_motor_run : Log → Bool
in_motor_run past = eqb (memory_of words past).shown 4

-- 7: "the absolute TrqRef is at least MotorLim", setting 13; 02: "every absolute speed up to 4095"
abbrev pub stalls : List ℕ → Tick → Bool
stalls s t = leb (setting 13 s) (nat_abs t.trq_ref) && leb (nat_abs t.speed) 4095

-- "consecutive ticks", of "only ticks taken in MOTORRUN, from zero at each entry": any other accepted tick ends the row, and so does an
-- accepted load; a cycle and a refused call are no ticks
abbrev pub one_more : (numbers : List ℕ) (running : Bool) → Asked Tick → ℕ → ℕ
one_more s running (load numbers) before = 0
one_more s running (tick t) before = cond (running && stalls s t) (suc before) 0
one_more s running neither before = before

-- how many there are in a row, up to the newest entry
unfoldable pub stalled_for : Log → ℕ
stalled_for [] = 0
stalled_for (e ∷ past) = one_more (numbers_of past) (in_motor_run past) (heard words e) (stalled_for past)

-- "for 10 x RotorLockTime consecutive ticks", setting 7
abbrev pub lock_ticks : List ℕ → ℕ
lock_ticks s = 10 * setting 7 s

-- ---- flag 7 after any call: where it is set, and that it stays

-- a tick that is taken in MOTORRUN makes the row long enough, and "its FaultEnable bit is 1"
abbrev pub sets7 : Entry Call Answer → Log → Bool
sets7 e past =
    is_tick words (heard words e)
    && in_motor_run past
    && leb (lock_ticks (numbers_of past)) (stalled_for (e ∷ past))
    && enabled 7 (numbers_of past)

-- "which stay until cleared": by an accepted load, and where FAULT is left
abbrev pub clears : Entry Call Answer → Log → Bool
clears e past = is_load words (heard words e) || eqb (memory_of words past).shown 5 && not (eqb e.answer.state 5)

unfoldable pub shows7 : Log → Bool
shows7 [] = false
shows7 (e ∷ past) = not (clears e past) && (shows7 past || sets7 e past)

-- after any sequence of calls from power-up and one more, whichever it is
abbrev pub FlagSevenIsShown : Type 0
FlagSevenIsShown =
    (call : Call) (earlier : List Call)
    → bit 7 (machine.answer (state_after machine earlier) call).live ≡ shows7 (log machine (call ∷ earlier))

-- ---- the answer to an accepted tick that is taken in MOTORRUN, after any sequence of calls from power-up

-- the same tick with this TrqRef and this speed
abbrev pub with_torque : (torque speed : ℤ) → Tick → Tick
with_torque torque speed t =
    record {
      gate_kill = t.gate_kill;
      clear = t.clear;
      command = t.command;
      control = t.control;
      vdc_raw = t.vdc_raw;
      vdc_filt = t.vdc_filt;
      temperature = t.temperature;
      flx_m = t.flx_m;
      trq_ref = torque;
      speed = speed;
      target = t.target;
    }

-- .. with TrqRef 0: it never stalls, for a loaded MotorLim is at least 1
abbrev pub slack : Tick → Tick
slack t = with_torque (pos 0) t.speed t

-- what a tick would be answered after these calls
abbrev pub answered : List Call → Tick → Answer
answered earlier t = machine.answer (state_after machine earlier) (ticks t)

-- a trip by flag 7 and nothing else, in place of this answer: "5 FAULT", its gates off, its reference 0
abbrev pub tripped_by7 : Answer → Answer
tripped_by7 a =
    record {
      number = 0;
      place = 0;
      state = 5;
      gate = 0;
      live = 2 ^ 7;
      reference = pos 0;
      position = a.position;
      angle = a.angle;
      offsets = a.offsets;
      retries = a.retries;
      judged = None;
    }

module _ (earlier : List Call) (t : Tick) where
  abbrev loaded : List ℕ
  loaded = numbers_of (log machine earlier)

  -- the row of stalled ticks is long enough with this one
  abbrev pub long : Bool
  long = leb (lock_ticks loaded) (stalled_for (log machine (ticks t ∷ earlier)))

  pub record FlagSeven : Type 0 where
    -- the answer shows flag 7 just where the row is long enough and "its FaultEnable bit is 1", whatever else stands
    pub shown : bit 7 (answered earlier t).live ≡ (enabled 7 loaded && long)
    -- "any live flag moves to FAULT. Else .. a low moves to STOP. Else: .. 4 MOTORRUN: stays."
    pub moves : (answered earlier t).state ≡ cond (eqb (answered earlier t).live 0) (cond (low_of loaded t) 1 4) 5
    -- masked or not, the flag is in the state that this tick leaves just where it was before, or the row is long enough
    pub stands :
        bit 7 (machine.step (state_after machine earlier) (ticks t)).flags ≡ (bit 7 (state_after machine earlier).flags || long)
    -- where the drive would run on without this tick's torque, the torque makes exactly this trip, or changes nothing of the answer
    pub alone :
        (answered earlier (slack t)).state ≡ 4
        → answered earlier t
        ≡ cond (enabled 7 loaded && long) (tripped_by7 (answered earlier (slack t))) (answered earlier (slack t))

abbrev pub FlagSevenIsExact : Type 0
FlagSevenIsExact =
    (earlier : List Call) (t : Tick)
    → T (in_motor_run (log machine earlier))
    → (answered earlier t).number ≡ 0
    → FlagSeven earlier t

-- ---- torque is read by bit 7 alone: after any calls, in any state, of any call

-- the same calls with no torque in any tick
abbrev pub slackened : Call → Call
slackened (loads numbers) = loads numbers
slackened (cycles fields) = cycles fields
slackened (ticks t) = ticks (slack t)
slackened (block_loads image block) = block_loads image block

-- these calls, the newest first, made without torque after the earlier ones
abbrev pub torqueless : (row earlier : List Call) → List Call
torqueless row earlier = map slackened row ++ earlier

-- a torque that a tick may have
abbrev pub torque_allowed : Call → Bool
torque_allowed (loads numbers) = true
torque_allowed (cycles fields) = true
torque_allowed (ticks t) = leb (nat_abs t.trq_ref) 4095
torque_allowed (block_loads image block) = true

-- none of these calls sets flag 7
unfoldable pub untripped : (row earlier : List Call) → Bool
untripped [] earlier = true
untripped (call ∷ row) earlier =
    torque_allowed call
    && not (sets7 (entry machine (state_after machine (row ++ earlier)) call) (log machine (row ++ earlier)))
    && untripped row earlier

-- then each is answered as it would be without any torque
abbrev pub TorqueIsReadByBit7Alone : Type 0
TorqueIsReadByBit7Alone =
    (earlier row : List Call) (call : Call)
    → T (untripped (call ∷ row) earlier)
    → machine.answer (state_after machine (row ++ earlier)) call
    ≡ machine.answer (state_after machine (torqueless row earlier)) (slackened call)

-- ---- a whole row: "in MOTORRUN .. for 10 x RotorLockTime accepted ticks in a row, no low and no other cause"

-- "no low and no other cause", as the drive itself tells it: a tick of the row that is accepted when neither it nor the row's calls before
-- it have torque leaves the drive in MOTORRUN. With its own torque, which is one that a tick may have, it stalls. Of any other call nothing
-- is asked.
abbrev pub held : (numbers : List ℕ) (torqueless : List Call) → Call → Type 0
held s past (loads numbers) = Unit {0}
held s past (cycles fields) = Unit {0}
held s past (ticks t) =
    (answered past (slack t)).number ≡ 0
    → (nat_abs t.trq_ref ≤ 4095) × T (stalls s t) × ((answered past (slack t)).state ≡ 4)
held s past (block_loads image block) = Unit {0}

-- each of these calls
unfoldable pub Row : (row earlier : List Call) → Type 0
Row [] earlier = Unit {0}
Row (call ∷ row) earlier = held (numbers_of (log machine earlier)) (torqueless row earlier) call × Row row earlier

-- the call is a tick, and accepted
abbrev pub ticks_now : List Call → Call → Bool
ticks_now past call = is_tick words (heard words (record { call = call; answer = machine.answer (state_after machine past) call }))

-- how many ticks of the row are accepted without torque
unfoldable pub taken : (row earlier : List Call) → ℕ
taken [] earlier = 0
taken (call ∷ row) earlier =
    cond (ticks_now (torqueless row earlier) (slackened call)) (suc (taken row earlier)) (taken row earlier)

-- From MOTORRUN on, whatever calls come between the ticks, as long as flag 7 has not tripped: the answer to the next tick, compared with
-- the answer had no tick of the row had torque. Where this tick makes the row long enough it is a trip by flag 7 alone; before that, and
-- where bit 7 is masked, nothing of the answer differs. The flag stands from then on.
module _ (earlier row : List Call) (t : Tick) where
  abbrev alike : Answer
  alike = answered (torqueless row earlier) (slack t)

  -- with so many ticks of the row it is long enough
  abbrev pub enough : ℕ → Bool
  enough n = leb (lock_ticks (numbers_of (log machine earlier))) (stalled_for (log machine earlier) + n)

  abbrev pub on : Bool
  on = enabled 7 (numbers_of (log machine earlier))

  pub record Reported : Type 0 where
    pub answers : answered (row ++ earlier) t ≡ cond (on && enough (suc (taken row earlier))) (tripped_by7 alike) alike
    pub stands : T (enough (suc (taken row earlier))) → T (bit 7 (machine.step (state_after machine (row ++ earlier)) (ticks t)).flags)

abbrev pub StalledPumpIsReported : Type 0
StalledPumpIsReported =
    (earlier row : List Call) (t : Tick)
    → T (in_motor_run (log machine earlier))
    → Row (ticks t ∷ row) earlier
    → (answered (torqueless row earlier) (slack t)).number ≡ 0
    → T (not (on earlier row t && enough earlier row t (taken row earlier)))
    → Reported earlier row t
