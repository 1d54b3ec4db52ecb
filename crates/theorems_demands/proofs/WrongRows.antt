-- Wrong drives that a stall puts out of step, whatever torque the next tick has: each is this drive but for one thing, in its replies, its
-- state and its account of itself alike. `StalledPumpIsReported`, asked of the answers with and without torque, tells each of them: its
-- premises hold of the row that is written out, and what it says does not. Of this drive it holds. antt computes each verdict.
use mathlib.Core.Path.{◌≡◌, refl}
use mathlib.Core.Bool.{Bool, true, not, ◌&&◌, ◌||◌, cond}
use mathlib.Core.List.{List, [], ◌∷◌, ◌++◌, map, reverse}
use Prim.Native.Nat.{ℕ, suc, ◌+◌, ◌^◌}
use lib.Dec.{eqb, leb}
use lib.IntN.{pos, nat_abs}
use Rattle.states.specs.States.{is}
use Rattle.states.specs.declared.State.TheVariants.{Parking, Fault}
use Rattle.fields.specs.declared.Tick.{Tick}
use Rattle.drive.specs.Answer.{reply as replied}
use Rattle.drive.specs.Calls.{becomes}
use Rattle.drive.specs.AnyCall.{Call, loads, cycles, ticks, block_loads, reply}
use Rattle.drive.specs.declared.Drive.{Drive}
use Rattle.drive.specs.declared.answer.Answer.{Answer}
use Rattle.drive.specs.declared.answer.Reply.{Reply}
use Rattle.theorems_history.specs.Log.{state_after, log}
use Rattle.theorems_history.proofs.Judges.{judges}
use Rattle.theorems_reached.specs.Machine.{machine_of}
use Rattle.onlooker.specs.Words.{enabled}
use Rattle.theorems_demands.specs.NamedCalls.{shows, high, times}
use Rattle.theorems_demands.specs.Stalled.{numbers_of, in_motor_run, stalls, stalled_for, lock_ticks, slack, tripped_by7, slackened}
use Rattle.theorems_demands.proofs.Computes.{computes, each}
use Rattle.theorems_demands.proofs.WrongDrives.{Replies}
use Rattle.theorems_demands.proofs.WrongStalls.{changed, with, put, is_cycle, is_tick_with, cold, held_tick, refused}

-- ---- the statement as a test, of any drive

module _ (replies : Replies) where
  abbrev pub answered : List Call → Call → Answer
  answered past call = (replies (state_after (machine_of replies) past) call).answer

  abbrev accepts : List Call → Call → Bool
  accepts past call = eqb (answered past call).number 0

  -- `held`, of calls without torque before it
  abbrev held_now : List ℕ → List Call → Call → Bool
  held_now s past (loads numbers) = true
  held_now s past (cycles fields) = true
  held_now s past (ticks t) =
      not (accepts past (ticks (slack t)))
      || leb (nat_abs t.trq_ref) 4095 && stalls s t && eqb (answered past (ticks (slack t))).state 4
  held_now s past (block_loads image block) = true

  -- `Row` and `taken`
  abbrev is_row : List ℕ → (row earlier : List Call) → Bool
  is_row s [] earlier = true
  is_row s (call ∷ row) earlier = held_now s (map slackened row ++ earlier) call && is_row s row earlier

  abbrev taken : (row earlier : List Call) → ℕ
  taken [] earlier = 0
  taken (call ∷ row) earlier =
      cond (is_tick_with (λ t. accepts (map slackened row ++ earlier) (ticks (slack t))) call) (suc (taken row earlier)) (taken row earlier)

  abbrev premises : (earlier row : List Call) → Tick → Bool
  premises earlier row t =
      let past = log (machine_of replies) earlier in
      in_motor_run past
      && is_row (numbers_of past) (ticks t ∷ row) earlier
      && accepts (map slackened row ++ earlier) (ticks (slack t))
      && not (enabled 7 (numbers_of past) && leb (lock_ticks (numbers_of past)) (stalled_for past + taken row earlier))

  -- enough of an answer to tell these drives; of this drive the whole is proved (StalledRow.antt)
  abbrev pub same : Answer → Answer → Bool
  same a b =
      eqb a.number b.number && eqb a.place b.place && eqb a.state b.state && eqb a.gate b.gate
      && eqb a.live b.live && eqb (nat_abs a.reference) (nat_abs b.reference) && eqb a.position b.position

  abbrev reported : (earlier row : List Call) → Tick → Bool
  reported earlier row t =
      let past = log (machine_of replies) earlier in
      let alike : Answer = answered (map slackened row ++ earlier) (ticks (slack t)) in
      let long : Bool = leb (lock_ticks (numbers_of past)) (stalled_for past + suc (taken row earlier)) in
      same (answered (row ++ earlier) (ticks t)) (cond (enabled 7 (numbers_of past) && long) (tripped_by7 alike) alike)

-- ---- the drives

-- what the drive has counted
abbrev pub counted : Drive → ℕ
counted d = d.run.rotor_lock_ticks

-- in MOTORRUN, at a tick, with so many counted
abbrev after : ℕ → Drive → Call → Reply → Bool
after n d call r = is 4 d.state && leb n (counted d) && is_tick_with (λ t. true) call

-- the reference is dropped
abbrev pub drops : Drive → Drive → Drive
drops before d =
    becomes d d.state d.hall d.flags d.cycles d.ticks d.offsets
    (record {
      slots = d.run.slots;
      rotor_lock_ticks = d.run.rotor_lock_ticks;
      hall_still_ticks = d.run.hall_still_ticks;
      reference = pos 0;
    })
    d.armed
    d.retries

-- it refuses every tick from then on, a low too
abbrev deaf_after : ℕ → Replies
deaf_after n d call = cond (after n d call (reply d call)) (replied 1 9 d) (reply d call)

-- a wrong drive, FaultEnable, and a row of calls, the newest first, before a held tick
abbrev Case : Type 0
Case = Replies × ℕ × List Call

abbrev held : ℕ → List Call
held n = times n (ticks held_tick)

abbrev cases : List Case
cases =
    -- a trip by flag 14 before flag 7 is due, also where that is masked, and after it
    (changed (after 5) (λ before d. with Fault (2 ^ 14) 0 d), 65535, held 9) ∷
    (changed (after 5) (λ before d. with Fault (2 ^ 14) 0 d), 65407, held 9) ∷
    (changed (after 10) (λ before d. with Fault (2 ^ 14) 0 d), 65407, held 10) ∷
    -- a stall in which the reference falls, before flag 7 is due and after it, where it is masked
    (changed (after 5) drops, 65535, held 5) ∷
    (changed (after 9) drops, 65407, held 9) ∷
    -- deaf to every tick
    (deaf_after 5, 65535, held 9) ∷
    -- a cycle that leaves MOTORRUN; a refused tick, a refused load and a cycle between
    (
      changed (λ d call r. is_cycle call && is 4 d.state && leb 5 (counted d)) (put Parking true),
      65535,
      held 4 ++ (shows 1 ∷ held 5),
    ) ∷
    (changed (after 5) (λ before d. with Fault (2 ^ 14) 0 d), 65535, held 4 ++ (refused ∷ loads [] ∷ shows 1 ∷ held 5)) ∷
    []

abbrev earlier : ℕ → List Call
earlier mask = reverse (cold mask 4095 600 ++ (high ∷ []))

abbrev told : Case → Bool
told c = premises c.0 (earlier c.1) c.2 held_tick && not (reported c.0 (earlier c.1) c.2 held_tick)

abbrev right : Case → Bool
right c = premises reply (earlier c.1) c.2 held_tick && reported reply (earlier c.1) c.2 held_tick

pub each_is_told : each told cases ≡ true
unfolding judges computes stalled_for
each_is_told = refl

-- so there are rows of which the statement speaks
pub this_drive_passes : each right cases ≡ true
unfolding judges computes stalled_for
this_drive_passes = refl
