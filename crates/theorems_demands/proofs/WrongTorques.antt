-- Wrong drives that read torque where bit 7 does not: each is this drive but for one thing, in its replies, its state and its account of
-- itself alike. `TorqueIsReadByBit7Alone`, asked of the answers with and without torque, tells each of them: no call of the run that is
-- written out sets flag 7, and the last is answered otherwise. Of this drive it holds. antt computes each verdict.
use mathlib.Core.Path.{◌≡◌, refl}
use mathlib.Core.Bool.{Bool, true, not, ◌&&◌, cond}
use mathlib.Core.List.{List, [], ◌∷◌, ◌++◌, map, reverse}
use Prim.Native.Nat.{ℕ, ◌^◌}
use lib.Dec.{eqb, leb}
use lib.IntN.{pos, nat_abs}
use Rattle.states.specs.States.{is}
use Rattle.states.specs.declared.State.TheVariants.{Fault}
use Rattle.drive.specs.Answer.{reply as replied}
use Rattle.drive.specs.AnyCall.{Call, ticks, reply}
use Rattle.drive.specs.declared.Drive.{Drive}
use Rattle.theorems_history.specs.Log.{state_after, entry, log}
use Rattle.theorems_history.proofs.Judges.{judges}
use Rattle.theorems_reached.specs.Machine.{machine_of}
use Rattle.theorems_demands.specs.NamedCalls.{shows, high, low, times, ready}
use Rattle.theorems_demands.specs.Stalled.{sets7, stalled_for, slackened, torque_allowed}
use Rattle.theorems_demands.proofs.Computes.{computes, each}
use Rattle.theorems_demands.proofs.WrongDrives.{Replies}
use Rattle.theorems_demands.proofs.WrongStalls.{changed, with, is_cycle, is_tick_with, cold, cold_load, held_tick, held_in_stop}
use Rattle.theorems_demands.proofs.WrongRows.{answered, same, counted, drops}

-- ---- the statement as a test, of any drive: the calls with the newest first

module _ (replies : Replies) where
  abbrev untripped : (row earlier : List Call) → Bool
  untripped [] earlier = true
  untripped (call ∷ row) earlier =
      torque_allowed call
      && not
      (sets7 (entry (machine_of replies) (state_after (machine_of replies) (row ++ earlier)) call)
      (log (machine_of replies) (row ++ earlier)))
      && untripped row earlier

  abbrev answers_alike : (row earlier : List Call) → Call → Bool
  answers_alike row earlier call =
      same replies (answered replies (row ++ earlier) call) (answered replies (map slackened row ++ earlier) (slackened call))

-- ---- the drives

-- a tick at which the drive meets a torque of 4095
abbrev meets : Call → Bool
meets = is_tick_with (λ t. leb 4095 (nat_abs t.trq_ref))

abbrev is_tick : Call → Bool
is_tick = is_tick_with (λ t. true)

-- a trip by flag 14
abbrev trips14 : Drive → Drive → Drive
trips14 before d = with Fault (2 ^ 14) 0 d

-- torque at the tick that enters MOTORRUN: a count that no drive reaches is left, and the next tick trips by it
abbrev marks : Replies
marks d call =
    cond (is 4 d.state && leb 700000 (counted d) && is_tick call)
    (changed (λ d call r. true) trips14 d call)
    (changed (λ d call r. not (is 4 d.state) && is 4 r.drive.state && meets call) (λ before d. with d.state d.flags 700000 d)
    d call)

-- a stall: five ticks counted
abbrev stalled : Drive → Bool
stalled d = is 4 d.state && leb 5 (counted d)

-- a low is refused in a stall
abbrev deaf_to_lows : Replies
deaf_to_lows d call =
    cond (stalled d && is_tick_with (λ t. eqb t.command 0) call) (replied 1 3 d) (reply d call)

-- a clear waits while there is torque
abbrev holds_fault : Replies
holds_fault d call = cond (is 5 d.state && meets call) (replied 0 0 d) (reply d call)

-- the clear of a tick with torque
abbrev clear_held : Call
clear_held =
    ticks
    (record {
      gate_kill = 0;
      clear = 1;
      command = 1;
      control = 400;
      vdc_raw = 2623;
      vdc_filt = 2623;
      temperature = 1000;
      flx_m = 2048;
      trq_ref = pos 4095;
      speed = pos 0;
      target = pos 700;
    })

-- a wrong drive; calls before the row, and the row, in the order in which they are made; and the last call
abbrev Case : Type 0
Case = Replies × List Call × List Call × Call

abbrev held : ℕ → List Call
held n = times n (ticks held_tick)

abbrev starting : List Call
starting = cold 65535 4095 600

abbrev cases : List Case
cases =
    -- torque on entering MOTORRUN
    (marks, starting, held 1, ticks held_tick) ∷
    -- the free tick that ends a stall; a low in one; a cycle in one
    (changed (λ d call r. stalled d && is_tick call && not (meets call)) trips14, starting ++ (high ∷ []), held 5, high) ∷
    (deaf_to_lows, starting ++ (high ∷ []), held 5, low) ∷
    (changed (λ d call r. stalled d && is_cycle call) drops, starting ++ (high ∷ []), held 5, shows 1) ∷
    -- torque in STOP; torque in FAULT, after a trip by flag 7
    (changed (λ d call r. is 1 d.state && meets call) trips14, ready (cold_load 65535 4095 600), [], held_in_stop) ∷
    (holds_fault, starting ++ (high ∷ held 10), [], clear_held) ∷
    []

abbrev told : Case → Bool
told c =
    let (replies, earlier, row, call) = c in
    untripped replies (call ∷ reverse row) (reverse earlier) && not (answers_alike replies (reverse row) (reverse earlier) call)

abbrev right : Case → Bool
right c =
    let (replies, earlier, row, call) = c in
    untripped reply (call ∷ reverse row) (reverse earlier) && answers_alike reply (reverse row) (reverse earlier) call

pub each_is_told : each told cases ≡ true
unfolding judges computes stalled_for
each_is_told = refl

pub this_drive_passes : each right cases ≡ true
unfolding judges computes stalled_for
this_drive_passes = refl
