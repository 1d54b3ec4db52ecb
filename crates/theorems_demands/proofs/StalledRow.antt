-- A whole row of held ticks, from MOTORRUN on, with whatever calls between them: none of these ends it before flag 7 does.
use Rattle.std.proofs.Common.{None}
use mathlib.Core.Path.{◌≡◌, refl, sym, ap, ◌∙◌}
use mathlib.Core.Bool.{Bool, true, false, not, ◌&&◌, cond}
use mathlib.Core.List.{List, [], ◌∷◌, ◌++◌}
use Prim.Native.Nat.{ℕ, suc, ◌+◌}
use native.Mathlib.Omega.{arith}
use native.Mathlib.Nat.{add-suc}
use lib.Dec.{T, eqb, leb, le→leb}
use lib.Ieee.Bits.{is_true, is_false}
use mir.Facts.{T_not, and_yes, yes_and, eqb_yes, leb_yes}
use Rattle.numbers.proofs.Tests.{decide, contrary, or_right}
use Rattle.settings.specs.Settings.{FaultEnable}
use Rattle.states.specs.States.{is}
use Rattle.states.proofs.Every.{at_every}
use Rattle.fields.specs.declared.Cycle.{Cycle}
use Rattle.fields.specs.declared.Tick.{Tick}
use Rattle.verdicts.specs.Table.{verdict}
use Rattle.faults.specs.Word.{bit}
use Rattle.drive.specs.Answer.{answer, answer_telling, reply as replied}
use Rattle.drive.specs.Refusals.{tick_rows}
use Rattle.drive.specs.Calls.{judged_by, cycled}
use Rattle.drive.specs.Blocks.{marked}
use Rattle.drive.specs.Ticks.{ticked}
use Rattle.drive.specs.AnyCall.{Call, loads, cycles, ticks, block_loads, reply}
use Rattle.drive.specs.declared.Drive.{Drive}
use Rattle.drive.specs.declared.answer.Reply.{Reply}
use Rattle.drive.proofs.EachCall.{each_call}
use Rattle.theorems_history.specs.Log.{state_after, log}
use Rattle.theorems_history.specs.Onlooker.{tick, neither, heard, is_tick, memory_of}
use Rattle.theorems_reached.specs.Machine.{machine}
use Rattle.theorems_reached.specs.Reached.{Loaded}
use Rattle.theorems_reached.proofs.Keeps.{every_reached}
use Rattle.onlooker.specs.Words.{words, asked, enabled}
use Rattle.theorems_demands.specs.Stalled.{in_motor_run, numbers_of, stalls, stalled_for, lock_ticks, slack, answered, tripped_by7}
use Rattle.theorems_demands.specs.Stalled.{long, slackened, torqueless, held, Row, ticks_now, taken, StalledPumpIsReported}
use Rattle.theorems_demands.proofs.Lawful.{remembered}
use Rattle.theorems_demands.proofs.Shown.{made}
use Rattle.theorems_demands.proofs.Torque.{unrefused, accepted, with_torque_lem}
use Rattle.theorems_demands.proofs.Eased.{Alike, itself}
use Rattle.theorems_demands.proofs.FlagSeven as seven
use Rattle.theorems_demands.proofs.TorqueAlone.{shown_alike, ticked_alike}
use Rattle.theorems_demands.proofs.EasedCalls.{no_load, no_block_load, no_tick_either, still_alike}
use Rattle.theorems_demands.proofs.Stalled.{flag_seven_is_exact}

-- ---- in MOTORRUN, a call that is no accepted tick

module _ (d : Drive) (running : T (is 4 d.state)) where
  -- what he hears of it, and the state that it leaves
  abbrev Passes : Call → Reply → Type 0
  Passes call a =
      T (not (is_tick words (heard words (made call a.answer))))
      → (heard words (made call a.answer) ≡ neither)
      × T (is 4 a.drive.state)

  refused :
      (call : Call) (left : Drive) (number at : ℕ)
      → T (is 4 left.state)
      → eqb number 0 ≡ false
      → T (not (is_tick words (heard words (made call (answer number at left)))))
      → (heard words (made call (answer number at left)) ≡ neither) × T (is 4 left.state)
  unfolding answer_telling
  refused call left number at still given none = (rw given, still)

  cycle_passes :
      (c : Cycle)
      → T (not (is_tick words (heard words (made (cycles c) (answer_telling (judged_by d c) 0 0 (cycled d c))))))
      → (heard words (made (cycles c) (answer_telling (judged_by d c) 0 0 (cycled d c))) ≡ neither) × T (is 4 (cycled d c).state)
  unfolding answer_telling cycled
  cycle_passes c none = (refl, running)

  tick_passes :
      (t : Tick)
      → T (not (is_tick words (heard words (made (ticks t) (answer 0 0 (ticked d t))))))
      → (heard words (made (ticks t) (answer 0 0 (ticked d t))) ≡ neither) × T (is 4 (ticked d t).state)
  unfolding answer_telling
  tick_passes t none = absurd none

  passes : (call : Call) → Passes call (reply d call)
  passes =
      each_call d Passes
      (record {
        loads_it = λ numbers none. no_load d running numbers none;
        loads_a_block = λ image block none. no_block_load d running image block none;
        cycles_on = λ c none. cycle_passes c;
        ticks_on = λ t none. tick_passes t;
        refuses = λ call number at dark. refused call d number at running;
        refuses_marked = λ image block number at lit. refused (block_loads image block) (marked d) number at running;
      })

-- a call that asks something else is no tick, and what he hears of a tick was accepted
no_tick : {C : Type 0} (past : List Call) (call : Call) → T (not (is_tick words (asked call))) → T (ticks_now past call) → C
no_tick {C} past call other = go (eqb (machine.answer (state_after machine past) call).number 0)
  where
    go : (test : Bool) → T (is_tick words (cond test (asked call) neither)) → C
    go true is = absurd (T_not (is_tick words (asked call)) is other)
    go false is = absurd is

heard_tick : (test : Bool) (t : Tick) → T (is_tick words (cond test (tick t) neither)) → T test
heard_tick true t is = tt
heard_tick false t is = is

-- ---- one tick more

module _ (earlier : List Call) (t : Tick) (runs : T (in_motor_run (log machine earlier))) (accepts : (answered earlier t).number ≡ 0) where
  -- where it stalls, it makes the row longer by one
  longer :
      T (stalls (numbers_of (log machine earlier)) t)
      → stalled_for (log machine (ticks t ∷ earlier)) ≡ suc (stalled_for (log machine earlier))
  unfolding log stalled_for
  longer stalling =
      rw (accepts, is_true (in_motor_run (log machine earlier)) runs, is_true (stalls (numbers_of (log machine earlier)) t) stalling)

  same_numbers : numbers_of (log machine (ticks t ∷ earlier)) ≡ numbers_of (log machine earlier)
  unfolding log memory_of
  same_numbers = rw accepts

  still_running : (answered earlier t).state ≡ 4 → T (in_motor_run (log machine (ticks t ∷ earlier)))
  unfolding log memory_of
  still_running at = rw at tt

-- ---- the row

-- after these calls the drive still runs, under the same settings; the log has counted each of their ticks; and without torque it would be
-- alike
record Going (row earlier : List Call) : Type 0 where
  running : T (in_motor_run (log machine (row ++ earlier)))
  same : numbers_of (log machine (row ++ earlier)) ≡ numbers_of (log machine earlier)
  count : stalled_for (log machine (row ++ earlier)) ≡ stalled_for (log machine earlier) + taken row earlier
  alike : Alike (state_after machine (row ++ earlier)) (state_after machine (torqueless row earlier))

module _ (earlier : List Call) (runs : T (in_motor_run (log machine earlier))) where
  abbrev numbers : List ℕ
  numbers = numbers_of (log machine earlier)

  abbrev before : ℕ
  before = stalled_for (log machine earlier)

  -- flag 7 would trip after so many ticks of these calls
  abbrev due : ℕ → Bool
  due n = enabled 7 numbers && leb (lock_ticks numbers) (before + n)

  -- .. and then after one more
  sooner : (n : ℕ) → T (not (due (suc n))) → T (not (due n))
  sooner n =
      contrary (due n) (due (suc n))
      (λ now.
      let (on, enough) = and_yes (enabled 7 numbers) (leb (lock_ticks numbers) (before + n)) now in
      yes_and (enabled 7 numbers) (leb (lock_ticks numbers) (before + suc n)) on
      (le→leb (lock_ticks numbers) (before + suc n) (omega (arith, leb_yes {a = lock_ticks numbers} {b = before + n} enough))))

  module _ (row : List Call) (going : Going row earlier) where
    abbrev past : List Call
    past = row ++ earlier

    abbrev eased : List Call
    eased = torqueless row earlier

    -- the drive, and the one without torque
    abbrev d : Drive
    d = state_after machine past

    abbrev other : Drive
    other = state_after machine eased

    running : T (is 4 d.state)
    running = rw (remembered past).shown at going.running

    loaded : Loaded d.settings
    loaded = (every_reached past).settings (at_every (is 4) (λ s. not (is 0 s)) tt d.state running)

    -- the next tick, which the other accepts without its torque
    module _ (t : Tick) (free : (answered eased (slack t)).number ≡ 0) (holds : held numbers eased (ticks t)) where
      other_unrefused : (verdict (tick_rows other (slack t))).number ≡ 0
      other_unrefused = unrefused other (slack t) free

      slack_unrefused : (verdict (tick_rows d (slack t))).number ≡ 0
      slack_unrefused = sym (ap (λ (drive : Drive). (verdict (tick_rows drive (slack t))).number) going.alike.same) ∙ other_unrefused

      -- so is it with its torque
      replies : reply d (ticks t) ≡ replied 0 0 (ticked d t)
      replies = accepted d t (with_torque_lem d t (holds free).0 slack_unrefused)

      accepts : (answered past t).number ≡ 0
      unfolding answer_telling
      accepts = ap (λ (r : Reply). r.answer.number) replies

      -- without its torque both answer alike
      other_replies : reply other (ticks (slack t)) ≡ replied 0 0 (ticked other (slack t))
      other_replies = accepted other (slack t) other_unrefused

      slack_alike : answered past (slack t) ≡ answered eased (slack t)
      slack_alike =
          let unset : (seven.lock d (slack t) && bit 7 (FaultEnable d.settings)) ≡ false = rw (seven.unlocked d t loaded) in
          ap (λ (r : Reply). r.answer) (accepted d (slack t) slack_unrefused)
          ∙ shown_alike (ticked d (slack t)) (ticked other (slack t))
          (ticked_alike d other going.alike (slack t) loaded unset) None 0 0
          ∙ sym (ap (λ (r : Reply). r.answer) other_replies)

      stalling : T (stalls (numbers_of (log machine past)) t)
      stalling = rw going.same (holds free).1

      long_now : long past t ≡ leb (lock_ticks numbers) (before + suc (taken row earlier))
      long_now = rw (longer past t going.running accepts stalling, going.same, going.count, add-suc before (taken row earlier))

      answers :
          answered past t
          ≡ cond (due (suc (taken row earlier))) (tripped_by7 (answered eased (slack t))) (answered eased (slack t))
      answers =
          let set : (enabled 7 (numbers_of (log machine past)) && long past t) ≡ due (suc (taken row earlier)) =
          rw (long_now, going.same)
          in
          let runs_on : (answered past (slack t)).state ≡ 4 = rw slack_alike (holds free).2 in
          rw (← set, ← slack_alike) ((flag_seven_is_exact past t going.running accepts).alone runs_on)

      with_tick : T (not (due (suc (taken row earlier)))) → Going (ticks t ∷ row) earlier
      unfolding taken state_after
      with_tick short =
          let there : (answered past t).state ≡ 4 =
          rw (rw (is_false (due (suc (taken row earlier))) short) at answers) (holds free).2
          in
          record {
            running = still_running past t going.running accepts there;
            same = same_numbers past t going.running accepts ∙ going.same;
            count =
                longer past t going.running accepts stalling
                ∙ rw (free, going.count) (sym (add-suc before (taken row earlier)));
            alike =
                rw (ap (λ (r : Reply). r.drive) replies, ap (λ (r : Reply). r.drive) other_replies)
                (ticked_alike d other going.alike t loaded
                (seven.unset d running t (sym (ap (λ (r : Reply). r.answer.state) replies) ∙ there)));
          }

    -- any other call
    with_other : (call : Call) → T (not (ticks_now eased (slackened call))) → Going (call ∷ row) earlier
    unfolding taken log memory_of stalled_for state_after
    with_other call none =
        let real = no_tick_either d other going.alike running call none in
        let (unheard, still) = passes d running call real in
        record {
          running = rw (remembered (call ∷ past)).shown still;
          same = rw unheard going.same;
          count = rw (unheard, is_false (ticks_now eased (slackened call)) none) going.count;
          alike = still_alike d other going.alike running call none;
        }

  -- until flag 7 trips, the row goes on
  grown :
      (row : List Call) (call : Call)
      → held numbers (torqueless row earlier) call
      → (T (not (due (taken row earlier))) → Going row earlier)
      → T (not (due (taken (call ∷ row) earlier)))
      → T (ticks_now (torqueless row earlier) (slackened call))
      → Going (call ∷ row) earlier
  unfolding taken
  grown row (loads given) holds going short now = no_tick (torqueless row earlier) (loads given) tt now
  grown row (cycles c) holds going short now = no_tick (torqueless row earlier) (cycles c) tt now
  grown row (ticks t) holds going short now =
      let eased : List Call = torqueless row earlier in
      let free : (answered eased (slack t)).number ≡ 0 = eqb_yes (heard_tick (eqb (answered eased (slack t)).number 0) (slack t) now) in
      let short-now : T (not (due (suc (taken row earlier)))) = rw free at short in
      with_tick row (going (sooner (taken row earlier) short-now)) t free holds short-now
  grown row (block_loads image block) holds going short now = no_tick (torqueless row earlier) (block_loads image block) tt now

  goes : (row : List Call) → Row row earlier → T (not (due (taken row earlier))) → Going row earlier
  unfolding Row taken
  goes [] all short = record { running = runs; same = refl; count = omega arith; alike = itself (state_after machine earlier) }
  goes (call ∷ row) (holds, all) short =
      decide (ticks_now (torqueless row earlier) (slackened call)) (grown row call holds (goes row all) short)
      (λ none.
      with_other row
      (goes row all (rw (is_false (ticks_now (torqueless row earlier) (slackened call)) none) at short))
      call
      none)

pub stalled_pump_is_reported : StalledPumpIsReported
unfolding Row
stalled_pump_is_reported earlier row t runs (holds, all) free short =
    let going = goes earlier runs row all short in
    let exact =
    flag_seven_is_exact (row ++ earlier) t going.running (accepts earlier runs row going t free holds)
    in
    record {
      answers = answers earlier runs row going t free holds;
      stands = λ enough.
          rw (exact.stands, long_now earlier runs row going t free holds)
          (or_right (bit 7 (state_after machine (row ++ earlier)).flags) _ enough);
    }
