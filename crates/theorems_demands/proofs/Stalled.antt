-- A stalled pump is reported: flag 7 is what the log tells, exactly, and a whole row of held ticks leads to it.
use mathlib.Core.Path.{◌≡◌, refl, sym, ap, ◌∙◌}
use mathlib.Core.Bool.{Bool, true, false, not, ◌&&◌, cond, and_comm, ◌||◌}
use mathlib.Core.List.{List}
use Prim.Native.Nat.{ℕ}
use native.Mathlib.Omega.{arith}
use lib.Dec.{T, eqb}
use lib.Ieee.Bits.{is_true}
use Rattle.faults.specs.Word.{bit, flag, ◌or◌}
use Rattle.faults.proofs.Bits.{bit_or_lem}
use Rattle.states.specs.States.{is}
use Rattle.states.proofs.Every.{at_every}
use Rattle.settings.specs.Settings.{FaultEnable}
use Rattle.fields.specs.declared.Tick.{Tick}
use Rattle.verdicts.specs.Table.{verdict}
use Rattle.drive.specs.Answer.{answer}
use Rattle.drive.specs.Command.{low}
use Rattle.drive.specs.Refusals.{tick_rows}
use Rattle.drive.specs.Ticks.{raised, ticked}
use Rattle.drive.specs.Flags.{alive}
use Rattle.drive.specs.AnyCall.{Call, ticks}
use Rattle.drive.specs.declared.Drive.{Drive}
use Rattle.drive.specs.declared.answer.Reply.{Reply}
use Rattle.theorems_history.specs.Log.{state_after, log}
use Rattle.theorems_history.specs.Onlooker.{memory_of}
use Rattle.theorems_reached.specs.Machine.{machine}
use Rattle.theorems_reached.specs.Reached.{Reached}
use Rattle.theorems_reached.proofs.Keeps.{every_reached}
use Rattle.onlooker.specs.Words.{words, enabled, low_of}
use Rattle.theorems_demands.specs.Stalled.{Log, in_motor_run, numbers_of, stalled_for, slack, answered, tripped_by7}
use Rattle.theorems_demands.specs.Stalled.{long, FlagSevenIsExact}
use Rattle.theorems_demands.proofs.Remembers.{Remembers}
use Rattle.theorems_demands.proofs.Lawful.{remembered}
use Rattle.theorems_demands.proofs.Torque.{unrefused, accepted, without}
use Rattle.theorems_demands.proofs.Held.{all_counted}
use Rattle.theorems_demands.proofs.FlagSevenShown.{lock_alike, enabled_alike}
use Rattle.theorems_demands.proofs.FlagSeven as seven

other_way : {A : Type 0} (test : Bool) (a b : A) → cond (not test) a b ≡ cond test b a
other_way true a b = refl
other_way false a b = refl

module _ (earlier : List Call) (t : Tick) (runs : T (in_motor_run (log machine earlier))) (taken : (answered earlier t).number ≡ 0) where
  abbrev d : Drive
  d = state_after machine earlier

  abbrev past : Log
  past = log machine earlier

  abbrev numbers : List ℕ
  numbers = numbers_of past

  knows : Remembers d (memory_of words past)
  knows = remembered earlier

  r : Reached d
  r = every_reached earlier

  running : T (is 4 d.state)
  running = rw knows.shown at runs

  outside : T (not (is 0 d.state))
  outside = at_every (is 4) (λ s. not (is 0 s)) tt d.state running

  -- the tick, with its torque and without
  none : (verdict (tick_rows d t)).number ≡ 0
  none = unrefused d t taken

  answer_is : answered earlier t ≡ answer 0 0 (ticked d t)
  answer_is = ap (λ (a : Reply). a.answer) (accepted d t none)

  left_is : machine.step d (ticks t) ≡ ticked d t
  left_is = ap (λ (a : Reply). a.drive) (accepted d t none)

  slack_is : answered earlier (slack t) ≡ answer 0 0 (ticked d (slack t))
  slack_is = ap (λ (a : Reply). a.answer) (accepted d (slack t) (without d t none))

  -- ---- what the log tells, and what the drive counts

  long_enough : long earlier t ≡ seven.lock d t
  unfolding log stalled_for
  long_enough =
      let here : in_motor_run past ≡ true = is_true (in_motor_run past) runs in
      rw (taken, here) (sym (rw here at (lock_alike d r past knows (all_counted earlier) t outside)))

  on : enabled 7 numbers ≡ bit 7 (FaultEnable d.settings)
  on = enabled_alike d r past knows (all_counted earlier) t outside

  low_alike : low_of numbers t ≡ low d.settings t
  low_alike = rw ((knows.loaded outside).setting 0 (omega arith), (knows.loaded outside).setting 21 (omega arith))

  set_alike : (enabled 7 numbers && long earlier t) ≡ (seven.lock d t && bit 7 (FaultEnable d.settings))
  set_alike = rw (on, long_enough) (and_comm (bit 7 (FaultEnable d.settings)) (seven.lock d t))

  -- ---- the tick's answer

  shown_is : bit 7 (answered earlier t).live ≡ (enabled 7 numbers && long earlier t)
  shown_is = rw (set_alike, answer_is, seven.live_after d running t) (seven.shows_7 d running t r)

  moves_is : (answered earlier t).state ≡ cond (eqb (answered earlier t).live 0) (cond (low_of numbers t) 1 4) 5
  moves_is =
      rw (answer_is, seven.live_after d running t, low_alike, seven.state_after_lem d running t)
      (other_way (eqb (alive d.settings (raised d t)) 0) 5 (cond (low d.settings t) 1 4))

  stands_is : bit 7 (machine.step d (ticks t)).flags ≡ (bit 7 d.flags || long earlier t)
  stands_is =
      ap (λ (after : Drive). bit 7 after.flags) left_is
      ∙ ap (bit 7) (seven.flags_after d running t ∙ ap (λ (causes : ℕ). d.flags or causes) (seven.parted d t))
      ∙ bit_or_lem 7 d.flags (seven.others d t or flag 7 (seven.lock d t))
      ∙ ap (λ (now : Bool). bit 7 d.flags || now) (bit_or_lem 7 (seven.others d t) (flag 7 (seven.lock d t)))
      ∙ rw (seven.not_among d t, seven.own (seven.lock d t), long_enough)

  alone_is :
      (answered earlier (slack t)).state ≡ 4
      → answered earlier t
      ≡ cond (enabled 7 numbers && long earlier t) (tripped_by7 (answered earlier (slack t))) (answered earlier (slack t))
  alone_is runs_on = rw (set_alike, answer_is, slack_is) (seven.only_7 d running t (r.settings outside) (rw slack_is at runs_on))

pub flag_seven_is_exact : FlagSevenIsExact
flag_seven_is_exact earlier t runs taken =
    record {
      shown = shown_is earlier t runs taken;
      moves = moves_is earlier t runs taken;
      stands = stands_is earlier t runs taken;
      alone = alone_is earlier t runs taken;
    }
