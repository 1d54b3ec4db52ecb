-- Flag 7 stands in the live word of an answer just where the log of calls and answers says so, whichever call it is and in every state.
use Rattle.std.proofs.Common.{Option, None}
use mathlib.Core.Path.{◌≡◌, refl, sym, ap, subst, ◌∙◌}
use mathlib.Core.Bool.{Bool, true, false, not, ◌&&◌, cond, or-false}
use mathlib.Core.List.{List, [], ◌∷◌}
use Prim.Native.Nat.{ℕ, suc, ◌<◌, min}
use native.Mathlib.Omega.{arith}
use lib.Bits.{and_zero_l}
use lib.Dec.{T, eqb, leb}
use lib.Ieee.Bits.{is_true, is_false}
use Rattle.numbers.proofs.Tests.{fails_left}
use Rattle.faults.specs.Word.{bit, flag, ◌or◌}
use Rattle.states.specs.States.{is, turning}
use Rattle.states.specs.declared.State.{State}
use Rattle.states.specs.declared.State.TheVariants.{Stop, OffsetCal, BtsCharge, Fault}
use Rattle.states.proofs.Groups.{turns}
use Rattle.settings.specs.Settings.{meant, FaultEnable}
use Rattle.fields.specs.declared.Cycle.{Cycle}
use Rattle.fields.specs.declared.Tick.{Tick}
use Rattle.motor.specs.Counts.{watched, locked, lasts}
use Rattle.moves.specs.declared.Move.{Move}
use Rattle.moves.specs.declared.Move.TheVariants.{Stay, Enter, Measure, Clear, Retry}
use Rattle.moves.proofs.Ways.{Way, trips, stops, goes_on, calibrates, starts, measures, clears, tries_again, waits, rests, way_of}
use Rattle.moves.proofs.Ways.{goes}
use Rattle.drive.specs.Flags.{always_live, alive}
use Rattle.drive.specs.Answer.{live_word, answer, answer_telling}
use Rattle.verdicts.proofs.Passed.{passed}
use Rattle.drive.specs.Refusals.{tick_rows}
use Rattle.drive.specs.Calls.{loaded, sample, judged_by, cycled}
use Rattle.drive.specs.Blocks.{block_numbers, marked}
use Rattle.hall.specs.declared.fate.Fate.{Fate}
use Rattle.drive.specs.declared.answer.Reply.{Reply}
use Rattle.drive.proofs.EachCall.{each_call}
use Rattle.drive.specs.Ticks.{watch, standing, raised, armed_by, nth, grounds, moved, ticked}
use Rattle.drive.specs.declared.Drive.{Drive}
use Rattle.drive.specs.AnyCall.{Call, loads, cycles, ticks, block_loads, reply}
use Rattle.theorems_history.specs.Log.{state_after, log}
use Rattle.theorems_history.specs.Onlooker.{tick, neither, heard, is_load, memory_of}
use Rattle.theorems_reached.specs.Machine.{machine}
use Rattle.theorems_reached.specs.Reached.{Reached}
use Rattle.theorems_reached.proofs.Keeps.{every_reached}
use Rattle.theorems_reached.proofs.Loads.{at_least}
use Rattle.onlooker.specs.Words.{words, asked, enabled}
use Rattle.theorems_demands.specs.Stalled.{Log, numbers_of, in_motor_run, one_more, stalled_for, lock_ticks, shows7, FlagSevenIsShown}
use Rattle.theorems_demands.proofs.Remembers.{Remembers}
use Rattle.theorems_demands.proofs.Lawful.{remembered}
use Rattle.theorems_demands.proofs.Shown.{made, answer_shows}
use Rattle.theorems_demands.proofs.Tests.{never_both}
use Rattle.theorems_demands.proofs.Held.{Counted, needed, full_alike, held_alike, all_counted}
use Rattle.theorems_demands.proofs.FlagSeven as seven

-- cause 7, and the row of the log
alike :
    (running holds : Bool) (k limit count : ℕ)
    → 0 < limit
    → (T running → count ≡ min k limit)
    → (running && lasts limit holds count) ≡ (running && leb limit (cond (running && holds) (suc k) 0))
alike true holds k limit count some same = rw (same tt) (full_alike holds k limit some)
alike false holds k limit count some same = refl

-- of a refused call he hears nothing
unheard_refusal :
    (call : Call) (number at : ℕ) (left : Drive)
    → eqb number 0 ≡ false
    → heard words (made call (answer number at left)) ≡ neither
unfolding answer_telling
unheard_refusal call number at left given = rw given

-- an accepted load clears every flag
loaded_shown :
    (past : Log) (call : Call) (numbers : List ℕ)
    → T (is_load words (asked call))
    → bit 7 (live_word (loaded numbers)) ≡ shows7 (made call (answer 0 0 (loaded numbers)) ∷ past)
unfolding answer_telling shows7
loaded_shown past call numbers loads_it =
    rw (is_true (is_load words (asked call)) loads_it)

module _ (d : Drive) (r : Reached d) (past : Log) (knows : Remembers d (memory_of words past)) (counted : Counted d past) where
  -- an accepted tick
  module _ (t : Tick) (outside : T (not (is 0 d.state))) where
    -- cause 7 stands where the log tells a row that is long enough
    pub lock_alike :
        seven.lock d t
        ≡ (in_motor_run past && leb (lock_ticks (numbers_of past))
        (one_more (numbers_of past) (in_motor_run past) (tick t) (stalled_for past)))
    unfolding watched
    lock_alike =
        rw (knows.shown, held_alike d past knows counted t outside, (knows.loaded outside).setting 6 (omega arith))
        (alike (is 4 d.state) (locked d.settings t) (stalled_for past) (needed d) d.run.rotor_lock_ticks
        (omega (arith, at_least (r.settings outside) 6 (omega arith)))
        counted)

    pub enabled_alike : enabled 7 (numbers_of past) ≡ bit 7 (FaultEnable d.settings)
    enabled_alike = rw ((knows.loaded outside).setting 1 (omega arith))

    abbrev next : Move → Drive
    next move = moved d t (watch d t) (raised d t) (armed_by d t) (nth d) move

    module _ (shown : bit 7 (live_word d) ≡ shows7 past) where
      -- a tick that leaves the flags as it raised them, and does not leave FAULT
      stays :
          (after : Drive)
          → live_word after ≡ alive d.settings (raised d t)
          → T (not (is 5 d.state && not (is 5 after.state)))
          → bit 7 (live_word after) ≡ shows7 (made (ticks t) (answer 0 0 after) ∷ past)
      unfolding answer_telling shows7 stalled_for
      stays after live no-exit =
          ap (bit 7) live
          ∙ seven.raises_7 d t
          ∙ rw (
            shown,
            lock_alike,
            ← enabled_alike,
            knows.shown,
            is_false (is 5 d.state && not (is 5 after.state)) no-exit,
          )

      -- .. and one that leaves FAULT has cleared them
      exits :
          (after : Drive)
          → T (is 5 d.state)
          → T (not (is 5 after.state))
          → after.flags ≡ 0
          → bit 7 (live_word after) ≡ shows7 (made (ticks t) (answer 0 0 after) ∷ past)
      unfolding answer_telling shows7
      exits after fault left none =
          rw (
            none,
            and_zero_l (always_live or FaultEnable after.settings),
            knows.shown,
            is_true (is 5 d.state) fault,
            is_false (is 5 after.state) left,
          )

      from_outside : (after : Drive) → T (not (is 5 d.state)) → T (not (is 5 d.state && not (is 5 after.state)))
      from_outside after outside-fault = fails_left (is 5 d.state) (not (is 5 after.state)) outside-fault

      by_way :
          {s : State} {m : Move}
          → s ≡ d.state
          → Way (grounds d t (standing d t) (raised d t)) s m
          → bit 7 (live_word (next m)) ≡ shows7 (made (ticks t) (answer 0 0 (next m)) ∷ past)
      by_way at (trips free tripped) =
          stays (next (Enter Fault)) refl (from_outside (next (Enter Fault)) (subst (λ (s : State). T (not (is 5 s))) at free))
      by_way at (stops runs low calm) =
          stays (next (Enter Stop)) refl
          (from_outside (next (Enter Stop)) (turns d.state (subst (λ (s : State). T (turning s)) at runs)).not_fault)
      by_way at (goes_on {next = onto} onward quiet calm) =
          stays (next (Enter onto)) refl
          (from_outside (next (Enter onto)) (turns d.state (subst (λ (s : State). T (turning s)) at (goes onward).0)).not_fault)
      by_way at (calibrates unmeasured calm) =
          stays (next (Enter OffsetCal)) refl (from_outside (next (Enter OffsetCal)) (rw (← at) tt))
      by_way at (starts measured armed high calm) =
          stays (next (Enter BtsCharge)) refl (from_outside (next (Enter BtsCharge)) (rw (← at) tt))
      by_way at (measures done calm) = stays (next Measure) refl (from_outside (next Measure) (rw (← at) tt))
      by_way at (clears free clear) = exits (next Clear) (rw (← at) tt) tt refl
      by_way at (tries_again free held mode late few) = exits (next Retry) (rw (← at) tt) tt refl
      by_way at (waits lacks quiet calm) = stays (next Stay) refl (never_both (is 5 d.state))
      by_way at (rests stands calm) = stays (next Stay) refl (never_both (is 5 d.state))

      tick_shown : bit 7 (live_word (ticked d t)) ≡ shows7 (made (ticks t) (answer 0 0 (ticked d t)) ∷ past)
      unfolding ticked
      tick_shown = by_way refl (way_of (grounds d t (standing d t) (raised d t)))

  module _ (shown : bit 7 (live_word d) ≡ shows7 past) where
    -- a call of which he hears nothing, that leaves the state and adds no flag 7
    passes :
        (judged : Option Fate) (call : Call) (after : Drive) (number at : ℕ)
        → after.state ≡ d.state
        → heard words (made call (answer_telling judged number at after)) ≡ neither
        → bit 7 (live_word after) ≡ bit 7 (live_word d)
        → bit 7 (live_word after) ≡ shows7 (made call (answer_telling judged number at after) ∷ past)
    unfolding answer_telling shows7
    passes judged call after number at stayed unheard same =
        same
        ∙ shown
        ∙ rw (unheard, knows.shown, stayed, is_false (is 5 d.state && not (is 5 d.state)) (never_both (is 5 d.state)))
        (sym (or-false (shows7 past)))

    refused :
        (call : Call) (number at : ℕ)
        → eqb number 0 ≡ false
        → bit 7 (live_word d) ≡ shows7 (made call (answer number at d) ∷ past)
    refused call number at given = passes None call d number at refl (unheard_refusal call number at d given) refl

    -- a refused block load may set flag 12
    refused_marked :
        (call : Call) (number at : ℕ)
        → eqb number 0 ≡ false
        → bit 7 (live_word (marked d)) ≡ shows7 (made call (answer number at (marked d)) ∷ past)
    refused_marked call number at given =
        passes None call (marked d) number at refl (unheard_refusal call number at (marked d) given)
        (seven.no_7 d.settings d.flags (flag 12 true) refl)

    -- and a cycle flag 15
    cycle_shown :
        (c : Cycle)
        → bit 7 (live_word (cycled d c)) ≡ shows7 (made (cycles c) (answer_telling (judged_by d c) 0 0 (cycled d c)) ∷ past)
    unfolding answer_telling cycled
    cycle_shown c =
        passes (judged_by d c) (cycles c) (cycled d c) 0 0 refl refl
        (seven.no_7 d.settings d.flags (flag 15 (sample d c).flagged) (only_15 (sample d c).flagged))
      where
        only_15 : (set : Bool) → bit 7 (flag 15 set) ≡ false
        only_15 true = refl
        only_15 false = refl

    after_call : (call : Call) → bit 7 (live_word (reply d call).drive) ≡ shows7 (made call (reply d call).answer ∷ past)
    after_call =
        each_call d (λ (call : Call) (a : Reply). bit 7 (live_word a.drive) ≡ shows7 (made call a.answer ∷ past))
        (record {
          loads_it = λ given none. loaded_shown past (loads given) (meant given) tt;
          loads_a_block = λ image block none. loaded_shown past (block_loads image block) (meant (block_numbers image block)) tt;
          cycles_on = λ c none. cycle_shown c;
          ticks_on = λ t none. tick_shown t (passed (tick_rows d t) tt none).0 shown;
          refuses = λ call number at dark given. refused call number at given;
          refuses_marked = λ image block number at lit given. refused_marked (block_loads image block) number at given;
        })

-- after every sequence of calls
all_shown : (calls : List Call) → bit 7 (live_word (state_after machine calls)) ≡ shows7 (log machine calls)
unfolding state_after log shows7
all_shown [] = refl
all_shown (call ∷ earlier) =
    after_call (state_after machine earlier) (every_reached earlier) (log machine earlier) (remembered earlier) (all_counted earlier)
    (all_shown earlier)
    call

pub flag_seven_is_shown : FlagSevenIsShown
unfolding state_after log
flag_seven_is_shown call earlier = ap (bit 7) (answer_shows (state_after machine earlier) call) ∙ all_shown (call ∷ earlier)
