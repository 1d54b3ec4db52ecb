-- What the drive counts for bit 7 is what the log tells: how many ticks in a row were held, up to the number that it waits for.
use mathlib.Core.Path.{◌≡◌, refl, sym}
use mathlib.Core.Bool.{Bool, true, false, not, ◌&&◌, cond}
use mathlib.Core.List.{List, [], ◌∷◌}
use Prim.Native.Nat.{ℕ, suc, ◌+◌, ◌*◌, ◌<◌, min}
use native.Mathlib.Omega.{arith}
use lib.Dec.{T, eqb, leb}
use lib.Ieee.Bits.{is_true, is_false}
use mir.Facts.{not_T, yes_eqb, no_eqb, leb_yes, leb_no}
use Rattle.numbers.proofs.Tests.{decide}
use Rattle.states.specs.States.{is}
use Rattle.states.specs.declared.State.{State}
use Rattle.settings.specs.Settings.{RotorLockTime}
use Rattle.motor.specs.Counts.{watched, locked, lasting, lasts}
use Rattle.fields.specs.declared.Cycle.{Cycle}
use Rattle.fields.specs.declared.Tick.{Tick}
use Rattle.verdicts.proofs.Passed.{passed}
use Rattle.moves.specs.declared.Grounds.{Grounds}
use Rattle.moves.specs.declared.Move.{Move}
use Rattle.moves.specs.declared.Move.TheVariants.{Stay, Enter, Measure, Clear, Retry}
use Rattle.moves.proofs.Ways.{Way, Onward, trips, stops, goes_on, calibrates, starts, way_of}
use Rattle.moves.proofs.Ways.{charged, unasked, caught, slow, unsensed, sensed, parked, unramped, fast}
use Rattle.theorems_history.specs.Log.{state_after, log}
use Rattle.theorems_history.specs.Onlooker.{tick, memory_of}
use Rattle.drive.specs.Answer.{answer, answer_telling}
use Rattle.drive.specs.Refusals.{tick_rows}
use Rattle.drive.specs.Calls.{judged_by, cycled}
use Rattle.drive.specs.Blocks.{marked}
use Rattle.drive.specs.Ticks.{watch, standing, raised, armed_by, nth, grounds, moved, ticked}
use Rattle.drive.specs.Ticks as TickCalls
use Rattle.drive.specs.AnyCall.{Call, cycles, ticks, block_loads, reply}
use Rattle.drive.specs.declared.Drive.{Drive}
use Rattle.drive.specs.declared.answer.Reply.{Reply}
use Rattle.drive.proofs.EachCall.{each_call}
use Rattle.theorems_reached.specs.Machine.{machine}
use Rattle.onlooker.specs.Words.{words}
use Rattle.theorems_demands.specs.Stalled.{Log, stalls, one_more, stalled_for}
use Rattle.theorems_demands.proofs.Remembers.{Remembers, flagged}
use Rattle.theorems_demands.proofs.Shown.{made}
use Rattle.theorems_demands.proofs.Lawful.{remembered}

-- the ticks that the drive waits for
abbrev pub needed : Drive → ℕ
needed d = 10 * RotorLockTime d.settings

-- in MOTORRUN it has counted so many
abbrev pub Counted : Drive → Log → Type 0
Counted d past = T (is 4 d.state) → d.run.rotor_lock_ticks ≡ min (stalled_for past) (needed d)

-- a tick that enters MOTORRUN is not taken in it
onward_outside : {g : Grounds} {s next : State} → Onward g s next → T (is 4 next) → is 4 s ≡ false
onward_outside (charged done) at = refl
onward_outside (unasked none) at = refl
onward_outside (caught done above) at = refl
onward_outside (slow done below) at = refl
onward_outside (unsensed none) at = refl
onward_outside (sensed done) at = refl
onward_outside (parked done) at = refl
onward_outside (unramped none) at = refl
onward_outside (fast above) at = refl

enters_from_outside : {g : Grounds} {s next : State} → Way g s (Enter next) → T (is 4 next) → is 4 s ≡ false
enters_from_outside (trips free tripped) at = absurd at
enters_from_outside (stops runs low calm) at = absurd at
enters_from_outside (goes_on onward quiet calm) at = onward_outside onward at
enters_from_outside (calibrates unmeasured calm) at = refl
enters_from_outside (starts measured armed high calm) at = refl

-- the drive's count goes on as the log's does
goes_on_alike : (holds : Bool) (k limit : ℕ) → lasting limit holds (min k limit) ≡ min (cond holds (suc k) 0) limit
goes_on_alike true k limit = omega arith
goes_on_alike false k limit = omega arith

-- and it is full where the row is long enough
pub full_alike : (holds : Bool) (k limit : ℕ) → 0 < limit → lasts limit holds (min k limit) ≡ leb limit (cond holds (suc k) 0)
full_alike true k limit some =
    let count : ℕ = min (min k limit + 1) limit in
    decide (leb limit (suc k))
    (λ yes.
    let enough = leb_yes {a = limit} {b = suc k} yes in
    rw (is_true (leb limit (suc k)) yes) (is_true (eqb count limit) (yes_eqb {a = count} {b = limit} (omega (arith, enough)))))
    (λ no.
    let short = leb_no {a = limit} {b = suc k} no in
    rw (is_false (leb limit (suc k)) no)
    (is_false (eqb count limit) (no_eqb {a = count} {b = limit} (λ same. omega (arith, same, short)))))
full_alike false k limit some =
    sym (is_false (leb limit 0) (not_T (leb limit 0) (λ none. omega (arith, leb_yes {a = limit} {b = 0} none))))

module _ (d : Drive) (past : Log) (knows : Remembers d (memory_of words past)) (counted : Counted d past) where
  abbrev numbers : List ℕ
  numbers = (memory_of words past).numbers

  module _ (t : Tick) (outside : T (not (is 0 d.state))) where
    -- the tick is held by the numbers of the load as by the drive's settings
    pub held_alike : stalls numbers t ≡ locked d.settings t
    held_alike = rw ((knows.loaded outside).setting 12 (omega arith))

    -- with this tick
    abbrev now : ℕ
    now = cond (is 4 d.state && locked d.settings t) (suc (stalled_for past)) 0

    log_now : one_more numbers (eqb (memory_of words past).shown 4) (tick t) (stalled_for past) ≡ now
    log_now = rw (knows.shown, held_alike)

    abbrev next : Move → Drive
    next move = moved d t (watch d t) (raised d t) (armed_by d t) (nth d) move

    by_move :
        (move : Move)
        → Way (grounds d t (standing d t) (raised d t)) d.state move
        → T (is 4 (next move).state)
        → (next move).run.rotor_lock_ticks ≡ min now (needed (next move))
    unfolding watched
    by_move Stay way at =
        rw (is_true (is 4 d.state) at, counted at) (goes_on_alike (locked d.settings t) (stalled_for past) (needed d))
    by_move (Enter state) way at = rw (is_true (is 4 state) at, enters_from_outside way at) (omega arith)
    by_move Measure way at = absurd at
    by_move Clear way at = absurd at
    by_move Retry way at = absurd at

    tick_counted : Counted (ticked d t) (made (ticks t) (answer 0 0 (ticked d t)) ∷ past)
    unfolding answer_telling ticked stalled_for
    tick_counted at = rw log_now (by_move (TickCalls.chosen d t) (way_of (grounds d t (standing d t) (raised d t))) at)

  -- a refused call changes neither count
  refused :
      (call : Call) (number at flags : ℕ)
      → eqb number 0 ≡ false
      → (let left : Drive = flagged d flags in Counted left (made call (answer number at left) ∷ past))
  unfolding answer_telling stalled_for
  refused call number at flags given running = rw given (counted running)

  -- .. and neither does a cycle
  cycle_counted : (c : Cycle) → Counted (cycled d c) (made (cycles c) (answer_telling (judged_by d c) 0 0 (cycled d c)) ∷ past)
  unfolding answer_telling cycled stalled_for
  cycle_counted c = counted

  after_call : (call : Call) → Counted (reply d call).drive (made call (reply d call).answer ∷ past)
  after_call =
      each_call d (λ (call : Call) (a : Reply). Counted a.drive (made call a.answer ∷ past))
      (record {
        loads_it = λ given none running. absurd running;
        loads_a_block = λ image block none running. absurd running;
        cycles_on = λ c none. cycle_counted c;
        ticks_on = λ t none. tick_counted t (passed (tick_rows d t) tt none).0;
        refuses = λ call number at dark given. refused call number at d.flags given;
        refuses_marked = λ image block number at lit given. refused (block_loads image block) number at (marked d).flags given;
      })

-- after every sequence of calls
pub all_counted : (calls : List Call) → Counted (state_after machine calls) (log machine calls)
unfolding state_after log
all_counted [] = λ running. absurd running
all_counted (call ∷ earlier) =
    after_call (state_after machine earlier) (log machine earlier) (remembered earlier) (all_counted earlier) call
