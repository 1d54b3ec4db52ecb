-- An accepted tick obeys the laws of demand 3, whichever way its move comes about.
use mathlib.Core.Path.{◌≡◌, refl}
use mathlib.Core.Bool.{Bool, true, false, not, ◌&&◌, ◌||◌}
use mathlib.Core.List.{List}
use Prim.Native.Nat.{ℕ, suc, ◌≤◌, zero-le}
use native.Mathlib.Omega.{arith}
use lib.Dec.{T, leb, le→leb}
use lib.Ieee.Bits.{is_true}
use mir.Facts.{and_yes, yes_and}
use Rattle.theorems_history.specs.Onlooker.{Memory, note}
use Rattle.theorems_history.specs.History.{Seen, ends_start}
use Rattle.theorems_history.specs.Laws.{Step}
use Rattle.numbers.proofs.Tests.{fails_left, fails_right, contrary, never, joins}
use Rattle.theorems_history.proofs.Steps
use Rattle.states.specs.States.{number_of, is, turning}
use Rattle.settings.specs.Settings.{FaultEnable, RetryLimit, mode1}
use Rattle.faults.specs.Word.{any}
use Rattle.faults.proofs.Bits.{old_stays}
use Rattle.drive.specs.Flags.{always_live}
use Rattle.drive.specs.Command.{low, high}
use Rattle.drive.specs.Answer.{live_word, answer, answer_telling}
use Rattle.drive.specs.Calls.{becomes}
use Rattle.drive.specs.Ticks.{watch, standing, raised, alight, armed_by, nth, grounds, chosen, moved, ticked}
use Rattle.drive.specs.AnyCall.{ticks}
use Rattle.moves.proofs.Ways.{Way, trips, stops, goes_on, calibrates, starts, measures, clears, tries_again, waits, rests as unmoved}
use Rattle.moves.proofs.Ways.{goes, way_of}
use Rattle.drive.specs.declared.Drive.{Drive}
use Rattle.fields.specs.declared.Tick.{Tick}
use Rattle.states.specs.declared.State.{State}
use Rattle.states.specs.declared.State.TheVariants.{Idle, Stop, OffsetCal, BtsCharge, MotorRun}
use Rattle.states.specs.declared.State.TheVariants.{Fault, CatchSpin, Parking, OpenLoop, AngleSensing}
use Rattle.moves.specs.declared.Grounds.{Grounds}
use Rattle.moves.specs.declared.Move.{Move}
use Rattle.moves.specs.declared.Move.TheVariants.{Stay, Enter, Measure, Clear, Retry}
use Rattle.states.proofs.Groups.{turns as turning-is}
use Rattle.onlooker.specs.Words.{words, cause_of, dead_cause_of}
use Rattle.theorems_demands.proofs.Tests.{never_both, arming, unarmed, one_state, begins, begins_nothing, runs_on}
use Rattle.theorems_demands.proofs.Causes.{found_blocks, found_trips}
use Rattle.theorems_demands.proofs.Shown.{inside, fault_shown, gates_ask, dark, shows_running, shows_turning}

-- ---- a tick in a state, of a drive whose other fields are anything, with an onlooker who remembers what is so

module _ (d : Drive) (t : Tick) (waited : ℕ) where
  abbrev settings : List ℕ
  settings = d.settings

  abbrev armed : Bool
  armed = d.armed

  -- the drive in this state, and else as it is
  abbrev at : State → Drive
  at state = becomes d state d.hall d.flags d.cycles d.ticks d.offsets d.run d.armed d.retries

  abbrev pub memory : State → Memory
  memory state = record { numbers = settings; shown = number_of state; waited = waited; dead = d.hall.dead_streak }

  abbrev tripped : State → Bool
  tripped state = alight (at state) (raised (at state) t)

  abbrev on : State → Grounds
  on state = grounds (at state) t (standing (at state) t) (raised (at state) t)

  abbrev next : State → Move → Drive
  next state move = moved (at state) t (watch (at state) t) (raised (at state) t) (armed_by (at state) t) (nth (at state)) move

  abbrev note_of : State → Drive → Seen
  note_of state after = note words (memory state) (record { call = ticks t; answer = answer 0 0 after })

  abbrev pub Obeys : State → Drive → Type 0
  Obeys state after = Step (inside (at state)) (note_of state after) (inside after)

  -- what he finds in the tick and the samples
  abbrev found : Bool
  found = cause_of settings t || dead_cause_of settings d.hall.dead_streak

  -- a tick by which the drive turns, with no low and nothing begun but by a start, ends no start
  goes_on_by :
      (state : State) (after : Drive)
      → T (not (low settings t))
      → T (not ((note_of state after).began && not (note_of state after).started))
      → T (inside after).turning
      → T (not (ends_start (note_of state after)))
  unfolding answer_telling
  goes_on_by state after no-low no-new turns =
      let runs = shows_running 0 0 after turns in
      let drives = shows_turning 0 0 after turns in
      search joins

  -- flags that were live stay live
  kept : (state : State) → T (any (live_word (at state))) → T (tripped state)
  kept state = old_stays always_live (FaultEnable settings) d.flags (standing (at state) t)

  -- a drive that turned before, with no low and no live flag, turns on
  turned_before : (state : State) → T (turning state) → T (not (tripped state)) → T (inside (at state)).turning
  turned_before state runs calm =
      yes_and (turning state) (not (any (live_word (at state)))) runs
      (contrary (any (live_word (at state))) (tripped state) (kept state) calm)

  -- where no live cause stands he finds none
  no_cause : T (not (alight (at Fault) (standing (at Fault) t))) → T (not found)
  no_cause = contrary found (alight (at Fault) (standing (at Fault) t)) (found_blocks (at Fault) t)

  module _ (used-few : d.retries ≤ RetryLimit settings) where
    -- a tick that neither starts nor leaves FAULT, and leaves the flags as raised
    module _
        (state : State) (after : Drive)
        (same : after.retries ≡ d.retries)
        (raises : any (live_word after) ≡ tripped state)
        (no_start : T (not (note_of state after).started))
        (none-begun : T (not (note_of state after).began))
        (no-exit : T (not (note_of state after).exited))
        (loaded : T (not (is 0 state)))
        (arms : T after.armed → T (armed || low settings t))
      where
        passes :
            (T (inside after).turning → T (not (ends_start (note_of state after)) && (inside (at state)).turning))
            → Obeys state after
        unfolding answer_telling
        passes turning =
            Steps.passes_by (inside (at state)) (note_of state after) (inside after) (gates_ask 0 0 after) (rw same used-few)
            (fault_shown 0 0 after)
            (λ cause. rw raises (found_trips (at state) t cause))
            (λ was keeps. rw raises (kept state was))
            (dark 0 0 after)
            tt no_start none-begun no-exit
            (λ now. loaded)
            arms
            turning
            same

        -- nothing turns after it
        rests : T (not (turning after.state)) → Obeys state after
        rests still =
            passes (λ now. never (turning after.state) still (and_yes (turning after.state) (not (any (live_word after))) now).0)

    -- a tick that stays
    stays : (state : State) → T (not (is 0 state)) → (T (turning state) → T (not (low settings t))) → Obeys state (next state Stay)
    unfolding answer_telling
    stays state loaded quiet =
        let after = next state Stay in
        passes state after refl refl
        (one_state (number_of state) (high settings t))
        (begins_nothing state)
        (never_both (is 5 state))
        loaded
        (arming armed (low settings t) (not (is 5 state)))
        (λ now.
        let (runs, dim) = and_yes (turning state) (not (tripped state)) now in
        yes_and (not (ends_start (note_of state after))) (inside (at state)).turning
        (goes_on_by state after (quiet runs)
        (fails_left (begins state state) (not (note_of state after).started) (begins_nothing state)) now)
        (turned_before state runs dim))

    by_move :
        (state : State) (move : Move)
        → T (not (is 0 state))
        → T (not (is 5 state && armed))
        → (T (is 5 state) → d.ticks ≤ waited)
        → (T (is 5 state) → T (any (live_word (at state))))
        → (T (high settings t) → T (not (low settings t)))
        → Way (on state) state move
        → Obeys state (next state move)
    unfolding answer_telling
    by_move state Stay loaded fault late trip apart (waits lacks no-low calm) = stays state loaded (λ runs. no-low)
    by_move state Stay loaded fault late trip apart (unmoved stands calm) = stays state loaded (never (turning state) stands)
    by_move state (Enter Fault) loaded fault late trip apart (trips free tripping) =
        rests state (next state (Enter Fault)) refl refl tt tt (fails_right (is 5 state) false tt) loaded
        (λ now. arming armed (low settings t) (not (is 5 state)) (and_yes (armed_by (at state) t) false now).0)
        tt
    by_move state (Enter Stop) loaded fault late trip apart (stops runs is-low calm) =
        rests state (next state (Enter Stop)) refl refl tt tt (fails_left (is 5 state) true (turning-is state runs).not_fault) loaded
        (λ now. arming armed (low settings t) (not (is 5 state)) (and_yes (armed_by (at state) t) true now).0)
        tt
    by_move Stop (Enter OffsetCal) loaded fault late trip apart (calibrates unmeasured calm) =
        rests Stop (next Stop (Enter OffsetCal)) refl refl tt tt tt tt
        (λ now. arming armed (low settings t) true (and_yes (armed_by (at Stop) t) true now).0)
        tt
    by_move Stop (Enter BtsCharge) loaded fault late trip apart (starts measured is-armed is-high calm) =
        let after = next Stop (Enter BtsCharge) in
        Steps.starts (inside (at Stop)) (note_of Stop after) (inside after) (gates_ask 0 0 after) used-few
        (fault_shown 0 0 after) (found_trips (at Stop) t) (λ was keeps. kept Stop was) (dark 0 0 after)
        tt is-high tt tt is-armed
        (fails_right (armed_by (at Stop) t) false tt)
        (goes_on_by Stop after (apart is-high) (rw (is_true (high settings t) is-high) tt))
        refl
    by_move state (Enter onto) loaded fault late trip apart (goes_on onward no-low calm) =
        let runs = (goes onward).0 in
        let after = next state (Enter onto) in
        let not_first = (and_yes (turning onto) (not (is 3 onto)) (goes onward).1).1 in
        let none-begun = runs_on state onto runs not_first in
        passes state after refl refl
        (fails_left (is 3 onto && is 1 state) (high settings t) (fails_left (is 3 onto) (is 1 state) not_first))
        none-begun
        (fails_left (is 5 state) (not (is 5 onto)) (turning-is state runs).not_fault)
        loaded
        (λ now. arming armed (low settings t) (not (is 5 state)) (and_yes (armed_by (at state) t) (not (is 3 onto || is 5 onto)) now).0)
        (λ now.
        yes_and (not (ends_start (note_of state after))) (inside (at state)).turning
        (goes_on_by state after no-low (fails_left (begins state onto) (not (note_of state after).started) none-begun) now)
        (turned_before state runs calm))
    by_move OffsetCal Measure loaded fault late trip apart (measures done calm) =
        rests OffsetCal (next OffsetCal Measure) refl refl tt tt tt tt (arming armed (low settings t) true) tt
    by_move Fault Clear loaded fault late trip apart (clears free clear) =
        let after = next Fault Clear in
        Steps.clears (inside (at Fault)) (note_of Fault after) (inside after) (gates_ask 0 0 after) zero-le
        (fault_shown 0 0 after) (never found (no_cause free)) (λ was keeps. absurd keeps) (dark 0 0 after)
        tt tt tt tt (no_cause free) (trip tt) tt (λ now. tt) tt clear
        (unarmed armed (low settings t) fault)
        refl
    by_move Fault Retry loaded fault late trip apart (tries_again free no-clear mode in-time room) =
        let after = next Fault Retry in
        let before = late tt in
        Steps.retries (inside (at Fault)) (note_of Fault after) (inside after) (gates_ask 0 0 after) (omega arith)
        (fault_shown 0 0 after) (never found (no_cause free)) (λ was keeps. absurd keeps) (dark 0 0 after)
        tt tt tt tt (no_cause free) (trip tt) tt (λ now. tt) tt no-clear
        (yes_and (mode1 settings) (leb 10000 (suc waited)) mode (le→leb 10000 (suc waited) (omega arith)))
        (omega (arith, room))
    -- no way leads from another state to these moves
    by_move Idle Measure loaded fault late trip apart _ = elim loaded [ ]
    by_move Stop Measure loaded fault late trip apart way = elim way [ ]
    by_move BtsCharge Measure loaded fault late trip apart way = elim way [ ]
    by_move MotorRun Measure loaded fault late trip apart way = elim way [ ]
    by_move Fault Measure loaded fault late trip apart way = elim way [ ]
    by_move CatchSpin Measure loaded fault late trip apart way = elim way [ ]
    by_move Parking Measure loaded fault late trip apart way = elim way [ ]
    by_move OpenLoop Measure loaded fault late trip apart way = elim way [ ]
    by_move AngleSensing Measure loaded fault late trip apart way = elim way [ ]
    by_move Idle Clear loaded fault late trip apart _ = elim loaded [ ]
    by_move Stop Clear loaded fault late trip apart way = elim way [ ]
    by_move OffsetCal Clear loaded fault late trip apart way = elim way [ ]
    by_move BtsCharge Clear loaded fault late trip apart way = elim way [ ]
    by_move MotorRun Clear loaded fault late trip apart way = elim way [ ]
    by_move CatchSpin Clear loaded fault late trip apart way = elim way [ ]
    by_move Parking Clear loaded fault late trip apart way = elim way [ ]
    by_move OpenLoop Clear loaded fault late trip apart way = elim way [ ]
    by_move AngleSensing Clear loaded fault late trip apart way = elim way [ ]
    by_move Idle Retry loaded fault late trip apart _ = elim loaded [ ]
    by_move Stop Retry loaded fault late trip apart way = elim way [ ]
    by_move OffsetCal Retry loaded fault late trip apart way = elim way [ ]
    by_move BtsCharge Retry loaded fault late trip apart way = elim way [ ]
    by_move MotorRun Retry loaded fault late trip apart way = elim way [ ]
    by_move CatchSpin Retry loaded fault late trip apart way = elim way [ ]
    by_move Parking Retry loaded fault late trip apart way = elim way [ ]
    by_move OpenLoop Retry loaded fault late trip apart way = elim way [ ]
    by_move AngleSensing Retry loaded fault late trip apart way = elim way [ ]

    -- the tick itself
    pub tick_obeys :
        (state : State)
        → T (not (is 0 state))
        → T (not (is 5 state && armed))
        → (T (is 5 state) → d.ticks ≤ waited)
        → (T (is 5 state) → T (any (live_word (at state))))
        → (T (high settings t) → T (not (low settings t)))
        → Obeys state (ticked (at state) t)
    unfolding ticked
    tick_obeys state loaded fault late trip apart =
        by_move state (chosen (at state) t) loaded fault late trip apart (way_of (on state))
