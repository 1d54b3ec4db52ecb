-- How the move of a tick comes about: what each way to choose a move tells of what it is decided by.
use mathlib.Core.Bool.{Bool, ◌&&◌, ◌||◌, not, cond}
use mathlib.Core.Path.{◌≡◌}
use mathlib.Core.List.{List}
use Prim.Native.Nat.{ℕ, ◌*◌, ◌≤◌, ◌<◌}
use lib.Dec.{T, eqb, ltb, leb}
use lib.IntN.{nat_abs}
use mir.Facts.{T_not-not, and_yes, or_no, eqb_yes, leb_yes, leb_no, ltb_yes, ltb_no}
use Rattle.numbers.proofs.Tests.{by_test, or_cases}
use Rattle.settings.specs.Settings
use Rattle.states.specs.States.{is, turning}
use Rattle.states.specs.declared.State.{State}
use Rattle.states.specs.declared.State.TheVariants.{Idle, Stop, OffsetCal, BtsCharge, MotorRun, Fault, CatchSpin, Parking, OpenLoop}
use Rattle.states.specs.declared.State.TheVariants.{AngleSensing}
use Rattle.faults.specs.declared.Exit.{Exit}
use Rattle.moves.specs.Moves.{out_of, own, move_of}
use Rattle.moves.specs.declared.Grounds.{Grounds}
use Rattle.moves.specs.declared.Move.{Move}
use Rattle.moves.specs.declared.Move.TheVariants.{Stay, Enter, Measure, Clear, Retry}

-- the running states that a start leads on to
abbrev pub is_run : State → Bool
is_run state = turning state && not (is 3 state)

-- From one of the six to another, which is no start: the count or the speed that lets it go on.
pub data Onward (g : Grounds) : State → State → Type 0 where
  -- "3 BTSCHARGE: BtsChargeTime cycles done, to 6."
  charged : Settings.BtsChargeTime g.settings ≤ g.cycles → Onward g BtsCharge CatchSpin
  -- "6 CATCHSPIN: TCatchSpin 0, to 9. Else at its TCatchSpin-th tick: absolute speed above DirectStartThr, to 4, otherwise to 9."
  unasked : Settings.TCatchSpin g.settings ≡ 0 → Onward g CatchSpin AngleSensing
  caught :
      Settings.TCatchSpin g.settings ≤ g.nth
      → Settings.DirectStartThr g.settings < nat_abs g.speed
      → Onward g CatchSpin MotorRun
  slow :
      Settings.TCatchSpin g.settings ≤ g.nth
      → nat_abs g.speed ≤ Settings.DirectStartThr g.settings
      → Onward g CatchSpin AngleSensing
  -- "9 ANGLESENSING: IS_Pulses 0, to 7; else 6 x IS_Pulses cycles done, to 4 (house)."
  unsensed : Settings.IS_Pulses g.settings ≡ 0 → Onward g AngleSensing Parking
  sensed : 6 * Settings.IS_Pulses g.settings ≤ g.cycles → Onward g AngleSensing MotorRun
  -- "7 PARKING: at its ParkTime-th tick, or its first if that is 0, to 8."
  parked : Settings.ParkTime g.settings ≤ g.nth → Onward g Parking OpenLoop
  -- "8 OPENLOOP: OpenLoopRamp 0, or absolute speed at least MinSpd, to 4."
  unramped : Settings.OpenLoopRamp g.settings ≡ 0 → Onward g OpenLoop MotorRun
  fast : Settings.MinSpd g.settings ≤ nat_abs g.speed → Onward g OpenLoop MotorRun

-- One of the six that is not left: the count or the speed that it still lacks.
pub data Waits (g : Grounds) : State → Type 0 where
  charging : g.cycles < Settings.BtsChargeTime g.settings → Waits g BtsCharge
  catching : g.nth < Settings.TCatchSpin g.settings → Waits g CatchSpin
  sensing : g.cycles < 6 * Settings.IS_Pulses g.settings → Waits g AngleSensing
  parking : g.nth < Settings.ParkTime g.settings → Waits g Parking
  ramping :
      T (not (eqb (Settings.OpenLoopRamp g.settings) 0))
      → nat_abs g.speed < Settings.MinSpd g.settings
      → Waits g OpenLoop
  -- "4 MOTORRUN: stays."
  running : Waits g MotorRun

-- The ways to a move from a state.
pub data Way (g : Grounds) : State → Move → Type 0 where
  -- "Outside FAULT, any live flag moves to FAULT."
  trips : {s : State} → T (not (is 5 s)) → T g.tripped → Way g s (Enter Fault)
  -- "in the six starting and running states .., a low moves to STOP"
  stops : {s : State} → T (turning s) → T g.low → T (not g.tripped) → Way g s (Enter Stop)
  goes_on : {s next : State} → Onward g s next → T (not g.low) → T (not g.tripped) → Way g s (Enter next)
  -- "1 STOP: offsets not measured, to 2; else armed and high, to 3 (the start)."
  calibrates : T (not g.measured) → T (not g.tripped) → Way g Stop (Enter OffsetCal)
  starts : T g.measured → T g.armed → T g.high → T (not g.tripped) → Way g Stop (Enter BtsCharge)
  -- "2 OFFSETCAL: N cycles done, to 1"
  measures :
      Settings.samples (Settings.OffsetPsc g.settings) ≤ g.cycles
      → T (not g.tripped)
      → Way g OffsetCal Measure
  -- "5 FAULT: no live cause may stand. Then clear = 1 .. Else in mode 1, from its 10,000th tick on, with fewer than RetryLimit retries
  -- used"
  clears : T (not g.blocked) → T (eqb g.clear 1) → Way g Fault Clear
  tries_again :
      T (not g.blocked)
      → T (not (eqb g.clear 1))
      → T (Settings.mode1 g.settings)
      → 10000 ≤ g.nth
      → g.retries < Settings.RetryLimit g.settings
      → Way g Fault Retry
  waits : {s : State} → Waits g s → T (not g.low) → T (not g.tripped) → Way g s Stay
  -- in the other four states
  rests : {s : State} → T (not (turning s)) → (T (not (is 5 s)) → T (not g.tripped)) → Way g s Stay

module _ {g : Grounds} where
  -- it goes from one of the six to one that a start leads on to
  pub goes : {s next : State} → Onward g s next → T (turning s) × T (is_run next)
  goes (charged done) = (tt, tt)
  goes (unasked none) = (tt, tt)
  goes (caught done above) = (tt, tt)
  goes (slow done below) = (tt, tt)
  goes (unsensed none) = (tt, tt)
  goes (sensed done) = (tt, tt)
  goes (parked done) = (tt, tt)
  goes (unramped none) = (tt, tt)
  goes (fast above) = (tt, tt)

module _ (g : Grounds) where
  abbrev s : List ℕ
  s = g.settings

  -- one of the six states: its own move, where no flag is live and no low is held
  abbrev Own : State → Move → Type 0
  Own state move = T (not g.low) → T (not g.tripped) → Way g state move

  from_turning :
      (state : State) {move : Move}
      → T (not (is 5 state))
      → T (turning state)
      → Own state move
      → Way g state (cond g.tripped (Enter Fault) (cond g.low (Enter Stop) move))
  from_turning state outside turns own =
      by_test (Way g state) g.tripped (λ u. trips outside u)
      (λ calm. by_test (Way g state) g.low (λ u. stops turns u calm) (λ quiet. own quiet calm))

  way_from :
      (state : State)
      → Way g state (cond (not (is 5 state) && g.tripped) (Enter Fault) (cond (turning state && g.low) (Enter Stop) (own g state)))
  way_from Idle = by_test (Way g Idle) g.tripped (λ u. trips tt u) (λ calm. rests tt (λ u. calm))
  way_from Stop =
      by_test (Way g Stop) g.tripped (λ u. trips tt u)
      (λ calm.
      by_test (Way g Stop) (not g.measured) (λ u. calibrates u calm)
      (λ u.
      by_test (Way g Stop) (g.armed && g.high)
      (λ v. let (armed, held) = and_yes g.armed g.high v in starts (T_not-not g.measured u) armed held calm)
      (λ v. rests tt (λ w. calm))))
  way_from OffsetCal =
      by_test (Way g OffsetCal) g.tripped (λ u. trips tt u)
      (λ calm.
      by_test (Way g OffsetCal) (leb (Settings.samples (Settings.OffsetPsc s)) g.cycles) (λ u. measures (leb_yes u) calm)
      (λ u. rests tt (λ w. calm)))
  way_from BtsCharge =
      from_turning BtsCharge tt tt
      (λ quiet calm.
      by_test (Way g BtsCharge) (leb (Settings.BtsChargeTime s) g.cycles) (λ u. goes_on (charged (leb_yes u)) quiet calm)
      (λ u. waits (charging (leb_no u)) quiet calm))
  way_from MotorRun = from_turning MotorRun tt tt (λ quiet calm. waits running quiet calm)
  way_from Fault =
      by_test (λ (exit : Exit). Way g Fault (out_of exit)) g.blocked (λ u. rests tt (λ w. absurd w))
      (λ u.
      by_test (λ (exit : Exit). Way g Fault (out_of exit)) (eqb g.clear 1) (λ v. clears u v)
      (λ v.
      let long : Bool = Settings.mode1 s && leb 10000 g.nth in
      let few : Bool = ltb g.retries (Settings.RetryLimit s) in
      by_test (λ (exit : Exit). Way g Fault (out_of exit)) (long && few)
      (λ w.
      let (waited, left) = and_yes long few w in
      let (mode, late) = and_yes (Settings.mode1 s) (leb 10000 g.nth) waited in
      tries_again u v mode (leb_yes late) (ltb_yes left))
      (λ w. rests tt (λ x. absurd x))))
  way_from CatchSpin =
      from_turning CatchSpin tt tt
      (λ quiet calm.
      by_test (Way g CatchSpin) (eqb (Settings.TCatchSpin s) 0) (λ u. goes_on (unasked (eqb_yes u)) quiet calm)
      (λ u.
      by_test (Way g CatchSpin) (leb (Settings.TCatchSpin s) g.nth)
      (λ v.
      by_test (Way g CatchSpin) (ltb (Settings.DirectStartThr s) (nat_abs g.speed))
      (λ w. goes_on (caught (leb_yes v) (ltb_yes w)) quiet calm)
      (λ w. goes_on (slow (leb_yes v) (ltb_no w)) quiet calm))
      (λ v. waits (catching (leb_no v)) quiet calm)))
  way_from Parking =
      from_turning Parking tt tt
      (λ quiet calm.
      by_test (Way g Parking) (leb (Settings.ParkTime s) g.nth) (λ u. goes_on (parked (leb_yes u)) quiet calm)
      (λ u. waits (parking (leb_no u)) quiet calm))
  way_from OpenLoop =
      from_turning OpenLoop tt tt
      (λ quiet calm.
      let none : Bool = eqb (Settings.OpenLoopRamp s) 0 in
      let above : Bool = leb (Settings.MinSpd s) (nat_abs g.speed) in
      by_test (Way g OpenLoop) (none || above)
      (λ u.
      or_cases none above u (λ v. goes_on (unramped (eqb_yes v)) quiet calm) (λ v. goes_on (fast (leb_yes v)) quiet calm))
      (λ u. let (on, below) = or_no none above u in waits (ramping on (leb_no below)) quiet calm))
  way_from AngleSensing =
      from_turning AngleSensing tt tt
      (λ quiet calm.
      by_test (Way g AngleSensing) (eqb (Settings.IS_Pulses s) 0) (λ u. goes_on (unsensed (eqb_yes u)) quiet calm)
      (λ u.
      by_test (Way g AngleSensing) (leb (6 * Settings.IS_Pulses s) g.cycles) (λ v. goes_on (sensed (leb_yes v)) quiet calm)
      (λ v. waits (sensing (leb_no v)) quiet calm)))

  pub way_of : Way g g.state (move_of g)
  unfolding move_of
  way_of = way_from g.state
