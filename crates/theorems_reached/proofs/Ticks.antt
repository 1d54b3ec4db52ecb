-- A tick keeps what holds of reached states, whichever way its move comes about.
use mathlib.Core.Path.{◌≡◌, refl, subst}
use mathlib.Core.Bool.{Bool, false, ◌&&◌, ◌||◌, not}
use mathlib.Core.List.{List}
use Prim.Native.Nat.{ℕ, ◌≤◌}
use native.Mathlib.Omega.{arith}
use lib.Dec.{T, eqb}
use lib.IntN.{nat_abs}
use mir.Facts.{T_not, and_yes, yes_eqb}
use Rattle.numbers.proofs.Tests.{or_left}
use Rattle.states.specs.States.{is, turning}
use Rattle.states.specs.declared.State.{State}
use Rattle.states.specs.declared.State.TheVariants.{Stop, BtsCharge}
use Rattle.states.proofs.Groups.{turns, waiting}
use Rattle.settings.specs.Settings.{FaultEnable, OffsetPsc, RetryLimit, samples}
use Rattle.fields.specs.declared.Tick.{Tick}
use Rattle.faults.specs.Word.{bit}
use Rattle.faults.proofs.Bits.{new_bit, is_live, old_stays, set_bit, Within, none_within, both_within, together_within}
use Rattle.motor.specs.Counts.{at_rest}
use Rattle.motor.specs.declared.Run.{Run}
use Rattle.moves.specs.declared.Move.{Move}
use Rattle.moves.proofs.Ways.{Way, trips, stops, goes_on, calibrates, starts, measures, clears, tries_again, waits, rests, way_of}
use Rattle.moves.proofs.Ways.{goes}
use Rattle.drive.specs.Flags.{always_live, alive}
use Rattle.drive.specs.Causes.{cause_flags, cause_bits, causes}
use Rattle.drive.specs.Command.{low}
use Rattle.drive.specs.Ticks.{arrive, entered, stayed, moved, nth, armed_by, watch, standing, raised, alight, grounds, ticked}
use Rattle.drive.specs.declared.Drive.{Drive}
use Rattle.drive.specs.declared.offsets.Offsets.{Offsets}
use Rattle.theorems_reached.specs.Reached.{RunIn, OffsetsWithin, OffsetsIn, FlagsIn, Reached}
use Rattle.theorems_reached.proofs.Run.{rests_in_stop, entered_in, stayed_in}
use Rattle.theorems_reached.proofs.Offsets.{cleared_within, measured_within}
use Rattle.theorems_reached.proofs.Flags.{calm_but_hall}

module _ (d : Drive) (r : Reached d) (t : Tick) (outside : T (not (is 0 d.state))) where
  -- ---- the fault word

  abbrev flags : List (ℕ × Bool)
  flags = cause_flags d.settings (is 4 d.state) d.hall.dead_streak t (watch d t)

  -- a tick that finds the dead streak at 2 finds cause 15
  dead_stands : d.hall.dead_streak ≡ 2 → T (bit 15 (standing d t))
  unfolding causes
  dead_stands two = set_bit 15 flags (or_left (eqb d.hall.dead_streak 2) false (yes_eqb two))

  standing_known : Within cause_bits (standing d t)
  unfolding causes
  standing_known = together_within cause_bits flags tt

  -- the flags that the tick leaves where it clears none: live ones in FAULT alone
  raised_in :
      (s : State)
      → (T (not (is 5 s)) → T (not (alight d (raised d t))))
      → (T (is 5 s) → T (alight d (raised d t)))
      → FlagsIn s d.settings d.hall.dead_streak (raised d t)
  raised_in s calm tripped =
      record {
        known = λ awake. both_within cause_bits d.flags (standing d t) (r.flags.known outside) standing_known;
        quiet = λ awake u. calm_but_hall (alive d.settings (raised d t)) (calm u);
        tripped = tripped;
        dead = λ live two. new_bit 15 d.flags (standing d t) (dead_stands two);
      }

  -- the flags that an exit from FAULT leaves: no live cause stood, so the dead streak is not at 2, unless it is masked
  cleared_in : T (not (alight d (standing d t))) → FlagsIn Stop d.settings d.hall.dead_streak 0
  cleared_in free =
      record {
        known = λ awake. none_within cause_bits;
        quiet = λ awake u. tt;
        tripped = λ u. absurd u;
        dead = λ live two.
            absurd
            (T_not (alight d (standing d t))
            (is_live always_live (FaultEnable d.settings) 15 (standing d t) (dead_stands two)
            (new_bit 15 always_live (FaultEnable d.settings) live))
            free);
      }

  -- ---- a tick that moves

  arrived :
      (s : State) {flags retries : ℕ} {offsets : Offsets} {run : Run} {armed : Bool}
      → T (not (is 0 s))
      → FlagsIn s d.settings d.hall.dead_streak flags
      → OffsetsIn s (samples (OffsetPsc d.settings)) 0 offsets
      → RunIn s d.settings run
      → (T armed → T (is 1 s || is 2 s))
      → retries ≤ RetryLimit d.settings
      → Reached (arrive d s flags offsets run armed retries)
  arrived s awake flags offsets run armed few = grind arith

  -- the offsets of any state but OFFSETCAL
  offsets_in :
      (s : State) {offsets : Offsets}
      → T (not (is 2 s))
      → OffsetsWithin (samples (OffsetPsc d.settings)) offsets
      → (T (turning s) → T offsets.measured)
      → OffsetsIn s (samples (OffsetPsc d.settings)) 0 offsets
  offsets_in s elsewhere within measured = grind arith

  -- a tick that goes to STOP
  stopped :
      {flags retries : ℕ} {offsets : Offsets} {armed : Bool}
      → FlagsIn Stop d.settings d.hall.dead_streak flags
      → OffsetsWithin (samples (OffsetPsc d.settings)) offsets
      → retries ≤ RetryLimit d.settings
      → Reached (arrive d Stop flags offsets at_rest armed retries)
  stopped flags within few = grind (arith, arrived, offsets_in, rests_in_stop)

  -- a tick that enters one of the six states
  turned :
      (s : State)
      → T (turning s)
      → nat_abs t.speed ≤ 32767
      → T d.offsets.measured
      → (T (armed_by d t && not (is 3 s || is 5 s)) → ⊥)
      → T (not (alight d (raised d t)))
      → Reached (entered d t (watch d t) (raised d t) (armed_by d t) s)
  turned s runs speed measured disarmed calm =
      grind (
        arith,
        turns s runs,
        arrived s,
        raised_in s,
        offsets_in s,
        entered_in d.settings t (r.settings outside) (watch d t) d.run s speed,
      )

  -- ---- arming

  -- where a low moves elsewhere, a tick that arms stays in STOP or OFFSETCAL
  still_waiting :
      (T (turning d.state) → T (not (low d.settings t)))
      → T (armed_by d t)
      → T (is 1 d.state || is 2 d.state)
  still_waiting quiet armed = grind (arith, and_yes, waiting)

  -- in the six states only a low would arm
  unarmed : T (turning d.state) → T (not (low d.settings t)) → T (armed_by d t) → ⊥
  unarmed runs quiet armed = grind (arith, still_waiting, turns)

  -- ---- a tick that stays

  stayed_reached :
      nat_abs t.target ≤ 32767
      → (T (turning d.state) → T (not (low d.settings t)))
      → (T (not (is 5 d.state)) → T (not (alight d (raised d t))))
      → Reached (stayed d t (watch d t) (raised d t) (armed_by d t) (nth d))
  stayed_reached target quiet calm =
      grind (
        arith,
        stayed_in d.settings t (r.settings outside) d.hall.still_count d.run d.state target,
        still_waiting quiet,
        raised_in d.state,
        old_stays always_live (FaultEnable d.settings) d.flags (standing d t),
      )

  -- ---- the ways

  moved_reached :
      {s : State} {m : Move}
      → s ≡ d.state
      → nat_abs t.speed ≤ 32767
      → nat_abs t.target ≤ 32767
      → Way (grounds d t (standing d t) (raised d t)) s m
      → Reached (moved d t (watch d t) (raised d t) (armed_by d t) (nth d) m)
  moved_reached at speed target (trips u alive) = grind (arith, arrived, raised_in, offsets_in, entered_in, and_yes)
  moved_reached at speed target (stops u held calm) = grind (arith, stopped, raised_in)
  moved_reached at speed target (goes_on {next = next} onward quiet calm) =
      let turns_on : T (turning next) = (and_yes (turning next) (not (is 3 next)) (goes onward).1).0 in
      let runs : T (turning d.state) = subst (λ (s : State). T (turning s)) at (goes onward).0 in
      turned next turns_on speed (r.offsets.measured runs) (grind (arith, unarmed runs quiet, and_yes)) calm
  moved_reached at speed target (calibrates unmeasured calm) = grind (arith, arrived, raised_in, cleared_within, entered_in)
  moved_reached at speed target (starts measured armed held calm) = grind (arith, turned BtsCharge, and_yes)
  moved_reached at speed target (measures done calm) = grind (arith, stopped, raised_in, measured_within)
  moved_reached at speed target (clears free clear) = grind (arith, stopped, cleared_in)
  moved_reached at speed target (tries_again free held mode late few) = grind (arith, stopped, cleared_in)
  moved_reached at speed target (waits lacks quiet calm) = grind (arith, stayed_reached)
  moved_reached at speed target (rests stands calm) = grind (arith, stayed_reached)

  pub ticked_reached : nat_abs t.speed ≤ 32767 → nat_abs t.target ≤ 32767 → Reached (ticked d t)
  unfolding ticked
  ticked_reached speed target = moved_reached refl speed target (way_of (grounds d t (standing d t) (raised d t)))
