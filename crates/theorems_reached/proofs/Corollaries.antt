-- What follows of a reached state, as other proofs want it.
use mathlib.Core.Path.{◌≡◌}
use mathlib.Core.Bool.{Bool, false, ◌||◌, not, cond}
use mathlib.Core.Logic.{◌⊎◌}
use Prim.Native.Nat.{ℕ, ◌+◌, ◌*◌, ◌≤◌, ◌<◌, min}
use native.Mathlib.Omega.{arith}
use lib.Dec.{T, eqb, leb}
use lib.Ieee.Bits.{is_false}
use lib.IntN.{ℤ, pos, nat_abs}
use lib.Signed.{quot_z}
use mir.Facts.{not_T, leb_yes, ltb_yes, eqb_yes}
use Rattle.std.proofs.lemmas.Int.{ints}
use Rattle.numbers.specs.Limit.{limit}
use Rattle.states.specs.States.{is, turning}
use Rattle.settings.specs.Settings.{OffsetPsc, samples}
use Rattle.faults.specs.Word.{bit}
use Rattle.drive.specs.Command.{low, high}
use Rattle.drive.specs.Offsets.{added}
use Rattle.drive.specs.Calls.{power_up}
use Rattle.drive.specs.Blocks.{marked}
use Rattle.drive.specs.Answer.{gate, live_word, reported}
use Rattle.drive.specs.declared.Drive.{Drive}
use Rattle.fields.specs.declared.Tick.{Tick}
use Rattle.states.specs.declared.State.{State}
use Rattle.hall.specs.declared.layout.Sensors.TheVariants.{Two}
use Rattle.theorems_reached.specs.Reached.{RunWithin, AtMost, but_hall, Reached}
use Rattle.theorems_reached.proofs.Loads.{at_most, related_there}
use Rattle.theorems_reached.proofs.Run.{at_rest_within}
use Rattle.theorems_reached.proofs.Offsets.{samples_small, added_exactly}
use Rattle.states.proofs.Groups.{turns}

-- ---- numbers of the answer

unlimited : (z : ℤ) → nat_abs z ≤ 32767 * 2048 → limit (quot_z z (pos 2048)) ≡ quot_z z (pos 2048)
unlimited z small = grind (arith, ints)

-- ---- flags, gates and commands

-- without a flag below 15 the low sides are not all on
no_brake : (s : State) (live : ℕ) → but_hall live ≡ 0 → gate s live ≤ 2
no_brake s live none = grind (arith, eqb_yes)

-- neither a command nor a control is low and high at once
one_level :
    (mode : Bool) (command control : ℕ) {stop start : ℕ}
    → stop < start
    → T (cond mode (leb control stop) (eqb command 0))
    → T (cond mode (leb start control) (eqb command 1))
    → ⊥
one_level mode command control below low high = grind (arith, leb_yes, eqb_yes)

module _ (d : Drive) (r : Reached d) where
  -- what holds of power-up, and of power-up with flag 12, holds in IDLE
  pub in_idle : (P : Drive → Type 0) → P power_up → P (marked power_up) → T (is 0 d.state) → P d
  in_idle P dark lit idle = grind arith

  -- ---- what runs

  -- Outside IDLE, in MOTORRUN or not, what runs is within its bounds.
  pub run_within : T (not (is 0 d.state)) → RunWithin d.settings d.run
  run_within outside = grind (arith, at_rest_within)

  -- The speed reference is within plus or minus 32767 times 2048, in every state.
  pub reference_within : nat_abs d.run.reference ≤ 32767 * 2048
  reference_within = grind arith

  -- The reported reference is the quotient itself: the limit in `reported` never acts.
  pub reported_exactly : reported d.run.reference ≡ quot_z d.run.reference (pos 2048)
  reported_exactly = unlimited d.run.reference reference_within

  -- ---- offsets

  -- No sum wraps: a cycle adds its samples exactly, whatever a u16 holds.
  pub sums_exactly :
      (first second : ℕ)
      → first < 65536
      → second < 65536
      → (added first second d.offsets).sum
      ≡ record { first = d.offsets.sum.first + first; second = d.offsets.sum.second + second }
  sums_exactly first second first_fits second_fits = grind (arith, added_exactly)

  -- No sum needs more than 25 bits.
  pub sums_within : AtMost (4095 * 8192) d.offsets.sum
  sums_within = grind (arith, samples_small)

  -- In OFFSETCAL each sum has at most a sample of 4095 for each cycle, and at most N.
  pub summing_within :
      T (is 2 d.state)
      → AtMost (4095 * min d.cycles (samples (OffsetPsc d.settings))) d.offsets.sum
  summing_within t = grind arith

  -- ---- retries

  pub retries_within_lem : d.retries ≤ 100
  retries_within_lem = grind (arith, at_most)

  -- ---- arming

  -- Only in STOP and OFFSETCAL is the drive ever armed.
  disarmed : T (not (is 1 d.state || is 2 d.state)) → d.armed ≡ false
  disarmed elsewhere = grind (arith, is_false)

  pub disarmed_in_fault : T (is 5 d.state) → d.armed ≡ false
  disarmed_in_fault t = grind (arith, disarmed)

  pub disarmed_in_turning : T (turning d.state) → d.armed ≡ false
  disarmed_in_turning t = disarmed (turns d.state t).not_waiting

  pub disarmed_in_idle : T (is 0 d.state) → d.armed ≡ false
  disarmed_in_idle t = grind (arith, in_idle)

  -- A tick holds no low and high at once: "CmdStop .. below" CmdStart.
  pub low_excludes_high :
      (t : Tick)
      → T (not (is 0 d.state))
      → T (low d.settings t)
      → T (high d.settings t)
      → ⊥
  low_excludes_high t outside = grind (arith, ltb_yes, related_there, one_level)

  -- ---- two sensors

  -- With two sensors the dead streak is never 2, which is cause 15.
  pub no_dead_cause : d.sensors ≡ Two → eqb d.hall.dead_streak 2 ≡ false
  no_dead_cause two = grind arith

  -- ---- flags and gates

  -- In IDLE there is no flag but flag 12, and outside IDLE there is no flag 12.
  pub flags_in_idle : T (is 0 d.state) → (d.flags ≡ 0) ⊎ (d.flags ≡ 4096)
  flags_in_idle = grind (arith, in_idle)

  pub no_flag_12_outside_idle : T (not (is 0 d.state)) → T (not (bit 12 d.flags))
  no_flag_12_outside_idle awake = not_T (bit 12 d.flags) (λ lit. r.flags.known awake 12 lit)

  -- Outside IDLE and FAULT nothing is live but flag 15, which waits for the next tick.
  pub live_outside_fault : T (not (is 0 d.state)) → T (not (is 5 d.state)) → but_hall (live_word d) ≡ 0
  live_outside_fault awake t = grind (arith, eqb_yes)

  -- Outside FAULT the gates are off, charge or drive: the brake (3) is FAULT's alone.
  pub no_brake_outside_fault : T (not (is 5 d.state)) → gate d.state (live_word d) ≤ 2
  no_brake_outside_fault t = grind (arith, in_idle, no_brake, live_outside_fault)
