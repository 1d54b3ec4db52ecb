-- What holds of every drive state that a sequence of calls from power-up reaches.
use Rattle.std.specs.Prelude.{◌≡◌, ◌||◌, not, List, ◌⊎◌, ℕ, ◌*◌, ◌%◌, ◌^◌, ◌≤◌, ◌<◌, T, nat_abs, length, Option, Some, None}
use Rattle.std.specs.Int.{w16}
use Rattle.std.proofs.Common.{SFits}
use Rattle.hall.specs.Layout.{Layout, layout, among}
use Rattle.hall.specs.declared.Hall.{Hall}
use Rattle.hall.specs.declared.layout.Sensors.{Sensors}
use Rattle.hall.specs.declared.layout.Sensors.TheVariants.{Two}
use Rattle.states.specs.States.{is, turning}
use Rattle.states.specs.declared.State.{State}
use Rattle.settings.specs.Settings.{setting_count, samples, FaultEnable, FluxFaultTime, RotorLockTime, HallTimeoutPeriod}
use Rattle.settings.specs.Settings.{OffsetPsc, RetryLimit}
use Rattle.faults.specs.Word.{bit, any}
use Rattle.drive.specs.Flags.{alive}
use Rattle.drive.specs.Causes.{cause_bits}
use Rattle.drive.specs.Offsets.{zero}
use Rattle.motor.specs.Counts as Runs
use Rattle.settings.specs.Rules.{rule}
use Rattle.drive.specs.Calls.{power_up}
use Rattle.drive.specs.Blocks.{marked}
use Rattle.drive.specs.declared.Drive.{Drive}
use Rattle.drive.specs.declared.offsets.Pair.{Pair}
use Rattle.drive.specs.declared.offsets.Offsets.{Offsets}
use Rattle.motor.specs.declared.Run.{Run}

-- settings that a load has accepted
pub record Loaded (settings : List ℕ) : Type 0 where
  pub count : length settings ≡ setting_count
  -- each keeps the rule of its place, counted from 0
  pub rules : (i : ℕ) → i < setting_count → T (rule settings i)

-- the kept pattern is none, or one of the layout's
abbrev pub Known : Layout → Option ℕ → Type 0
Known l None = Unit {0}
Known l (Some p) = T (among l.order p)

-- the Hall part
pub record HallWithin (sensors : Sensors) (hall : Hall) : Type 0 where
  pub kept : Known (layout sensors) hall.kept
  -- "The position counter runs modulo 2^32."
  pub position : hall.position < 2 ^ 32
  -- "angle [is] signed 16-bit"
  pub angle : SFits w16 hall.angle
  -- "dead streak up by one, at most 2"; "At 2, .. the kept pattern is forgotten."
  pub dead : hall.dead_streak ≤ 2
  pub forgotten : hall.dead_streak ≡ 2 → hall.kept ≡ None
  -- 02, M-101, of two sensors: "The dead-pattern test does not apply."
  pub never_dead : sensors ≡ Two → hall.dead_streak ≡ 0
  -- "At 3, .. the stray streak returns to zero."
  pub stray : hall.stray_streak ≤ 2
  -- the still count "grows to at most 4096"
  pub still : hall.still_count ≤ 4096

-- the counts of bits 4, 7 and 14 and the speed reference, in MOTORRUN
pub record RunWithin (settings : List ℕ) (run : Run) : Type 0 where
  -- a slot's last tick ends it, so the present slot has fewer ticks than a slot
  pub slot : run.slots.ticks < Runs.slot_length (FluxFaultTime settings)
  -- bad slots in a row are counted to the eighth
  pub row : run.slots.bad_slots ≤ 8
  pub lock : run.rotor_lock_ticks ≤ 10 * RotorLockTime settings
  pub still : run.hall_still_ticks ≤ 10 * HallTimeoutPeriod settings
  -- a speed is within plus or minus 32767 and is "kept times 2048"
  pub reference : nat_abs run.reference ≤ 32767 * 2048

-- each of a pair is at most this
pub record AtMost (most : ℕ) (pair : Pair) : Type 0 where
  pub first : pair.first ≤ most
  pub second : pair.second ≤ most

-- the offsets and the sums that they are made of: a sample is at most 4095, and "the first N" are summed
pub record OffsetsWithin (n : ℕ) (offsets : Offsets) : Type 0 where
  -- until they are measured the offsets are those of power-up
  pub unmeasured : T (not offsets.measured) → offsets.value ≡ zero
  pub value : AtMost 4095 offsets.value
  pub sum : AtMost (4095 * n) offsets.sum

-- what runs: "Bits 4, 7 and 14 count only ticks taken in MOTORRUN"; "other states hold 0"
pub record RunIn (state : State) (settings : List ℕ) (run : Run) : Type 0 where
  pub running : T (is 4 state) → RunWithin settings run
  pub resting : T (not (is 4 state)) → run ≡ Runs.at_rest

-- the offsets by the state, and by its cycles
pub record OffsetsIn (state : State) (n cycles : ℕ) (offsets : Offsets) : Type 0 where
  -- no sum is beyond N samples of 4095, which 25 bits hold
  pub within : OffsetsWithin n offsets
  -- in OFFSETCAL each sum has at most a sample a cycle
  pub summing : T (is 2 state) → AtMost (4095 * cycles) offsets.sum
  -- after a load the offsets are measured once, before the first start
  pub measuring : T (is 2 state) → T (not offsets.measured)
  pub measured : T (turning state) → T offsets.measured

-- the bits below 15: flag 15 is the one that a cycle sets
abbrev pub but_hall : ℕ → ℕ
but_hall word = word % 2 ^ 15

-- the fault word by the state
pub record FlagsIn (state : State) (settings : List ℕ) (dead_streak flags : ℕ) : Type 0 where
  -- outside IDLE only causes and samples set flags: there is no flag 12
  pub known : T (not (is 0 state)) → (k : ℕ) → T (bit k flags) → T (bit k cause_bits)
  -- "Outside FAULT, any live flag moves to FAULT": of the live ones only flag 15 waits for a tick. IDLE takes no tick
  pub quiet : T (not (is 0 state)) → T (not (is 5 state)) → T (not (any (but_hall (alive settings flags))))
  -- FAULT is entered with a live flag, and the flags "stay until cleared"
  pub tripped : T (is 5 state) → T (any (alive settings flags))
  -- "At 2, flag 15 is set", and while the streak stands no exit from FAULT clears the flag, unless it is masked
  pub dead : T (bit 15 (FaultEnable settings)) → dead_streak ≡ 2 → T (bit 15 flags)

-- a reached state
pub record Reached (d : Drive) : Type 0 where
  -- IDLE is power-up, or power-up with flag 12: the first accepted load leaves it, and nothing comes back
  pub idle : T (is 0 d.state) → (d ≡ power_up) ⊎ (d ≡ marked power_up)
  -- elsewhere the 24 settings are those of an accepted load
  pub settings : T (not (is 0 d.state)) → Loaded d.settings
  pub hall : HallWithin d.sensors d.hall
  -- "Cycles in the present state are counted to at most 65535", and so are ticks
  pub cycles : d.cycles ≤ 65535
  pub ticks : d.ticks ≤ 65535
  -- a retry is taken "with fewer than RetryLimit retries used"
  pub retries : d.retries ≤ RetryLimit d.settings
  pub run : RunIn d.state d.settings d.run
  pub offsets : OffsetsIn d.state (samples (OffsetPsc d.settings)) d.cycles d.offsets
  -- "A start or entry to FAULT disarms", a low in FAULT does not arm, and one in a turning state stops
  pub armed : T d.armed → T (is 1 d.state || is 2 d.state)
  pub flags : FlagsIn d.state d.settings d.hall.dead_streak d.flags
