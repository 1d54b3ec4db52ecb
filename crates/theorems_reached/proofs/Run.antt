-- What runs in MOTORRUN stays within its bounds: counts are capped where they grow, and the reference lies between two speeds times 2048.
use mathlib.Core.Bool.{Bool, false, not}
use mathlib.Core.List.{List}
use Prim.Native.Nat.{ℕ, ◌*◌, ◌≤◌, ◌<◌}
use native.Mathlib.Omega.{arith}
use lib.Dec.{T}
use lib.IntN.{ℤ, nat_abs}
use Rattle.std.proofs.lemmas.Int.{ints}
use Rattle.settings.specs.Settings.{FluxFaultTime}
use Rattle.motor.specs.Counts.{at_rest, slot_length, next_slots, lasting, watched}
use Rattle.motor.specs.Reference.{times2048, target0, target1, target_of, toward, starting, ran, after}
use Rattle.fields.specs.declared.Tick.{Tick}
use Rattle.motor.specs.declared.Run.{Run}
use Rattle.motor.specs.declared.Slots.{Slots}
use Rattle.motor.specs.declared.Watched.{Watched}
use Rattle.states.specs.States.{is}
use Rattle.states.specs.declared.State.{State}
use Rattle.states.specs.declared.State.TheVariants.{Stop}
use Rattle.theorems_reached.specs.Reached.{Loaded, RunWithin, RunIn}
use Rattle.theorems_reached.proofs.Loads.{at_least, at_most}

-- ---- the reference

-- a speed times 2048
scaled : (z : ℤ) → nat_abs z ≤ 32767 → nat_abs (times2048 z) ≤ 32767 * 2048
scaled z small = omega (arith, ints)

-- a step toward the target stays between the two
toward_within :
    {m : ℕ} (rate : ℕ) (target reference : ℤ)
    → nat_abs target ≤ m
    → nat_abs reference ≤ m
    → nat_abs (toward rate target reference) ≤ m
unfolding toward
toward_within {m} rate target reference target_small reference-small = grind (arith, ints)

-- the target of either mode is a speed
target0_within :
    (least : ℕ) (target : ℤ)
    → least ≤ 16383
    → nat_abs target ≤ 32767
    → nat_abs (target0 least target) ≤ 32767
unfolding target0
target0_within least target least-small target_small = grind (arith, ints)

target1_within : (least start gain control : ℕ) → least ≤ 16383 → target1 least start gain control ≤ 16383
target1_within least start gain control least-small = grind arith

target_within : (s : List ℕ) (t : Tick) → Loaded s → nat_abs t.target ≤ 32767 → nat_abs (target_of s t) ≤ 32767
unfolding target_of
target_within s t loaded small = grind (arith, at_most loaded 10 (omega arith), target1_within, target0_within)

-- ---- the counts

lasting_within : (limit : ℕ) (holds : Bool) (count : ℕ) → lasting limit holds count ≤ limit
lasting_within limit holds count = grind arith

slot_within : (length : ℕ) (bad : Bool) (slots : Slots) → 0 < length → (next_slots length bad slots).ticks < length
slot_within length bad slots positive = grind arith

row_within : (length : ℕ) (bad : Bool) (slots : Slots) → slots.bad_slots ≤ 8 → (next_slots length bad slots).bad_slots ≤ 8
row_within length bad slots small = grind arith

-- ---- at rest, on entering MOTORRUN, and after a tick that stays there

-- a slot has at least one tick
slot_length_lem : (s : List ℕ) → Loaded s → 0 < slot_length (FluxFaultTime s)
slot_length_lem s loaded = grind (arith, at_least)

pub at_rest_within : (s : List ℕ) → Loaded s → RunWithin s at_rest
at_rest_within s loaded = grind (arith, slot_length_lem)

starting_within : (s : List ℕ) (t : Tick) → Loaded s → nat_abs t.speed ≤ 32767 → RunWithin s (starting t)
starting_within s t loaded small = grind (arith, slot_length_lem, scaled)

ran_within :
    (s : List ℕ) (t : Tick) (still_count : ℕ) (r : Run)
    → Loaded s
    → nat_abs t.target ≤ 32767
    → RunWithin s r
    → RunWithin s (ran s t (watched s t still_count r) r)
unfolding watched
ran_within s t still_count r loaded small within =
    grind (arith, slot_within, slot_length_lem, row_within, lasting_within, toward_within, scaled, target_within)

-- ---- by the state

pub at_rest_in : (state : State) (s : List ℕ) → T (not (is 4 state)) → RunIn state s at_rest
at_rest_in state s elsewhere = grind arith

pub rests_in_stop : (s : List ℕ) → RunIn Stop s at_rest
rests_in_stop s = at_rest_in Stop s tt

module _ (s : List ℕ) (t : Tick) (loaded : Loaded s) where
  -- after a tick that enters a state
  pub entered_in :
      (w : Watched) (run : Run) (state : State)
      → nat_abs t.speed ≤ 32767
      → RunIn state s (after s t w false (is 4 state) run)
  entered_in w run state small = grind (arith, starting_within, at_rest_in)

  -- after a tick that stays in its state
  pub stayed_in :
      (still_count : ℕ) (run : Run) (state : State)
      → nat_abs t.target ≤ 32767
      → RunIn state s run
      → RunIn state s (after s t (watched s t still_count run) (is 4 state) false run)
  stayed_in still_count run state small within = grind (arith, ran_within, at_rest_in)
