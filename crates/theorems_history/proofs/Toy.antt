-- A toy supervisor with four states, in a sound make and in makes that each have one bad habit.
use Prim.Native.Nat.{ℕ, suc, ◌+◌}
use mathlib.Core.Bool.{Bool, true, false, not, ◌&&◌, ◌||◌, cond}
use mathlib.Core.List.{List, [], ◌∷◌}
use lib.Dec.{eqb, ltb, leb}
use lib.ListN.{get_or}
use Rattle.theorems_history.specs.Log.{Machine}
use Rattle.theorems_history.specs.Onlooker.{Asked, load, tick, neither, Words}

-- IDLE, STOP, RUN and FAULT
pub data Spot : Type 0 where
  idle stop run fault : Spot

-- where it stands; whether it is armed, a live fault stands, timed retries are allowed; the retries used, their limit, the ticks in FAULT
pub data Toy : Type 0 where
  toy : Spot → (armed flag timed : Bool) → (used limit waited : ℕ) → Toy

-- what the command is: low, neither, high
pub data Lever : Type 0 where
  down middle up : Lever

-- a tick: a live cause stands, the clear is 1, the command
pub data Fields : Type 0 where
  fields : (cause clear : Bool) → Lever → Fields

-- the calls
pub data Press : Type 0 where
  -- a load: whether timed retries are allowed, and how many
  loads : Bool → ℕ → Press
  ticks : Fields → Press
  -- a dead sample: it sets a live flag, and two in a row are a live cause
  glitch : Press
  -- a stop that is no low
  halt : Press

-- the answers
pub record Shown : Type 0 where
  pub accepted : Bool
  pub state : ℕ
  pub flag : Bool
  pub gates : Bool

-- ---- its words

abbrev pub is_down : Lever → Bool
is_down down = true
is_down middle = false
is_down up = false

abbrev pub is_up : Lever → Bool
is_up down = false
is_up middle = false
is_up up = true

abbrev pub numbers : Bool → ℕ → List ℕ
numbers timed most = cond timed 1 0 ∷ most ∷ []

abbrev pub asked : Press → Asked Fields
asked (loads timed most) = load (numbers timed most)
asked (ticks f) = tick f
asked glitch = neither
asked halt = neither

abbrev pub dead_after : Press → ℕ → ℕ
dead_after (loads timed most) dead = 0
dead_after (ticks f) dead = 0
dead_after glitch dead = suc dead
dead_after halt dead = dead

abbrev pub is_low : Fields → Bool
is_low (fields cause clear lever) = is_down lever

abbrev pub is_high : Fields → Bool
is_high (fields cause clear lever) = is_up lever

abbrev pub is_clear : Fields → Bool
is_clear (fields cause clear lever) = clear

abbrev pub is_cause : Fields → Bool
is_cause (fields cause clear lever) = cause

abbrev pub words : Words Press Shown
words =
    record {
      Tick = Fields;
      asked = asked;
      accepted = λ a. a.accepted;
      state = λ a. a.state;
      live_shown = λ a. a.flag;
      turns = λ a. a.gates;
      is_stop = λ n. eqb n 1;
      is_start = λ n. eqb n 2;
      is_fault = λ n. eqb n 3;
      is_running = λ n. eqb n 2;
      low = λ s. is_low;
      high = λ s. is_high;
      clear = is_clear;
      cause = λ s. is_cause;
      dead_after = λ s. dead_after;
      dead_cause = λ s dead. ltb 1 dead;
      timed = λ s. eqb (get_or s 0 0) 1;
      wait = 2;
      limit = λ s. get_or s 1 0;
    }

-- ---- the makes

-- The bad habits; each says what a toy with it does that it should not.
pub data Habit : Type 0 where
  sound : Habit
  -- starts that nothing permits
  starts_unarmed starts_in_the_middle starts_dry load_keeps_armed start_keeps_armed trip_keeps_armed arms_in_fault wakes_in_stop : Habit
  -- exits from FAULT that must not be
  trips_for_nothing leaves_alight leaves_with_cause leaves_in_a_sample leaves_by_a_load : Habit
  waits_over_a_load retries_at_once retries_untimed retries_for_ever raises_its_limit stores_more : Habit
  -- turning when it must not
  rests stops_at_a_trip ignores_low ignores_cause ignores_samples drives_with_fault forgets_fault : Habit
  drives_in_stop loads_in_run says_stop trips_in_silence nods : Habit

abbrev number : Habit → ℕ
number sound = 0
number starts_unarmed = 1
number starts_in_the_middle = 2
number load_keeps_armed = 3
number start_keeps_armed = 4
number trip_keeps_armed = 5
number arms_in_fault = 6
number wakes_in_stop = 7
number leaves_with_cause = 8
number leaves_in_a_sample = 9
number leaves_by_a_load = 10
number retries_at_once = 11
number retries_untimed = 12
number retries_for_ever = 13
number raises_its_limit = 14
number stores_more = 15
number ignores_low = 16
number ignores_cause = 17
number ignores_samples = 18
number drives_with_fault = 19
number forgets_fault = 20
number drives_in_stop = 21
number loads_in_run = 22
number says_stop = 23
number trips_in_silence = 24
number nods = 25
number starts_dry = 26
number rests = 27
number stops_at_a_trip = 28
number trips_for_nothing = 29
number leaves_alight = 30
number waits_over_a_load = 31

module _ (habit : Habit) where
  abbrev has : Habit → Bool
  has bad = eqb (number habit) (number bad)

  -- in STOP, with no live fault: a low arms, and a high starts what is armed
  abbrev in_stop : (armed timed : Bool) → Lever → (used limit : ℕ) → Toy
  in_stop armed timed down used limit = toy stop true false timed used limit 0
  in_stop armed timed middle used limit =
      cond (has starts_in_the_middle && armed) (toy run false false timed used limit 0)
      (cond (has starts_dry && armed) (toy run true false timed used limit 0) (toy stop armed false timed used limit 0))
  in_stop armed timed up used limit =
      cond (armed || has starts_unarmed)
      (toy run (has start_keeps_armed && armed) false timed used limit 0)
      (cond (has trips_for_nothing) (toy fault false false timed used limit 0) (toy stop armed false timed used limit 0))

  -- in RUN, with no live fault: a low stops, and arms
  abbrev in_run : (armed timed : Bool) → Lever → (used limit : ℕ) → Toy
  in_run armed timed down used limit =
      cond (has ignores_low) (toy run armed false timed used limit 0) (toy stop true false timed used limit 0)
  in_run armed timed middle used limit = toy run armed false timed used limit 0
  in_run armed timed up used limit = toy run armed false timed used limit 0

  -- in FAULT, with no cause: a clear, or else a timed retry where there is room for one
  abbrev in_fault : (armed timed clear : Bool) → (used limit waited : ℕ) → Toy
  in_fault armed timed true used limit waited = toy stop armed (has leaves_alight) timed 0 limit 0
  in_fault armed timed false used limit waited =
      cond
      ((timed || has retries_untimed) && (leb 2 waited || has retries_at_once) && (ltb used limit || has retries_for_ever))
      (toy stop true false timed (suc used) (cond (has raises_its_limit) (suc limit) limit) 0)
      (toy fault armed (not (has trips_for_nothing)) timed used limit waited)

  abbrev loaded : (armed timed : Bool) → ℕ → Toy
  loaded armed timed most = toy stop armed false timed 0 (cond (has stores_more) (3 + most) most) 0

  -- one call
  abbrev pub next : Toy → Press → Toy
  next (toy idle armed flag timed used limit waited) (loads retry most) = loaded false retry most
  next (toy stop armed flag timed used limit waited) (loads retry most) = loaded (has load_keeps_armed && armed) retry most
  next (toy run armed flag timed used limit waited) (loads retry most) =
      cond (has loads_in_run) (toy run armed false retry 0 most 0) (toy run armed flag timed used limit waited)
  next (toy fault armed flag timed used limit waited) (loads retry most) =
      cond (has leaves_by_a_load) (loaded false retry most)
      (cond (has waits_over_a_load) (toy fault armed flag retry 0 most waited) (toy fault armed flag timed used limit waited))
  next (toy idle armed flag timed used limit waited) (ticks f) = toy idle armed flag timed used limit waited
  next (toy stop armed flag timed used limit waited) (ticks (fields cause clear lever)) =
      cond (flag || cause) (toy fault (has trip_keeps_armed && (armed || is_down lever)) true timed used limit 0)
      (in_stop armed timed lever used limit)
  next (toy run armed flag timed used limit waited) (ticks (fields cause clear lever)) =
      cond (flag && not (has forgets_fault) || cause && not (has ignores_cause))
      (cond (has stops_at_a_trip) (toy stop false false timed used limit 0)
      (toy fault false (not (has trips_in_silence)) timed used limit 0))
      (in_run armed timed lever used limit)
  next (toy fault armed flag timed used limit waited) (ticks (fields cause clear lever)) =
      cond (has trips_in_silence) (toy run false false timed used limit 0)
      (cond (cause && not (has leaves_with_cause)) (toy fault armed true timed used limit (suc waited))
      (in_fault (armed || has arms_in_fault && is_down lever) timed clear used limit (suc waited)))
  next (toy idle armed flag timed used limit waited) glitch = toy idle armed flag timed used limit waited
  next (toy stop armed flag timed used limit waited) glitch = toy stop armed true timed used limit waited
  next (toy run armed flag timed used limit waited) glitch =
      cond (has rests) (toy run (not armed) flag timed used limit waited)
      (toy run armed (flag || not (has ignores_samples)) timed used limit waited)
  next (toy fault armed flag timed used limit waited) glitch =
      cond (has leaves_in_a_sample) (toy stop true false timed used limit 0) (toy fault armed true timed used limit waited)
  next (toy idle armed flag timed used limit waited) halt =
      cond (has nods) (toy run armed flag timed used limit 0) (toy idle armed flag timed used limit waited)
  next (toy stop armed flag timed used limit waited) halt = toy stop armed flag timed used limit waited
  next (toy run armed flag timed used limit waited) halt =
      cond (has says_stop) (toy run true flag timed used limit waited)
      (cond (has nods) (toy idle armed flag timed used limit waited) (toy stop armed flag timed used limit waited))
  next (toy fault armed flag timed used limit waited) halt = toy fault armed flag timed used limit waited

  abbrev pub number_of : Toy → ℕ
  number_of (toy idle armed flag timed used limit waited) = 0
  number_of (toy stop armed flag timed used limit waited) = 1
  number_of (toy run armed flag timed used limit waited) = cond (has says_stop && armed) 1 2
  number_of (toy fault armed flag timed used limit waited) = 3

  abbrev flag_of : Toy → Bool
  flag_of (toy spot armed flag timed used limit waited) = flag

  abbrev pub turns : Toy → Bool
  turns (toy idle armed flag timed used limit waited) = false
  turns (toy stop armed flag timed used limit waited) = has drives_in_stop && not flag
  turns (toy run armed flag timed used limit waited) = not ((has starts_dry || has rests) && armed) && (not flag || has drives_with_fault)
  turns (toy fault armed flag timed used limit waited) = false

  -- a load is accepted in IDLE and STOP, any other call outside IDLE
  abbrev pub accepts : Toy → Press → Bool
  accepts (toy idle armed flag timed used limit waited) (loads retry most) = true
  accepts (toy stop armed flag timed used limit waited) (loads retry most) = true
  accepts (toy run armed flag timed used limit waited) (loads retry most) = has loads_in_run
  accepts (toy fault armed flag timed used limit waited) (loads retry most) = has leaves_by_a_load || has waits_over_a_load
  accepts (toy idle armed flag timed used limit waited) (ticks f) = false
  accepts (toy idle armed flag timed used limit waited) glitch = false
  accepts (toy idle armed flag timed used limit waited) halt = has nods
  accepts (toy stop armed flag timed used limit waited) (ticks f) = true
  accepts (toy stop armed flag timed used limit waited) glitch = true
  accepts (toy stop armed flag timed used limit waited) halt = true
  accepts (toy run armed flag timed used limit waited) (ticks f) = true
  accepts (toy run armed flag timed used limit waited) glitch = true
  accepts (toy run armed flag timed used limit waited) halt = true
  accepts (toy fault armed flag timed used limit waited) (ticks f) = true
  accepts (toy fault armed flag timed used limit waited) glitch = true
  accepts (toy fault armed flag timed used limit waited) halt = true

  abbrev pub shows : Bool → Toy → Shown
  shows accepted state = record { accepted = accepted; state = number_of state; flag = flag_of state; gates = turns state }

  abbrev pub machine : Machine
  machine =
      record {
        State = Toy;
        Call = Press;
        Answer = Shown;
        power_up = toy (cond (has wakes_in_stop) stop idle) false false false 0 0 0;
        step = next;
        answer = λ state call. shows (accepts state call) (next state call);
      }
