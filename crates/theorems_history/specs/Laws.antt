-- What a supervisor has to obey so that demand 3 holds of every sequence of its calls: facts about one call at a time.
--
-- The laws speak of what the supervisor holds inside, its arming flag and its count of retries among them. The rule itself names nothing
-- of this: the laws are a way to prove the demand of a supervisor, and no part of what the demand says.
use Rattle.std.specs.Prelude.{ℕ, ◌≤◌, ◌≡◌, Bool, false, not, ◌&&◌, ◌||◌, T}
use Rattle.theorems_history.specs.Log.{Machine, entry}
use Rattle.theorems_history.specs.Onlooker.{Words, Memory, nothing_yet, remember, note}
use Rattle.theorems_history.specs.History.{Seen, retried, no_load_nor_start, none_of_these, ends_start, counted}

-- What a supervisor holds inside.
pub record Inside : Type 0 where
  -- a load was accepted since power-up
  pub loaded : Bool
  -- a start may be taken
  pub armed : Bool
  -- a live fault stands
  pub faulted : Bool
  -- the gates may charge or drive
  pub turning : Bool
  -- the retries used
  pub used : ℕ

-- At power-up there is nothing inside.
abbrev pub asleep : Inside
asleep = record { loaded = false; armed = false; faulted = false; turning = false; used = 0 }

-- One call: what was inside before it, what was noted of it, and what is inside after it.
pub record Step (before : Inside) (call : Seen) (after : Inside) : Type 0 where
  pub loaded_by_load : T after.loaded → T (before.loaded || call.loaded)
  -- a timed retry arms, and so does a low; load, start and any other exit leave nothing armed
  pub armed_by_low_or_retry :
      T after.armed → T (retried call && no_load_nor_start call || none_of_these call && (before.armed || call.low))
  pub start_asks : T call.started → T (before.loaded && before.armed)
  -- the live word shows the live fault; a live cause makes one, and only a load or an exit from FAULT ends it
  pub fault_shown : call.live_shown ≡ after.faulted
  pub cause_faults : T call.cause_stood → T after.faulted
  pub fault_stays : T before.faulted → T (not (call.loaded || call.exited)) → T after.faulted
  -- only a start lets the gates charge or drive; a disturbance takes this away, and only a start gives it back
  pub turning_by_start : T after.turning → T (not (ends_start call) && (before.turning || call.started))
  pub fault_ends_turning : T after.turning → T (not after.faulted)
  pub gates_ask : T call.turns → T after.turning
  -- what an exit from FAULT asks
  pub exit_asks : T call.exited → T (not (call.cause_stood || call.live_shown) && (call.clear || call.due) && before.faulted)
  -- the retries used are those of the history, and never more than the limit
  pub count_follows : after.used ≡ counted call before.used
  pub count_within : after.used ≤ call.limit

-- A supervisor that obeys. `Good` is whatever is known of every state that calls can reach and of what the onlooker then remembers, for
-- use in the proof of the laws.
pub record Lawful (supervisor : Machine) (words : Words supervisor.Call supervisor.Answer) : Type 1 where
  pub inside : supervisor.State → Inside
  pub Good : supervisor.State → Memory → Type 0
  pub good_at_power_up : Good supervisor.power_up nothing_yet
  pub good_after :
      (state : supervisor.State) (memory : Memory)
      → Good state memory
      → (call : supervisor.Call)
      → Good (supervisor.step state call) (remember words memory (entry supervisor state call))
  pub asleep_at_power_up : inside supervisor.power_up ≡ asleep
  pub obeys :
      (state : supervisor.State) (memory : Memory)
      → Good state memory
      → (call : supervisor.Call)
      → Step (inside state) (note words memory (entry supervisor state call)) (inside (supervisor.step state call))
