-- The clauses of demand 3, one by one, of this drive after any calls and one more.
use mathlib.Core.Bool.{Bool, not, ◌&&◌, ◌||◌}
use mathlib.Core.List.{List, ◌∷◌}
use Prim.Native.Nat.{◌≤◌}
use lib.Dec.{T, leb→le}
use mir.Facts.{and_yes}
use Rattle.numbers.proofs.Tests.{follows, all_three}
use Rattle.theorems_history.specs.Log.{state_after, entry, log}
use Rattle.theorems_history.specs.Onlooker.{memory_of, note, notes}
use Rattle.theorems_history.specs.History.{Seen, since, holds, gates_rule, exit_rule, retry_rule, fault_standing, start_taken, permitted}
use Rattle.theorems_history.specs.History.{before_start}
use Rattle.theorems_history.specs.History.{low_since, retry_since, ever_loaded, retries}
use Rattle.theorems_history.proofs.Since.{quiet, no_fault_since}
use Rattle.drive.specs.AnyCall.{Call}
use Rattle.theorems_reached.specs.Machine.{machine}
use Rattle.onlooker.specs.Words.{words}
use Rattle.theorems_demands.proofs.Lawful.{drive_demand3}

module _ (call : Call) (earlier : List Call) where
  -- the onlooker's note of the newest call and its answer, and all that he noted before
  abbrev pub now : Seen
  now = note words (memory_of words (log machine earlier)) (entry machine (state_after machine earlier) call)

  abbrev pub past : List Seen
  past = notes words (log machine earlier)

  -- the rules after the newest call
  rules : T (gates_rule (now ∷ past)) × T (exit_rule (now ∷ past)) × T (retry_rule (now ∷ past))
  unfolding log notes holds
  rules =
      let all : Bool = gates_rule (now ∷ past) && exit_rule (now ∷ past) && retry_rule (now ∷ past) in
      let (three, before) = and_yes all (holds past) (drive_demand3 (call ∷ earlier)) in
      all_three (gates_rule (now ∷ past)) (exit_rule (now ∷ past)) (retry_rule (now ∷ past)) three

  -- "if the gates charge or drive, .."
  module _ (turns : T now.turns) where
    turning : T (not (fault_standing (now ∷ past))) × T (start_taken (now ∷ past)) × T (permitted (before_start (now ∷ past)))
    unfolding gates_rule
    turning =
        let dark : Bool = not (fault_standing (now ∷ past)) in
        let taken : Bool = start_taken (now ∷ past) in
        let allowed : Bool = permitted (before_start (now ∷ past)) in
        all_three dark taken allowed (follows now.turns (dark && taken && allowed) rules.0 turns)

    -- ".. no live fault stands"
    pub no_live_fault : T (not (fault_standing (now ∷ past)))
    no_live_fault = turning.0

    -- "a start was taken since the last accepted load, with no live fault and no stop since it"
    pub start_taken_lem : T (start_taken (now ∷ past))
    start_taken_lem = turning.1

    pub quiet_since_the_start : T (since quiet (λ seen. seen.started && quiet seen) (now ∷ past))
    unfolding log notes
    quiet_since_the_start = no_fault_since (now ∷ past) (drive_demand3 (call ∷ earlier)) start_taken_lem

    -- "Before that start .. an accepted tick held a low command; failing that, the last exit from FAULT was a timed retry"
    pub low_or_retry : T (low_since (before_start (now ∷ past)) || retry_since (before_start (now ∷ past)))
    unfolding permitted
    low_or_retry =
        let before = before_start (now ∷ past) in (and_yes (ever_loaded before) (low_since before || retry_since before) turning.2).1

  -- "At every exit from FAULT no live cause stood"; it was a clear or a timed retry, and a live fault stood before it
  module _ (exited : T now.exited) where
    exits : T (not (now.cause_stood || now.live_shown)) × T (now.clear || now.due) × T (fault_standing past)
    unfolding exit_rule
    exits =
        let free : Bool = not (now.cause_stood || now.live_shown) in
        let way : Bool = now.clear || now.due in
        let trip : Bool = fault_standing past in
        all_three free way trip (follows now.exited (free && way && trip) rules.1 exited)

    pub no_cause_at_exit : T (not (now.cause_stood || now.live_shown))
    no_cause_at_exit = exits.0

    pub clear_or_timed_retry : T (now.clear || now.due)
    clear_or_timed_retry = exits.1

    pub only_after_a_trip : T (fault_standing past)
    only_after_a_trip = exits.2

  -- "The timed retries since the later of the last accepted load and the last clear that ended a trip never exceed the loaded limit."
  pub retries_within_limit : retries (now ∷ past) ≤ now.limit
  unfolding retry_rule
  retries_within_limit = leb→le (retries (now ∷ past)) now.limit rules.2
