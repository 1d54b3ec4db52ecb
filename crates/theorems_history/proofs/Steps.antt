-- The calls of a supervisor that is built as document 01 says, each kind with the laws that it obeys: a call that is none of the others, a
-- load, a start, a clear that ends a trip, and a timed retry.
use mathlib.Core.Path.{◌≡◌, sym, subst}
use mathlib.Core.Bool.{Bool, not, ◌&&◌, ◌||◌}
use Prim.Native.Nat.{suc, ◌≤◌}
use lib.Dec.{T}
use lib.Ieee.Bits.{is_true, is_false}
use mir.Facts.{and_yes}
use Rattle.theorems_history.specs.History.{Seen, retried, no_load_nor_start, none_of_these, ends_start, counted}
use Rattle.theorems_history.specs.Laws.{Inside, Step}
use Rattle.numbers.proofs.Tests.{never, joins}

module _
    (before : Inside) (call : Seen) (after : Inside)
    (gates : T call.turns → T after.turning)
    (within : after.used ≤ call.limit)
    (shown : call.live_shown ≡ after.faulted)
    (caused : T call.cause_stood → T after.faulted)
    (kept : T before.faulted → T (not (call.loaded || call.exited)) → T after.faulted)
    (dark : T after.turning → T (not after.faulted))
  where
    -- what is left to show of a call, in the order of the laws: loading, arming, starting, turning, leaving FAULT, counting
    laws :
        (T after.loaded → T (before.loaded || call.loaded))
        → (T after.armed → T (retried call && no_load_nor_start call || none_of_these call && (before.armed || call.low)))
        → (T call.started → T (before.loaded && before.armed))
        → (T after.turning → T (not (ends_start call) && (before.turning || call.started)))
        → (T call.exited → T (not (call.cause_stood || call.live_shown) && (call.clear || call.due) && before.faulted))
        → after.used ≡ counted call before.used
        → Step before call after
    laws loads arms starts turns exits counts =
        record {
          loaded_by_load = loads;
          armed_by_low_or_retry = arms;
          start_asks = starts;
          fault_shown = shown;
          cause_faults = caused;
          fault_stays = kept;
          turning_by_start = turns;
          fault_ends_turning = dark;
          gates_ask = gates;
          exit_asks = exits;
          count_follows = counts;
          count_within = within;
        }

    -- neither load, start nor exit: only a low arms, and what turns has turned before
    pub passes_by :
        T (not call.loaded)
        → T (not call.started)
        → T (not call.began)
        → T (not call.exited)
        → (T after.loaded → T before.loaded)
        → (T after.armed → T (before.armed || call.low))
        → (T after.turning → T (not (ends_start call) && before.turning))
        → after.used ≡ before.used
        → Step before call after
    passes_by no_load no_start none-began no-exit loaded armed turning same =
        laws
        (λ now. let was = loaded now in search joins)
        (λ now. let by = armed now in search joins)
        (never call.started no_start)
        (λ now. let (calm, was) = and_yes (not (ends_start call)) before.turning (turning now) in search joins)
        (never call.exited no-exit)
        (rw (is_false call.loaded no_load, is_false call.exited no-exit) same)

    -- an accepted load: nothing is armed, nothing turns, no retry is used
    pub loads :
        T call.loaded
        → T (not call.started)
        → T (not call.exited)
        → T (not after.armed)
        → T (not after.turning)
        → after.used ≡ 0
        → Step before call after
    loads load no_start no-exit disarmed rests none =
        laws
        (λ now. search joins)
        (never after.armed disarmed)
        (never call.started no_start)
        (never after.turning rests)
        (never call.exited no-exit)
        (rw (is_true call.loaded load) none)

    -- the start, of what was loaded and armed; it disarms
    pub starts :
        T (not call.loaded)
        → T call.started
        → T (not call.exited)
        → T before.loaded
        → T before.armed
        → T (not after.armed)
        → (T after.turning → T (not (ends_start call)))
        → after.used ≡ before.used
        → Step before call after
    starts no_load start no-exit loaded armed disarmed calm same =
        laws
        (λ now. search joins)
        (never after.armed disarmed)
        (λ now. search joins)
        (λ now. let quiet = calm now in search joins)
        (never call.exited no-exit)
        (rw (is_false call.loaded no_load, is_false call.exited no-exit) same)

    -- FAULT is left: no cause stood, a live fault had, and nothing turns
    module _
        (no_load : T (not call.loaded))
        (no_start : T (not call.started))
        (none-began : T (not call.began))
        (exit : T call.exited)
        (no_cause : T (not call.cause_stood))
        (tripped : T before.faulted)
        (dark-after : T (not after.faulted))
        (loaded : T after.loaded → T before.loaded)
        (rests : T (not after.turning))
      where
        none_shown : T (not call.live_shown)
        none_shown = subst (λ (b : Bool). T (not b)) (sym shown) dark-after

        pub clears : T call.clear → T (not after.armed) → after.used ≡ 0 → Step before call after
        clears clear disarmed none =
            laws
            (λ now. let was = loaded now in search joins)
            (never after.armed disarmed)
            (never call.started no_start)
            (never after.turning rests)
            (λ now. let hidden = none_shown in search joins)
            (rw (is_false call.loaded no_load, is_true call.exited exit, is_true call.clear clear) none)

        pub retries : T (not call.clear) → T call.due → after.used ≡ suc before.used → Step before call after
        retries no-clear due one_more =
            laws
            (λ now. let was = loaded now in search joins)
            (λ now. search joins)
            (never call.started no_start)
            (never after.turning rests)
            (λ now. let hidden = none_shown in search joins)
            (rw (
              is_false call.loaded no_load,
              is_true call.exited exit,
              is_false call.clear no-clear,
              is_true call.due due,
            )
            one_more)
