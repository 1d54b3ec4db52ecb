-- Demand 3 holds of every supervisor that obeys the laws, because what is inside never claims more than the history bears out.
use native.Mathlib.Omega.{arith}
use mathlib.Core.Path.{◌≡◌, refl, ap, sym, subst, ◌∙◌}
use mathlib.Core.Bool.{Bool, true, false, not, ◌&&◌, ◌||◌}
use mathlib.Core.List.{List, [], ◌∷◌}
use lib.Dec.{T, le→leb}
use mir.Facts.{and_yes}
use Rattle.theorems_history.specs.Log.{Machine, state_after, entry, log}
use Rattle.theorems_history.specs.Onlooker.{Words, Memory, memory_of, note, notes}
use Rattle.theorems_history.specs.History.{Seen, retried, no_load_nor_start, none_of_these, low_since, retry_since, ever_loaded}
use Rattle.theorems_history.specs.History.{permitted, faulted}
use Rattle.theorems_history.specs.History.{fault_standing, ends_start, start_taken, before_start, gates_rule, exit_rule, counted, retries}
use Rattle.theorems_history.specs.History.{retry_rule, holds, Demand3}
use Rattle.theorems_history.specs.Laws.{Inside, asleep, Step, Lawful}
use Rattle.numbers.proofs.Tests.{or_cases, or_not, by_test, decide, joins}

-- What is inside claims no more than the history bears out.
record Borne (inside : Inside) (past : List Seen) : Type 0 where
  loaded : T inside.loaded → T (ever_loaded past)
  armed : T inside.armed → T (low_since past || retry_since past)
  taken : T inside.turning → T (start_taken past)
  allowed : T inside.turning → T (permitted (before_start past))
  faulted : inside.faulted ≡ fault_standing past
  used : inside.used ≡ retries past

-- where a cause makes a fault, and a fault that is kept stays, the fault is told by these and by itself
follows : (cause keeps was now : Bool) → (T cause → T now) → (T was → T keeps → T now) → now ≡ (cause || now || keeps && was)
follows true keeps was true made stays = refl
follows false keeps was true made stays = refl
follows true keeps was false made stays = absurd (made tt)
follows false true true false made stays = absurd (stays tt tt)
follows false true false false made stays = refl
follows false false was false made stays = refl

-- ---- one call

module _ {before after : Inside} {call : Seen} {past : List Seen} (law : Step before call after) (borne : Borne before past) where
  -- only a load loads
  loaded_after : T after.loaded → T (ever_loaded (call ∷ past))
  unfolding ever_loaded
  loaded_after now =
      or_cases before.loaded call.loaded (law.loaded_by_load now)
      (λ was. let earlier = borne.loaded was in search joins)
      (λ is. search joins)

  -- where this call is neither load, start nor exit, a low in it counts, and so does what armed before it
  armed_still : T (none_of_these call) → T (before.armed || call.low) → T (low_since (call ∷ past) || retry_since (call ∷ past))
  unfolding low_since retry_since
  armed_still apart by =
      or_cases before.armed call.low by
      (λ was. or_cases (low_since past) (retry_since past) (borne.armed was) (λ low. search joins) (λ retry. search joins))
      (λ low. search joins)

  -- what is armed now had a timed retry just now, or was armed and was left so, or had a low
  armed_after : T after.armed → T (low_since (call ∷ past) || retry_since (call ∷ past))
  unfolding retry_since
  armed_after now =
      or_cases (retried call && no_load_nor_start call) (none_of_these call && (before.armed || call.low)) (law.armed_by_low_or_retry now)
      (λ retry. search joins)
      (λ else. let (apart, by) = and_yes (none_of_these call) (before.armed || call.low) else in armed_still apart by)

  calm : T after.turning → T (not (ends_start call))
  calm now = (and_yes (not (ends_start call)) (before.turning || call.started) (law.turning_by_start now)).0

  was_or_started : T after.turning → T (before.turning || call.started)
  was_or_started now = (and_yes (not (ends_start call)) (before.turning || call.started) (law.turning_by_start now)).1

  -- the start was taken before this call, or in it
  taken_after : T after.turning → T (start_taken (call ∷ past))
  unfolding start_taken
  taken_after now =
      let still = calm now in
      or_cases before.turning call.started (was_or_started now)
      (λ was. let earlier = borne.taken was in search joins)
      (λ started. search joins)

  -- a start asks for a load and arming, and the history bears both out
  start_permitted : T call.started → T (permitted past)
  unfolding permitted
  start_permitted started =
      let (is-loaded, is-armed) = and_yes before.loaded before.armed (law.start_asks started) in
      let load = borne.loaded is-loaded in
      let arming = borne.armed is-armed in
      search joins

  -- the last start is this call, or the one that was the last before it
  allowed_after : T after.turning → T (permitted (before_start (call ∷ past)))
  unfolding before_start
  allowed_after now =
      by_test (λ (p : List Seen). T (permitted p)) call.started
      (λ started. start_permitted started)
      (λ no_start. borne.allowed (or_not before.turning call.started (was_or_started now) no_start))

  -- a live fault stands inside just where the history has one
  faulted_after : after.faulted ≡ fault_standing (call ∷ past)
  unfolding fault_standing
  faulted_after =
      follows call.cause_stood (not (call.loaded || call.exited)) before.faulted after.faulted law.cause_faults
      (λ was keeps. law.fault_stays was keeps)
      ∙ ap (λ (shown : Bool). call.cause_stood || shown || not (call.loaded || call.exited) && before.faulted)
      (sym law.fault_shown)
      ∙ ap (faulted call) borne.faulted

  borne_after : Borne after (call ∷ past)
  unfolding retries
  borne_after =
      record {
        loaded = loaded_after;
        armed = armed_after;
        taken = taken_after;
        allowed = allowed_after;
        faulted = faulted_after;
        used = law.count_follows ∙ ap (counted call) borne.used;
      }

  -- the gates ask for turning, and turning for a start
  gates_hold : T (gates_rule (call ∷ past))
  unfolding gates_rule
  gates_hold =
      decide call.turns
      (λ turns.
      let now = law.gates_ask turns in
      let free = subst (λ (fault : Bool). T (not fault)) faulted_after (law.fault_ends_turning now) in
      let taken = taken_after now in
      let allowed = allowed_after now in
      search joins)
      (λ rests. search joins)

  exits_hold : T (exit_rule (call ∷ past))
  unfolding exit_rule
  exits_hold =
      decide call.exited
      (λ exits.
      let free : Bool = not (call.cause_stood || call.live_shown) in
      let way : Bool = call.clear || call.due in
      let (both, tripped) = and_yes (free && way) before.faulted (law.exit_asks exits) in
      let (no_cause, by) = and_yes free way both in
      let trip = subst T borne.faulted tripped in
      search joins)
      (λ stays. search joins)

  -- the count inside is that of the history
  retries_hold : T (retry_rule (call ∷ past))
  unfolding retry_rule
  retries_hold = omega (arith, le→leb, borne_after.used, law.count_within)

-- ---- any sequence of calls

-- power-up claims nothing
borne_at_power_up : Borne asleep []
unfolding fault_standing retries
borne_at_power_up =
    record {
      loaded = λ now. absurd now;
      armed = λ now. absurd now;
      taken = λ now. absurd now;
      allowed = λ now. absurd now;
      faulted = refl;
      used = refl;
    }

module _ (supervisor : Machine) (words : Words supervisor.Call supervisor.Answer) (lawful : Lawful supervisor words) where
  abbrev inside_after : List supervisor.Call → Inside
  inside_after calls = lawful.inside (state_after supervisor calls)

  abbrev memory_after : List supervisor.Call → Memory
  memory_after calls = memory_of words (log supervisor calls)

  abbrev pub history : List supervisor.Call → List Seen
  history calls = notes words (log supervisor calls)

  pub good : (calls : List supervisor.Call) → lawful.Good (state_after supervisor calls) (memory_after calls)
  unfolding state_after log memory_of
  good [] = lawful.good_at_power_up
  good (call ∷ earlier) = lawful.good_after (state_after supervisor earlier) (memory_after earlier) (good earlier) call

  -- each call obeys, for it is made in a good state
  law :
      (call : supervisor.Call) (earlier : List supervisor.Call)
      → Step (inside_after earlier) (note words (memory_after earlier) (entry supervisor (state_after supervisor earlier) call))
      (inside_after (call ∷ earlier))
  unfolding state_after
  law call earlier = lawful.obeys (state_after supervisor earlier) (memory_after earlier) (good earlier) call

  borne : (calls : List supervisor.Call) → Borne (inside_after calls) (history calls)
  unfolding state_after log notes
  borne [] = subst (λ (inside : Inside). Borne inside []) (sym lawful.asleep_at_power_up) borne_at_power_up
  borne (call ∷ earlier) = borne_after (law call earlier) (borne earlier)

  -- Demand 3: "Take any sequence of calls from power-up."
  pub demand3 : (calls : List supervisor.Call) → Demand3 (history calls)
  unfolding log notes holds
  demand3 [] = tt
  demand3 (call ∷ earlier) =
      let gates = gates_hold (law call earlier) (borne earlier) in
      let exits = exits_hold (law call earlier) (borne earlier) in
      let retries = retries_hold (law call earlier) (borne earlier) in
      let before = demand3 earlier in
      search joins
