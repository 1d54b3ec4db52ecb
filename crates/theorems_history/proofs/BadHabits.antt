-- The rule has teeth: it is no escape by silence, for the sound toy does turn; and each bad habit breaks it, on calls that are
-- written out. antt computes each verdict. That the sound toy never breaks it, on any calls, is Sound.antt's theorem.
use mathlib.Core.Path.{◌≡◌, refl}
use mathlib.Core.Bool.{Bool, true, false, not, ◌&&◌}
use mathlib.Core.List.{List, [], ◌∷◌, reverse}
use Rattle.theorems_history.specs.Log.{log}
use Rattle.theorems_history.specs.Onlooker.{notes}
use Rattle.theorems_history.specs.History.{Seen, holds}
use Rattle.theorems_history.proofs.Judges.{judges}
use Rattle.theorems_history.proofs.Toy.{down, middle, up, fields, Press, loads, ticks, glitch, halt, words, Habit, machine, sound}
use Rattle.theorems_history.proofs.Toy.{starts_unarmed, starts_in_the_middle, starts_dry, load_keeps_armed, start_keeps_armed}
use Rattle.theorems_history.proofs.Toy.{trip_keeps_armed}
use Rattle.theorems_history.proofs.Toy.{arms_in_fault, wakes_in_stop, trips_for_nothing}
use Rattle.theorems_history.proofs.Toy.{leaves_alight, leaves_with_cause, leaves_in_a_sample}
use Rattle.theorems_history.proofs.Toy.{leaves_by_a_load, waits_over_a_load, retries_at_once, retries_untimed, retries_for_ever}
use Rattle.theorems_history.proofs.Toy.{raises_its_limit}
use Rattle.theorems_history.proofs.Toy.{stores_more, rests, stops_at_a_trip, ignores_low, ignores_cause, ignores_samples, drives_with_fault}
use Rattle.theorems_history.proofs.Toy.{forgets_fault, drives_in_stop, loads_in_run, says_stop, trips_in_silence, nods}

-- ---- calls by name

-- loads that allow no retry, and one
abbrev plain : Press
plain = loads false 0

abbrev once : Press
once = loads true 1

abbrev low : Press
low = ticks (fields false false down)

abbrev halfway : Press
halfway = ticks (fields false false middle)

abbrev high : Press
high = ticks (fields false false up)

abbrev trip : Press
trip = ticks (fields true false up)

abbrev clear : Press
clear = ticks (fields false true up)

abbrev clear_with_low : Press
clear_with_low = ticks (fields false true down)

abbrev clear_with_cause : Press
clear_with_cause = ticks (fields true true up)

-- ---- the rule is no escape by silence

-- what was noted of the calls, which here stand in the order in which they are made
abbrev noted : Habit → List Press → List Seen
noted habit calls = notes words (log (machine habit) (reverse calls))

-- the gates charge or drive after the newest call
abbrev turns_now : List Seen → Bool
turns_now [] = false
turns_now (call ∷ past) = call.turns

-- by a raised command
turns_by_command : turns_now (noted sound (plain ∷ low ∷ high ∷ [])) ≡ true
unfolding judges
turns_by_command = refl

-- by a retry, with no low at all
turns_by_retry : turns_now (noted sound (once ∷ trip ∷ high ∷ high ∷ high ∷ [])) ≡ true
unfolding judges
turns_by_retry = refl

-- ---- each bad habit breaks the rule

-- a habit, and calls that show it
abbrev Row : Type 0
Row = Habit × List Press

-- the rule holds up to the newest call, and not with it
abbrev breaks_now : List Seen → Bool
breaks_now [] = false
breaks_now (call ∷ past) = holds past && not (holds (call ∷ past))

abbrev breaks : Row → Bool
breaks row = breaks_now (noted row.0 row.1)

abbrev all_break : List Row → Bool
all_break [] = true
all_break (row ∷ rows) = breaks row && all_break rows

abbrev rows : List Row
rows =
    -- a command already high after a load is no start, and halfway is one that is not high
    (starts_unarmed, plain ∷ high ∷ []) ∷
    (starts_in_the_middle, plain ∷ low ∷ halfway ∷ []) ∷
    -- a low, or a retry, before the load does not count
    (load_keeps_armed, plain ∷ low ∷ plain ∷ high ∷ []) ∷
    (load_keeps_armed, once ∷ trip ∷ high ∷ high ∷ once ∷ high ∷ []) ∷
    -- one low, or one retry, is good for one start
    (start_keeps_armed, plain ∷ low ∷ high ∷ halt ∷ high ∷ []) ∷
    (start_keeps_armed, once ∷ trip ∷ high ∷ high ∷ high ∷ halt ∷ high ∷ []) ∷
    -- .. and whatever enters RUN uses it up, though it was no start and the gates were off
    (starts_dry, plain ∷ low ∷ halfway ∷ halt ∷ high ∷ []) ∷
    -- a low before the trip, in FAULT or in the tick that leaves it does not count
    (trip_keeps_armed, plain ∷ low ∷ trip ∷ clear ∷ high ∷ []) ∷
    (arms_in_fault, plain ∷ trip ∷ low ∷ clear ∷ high ∷ []) ∷
    (arms_in_fault, plain ∷ trip ∷ clear_with_low ∷ high ∷ []) ∷
    -- no start without a load
    (wakes_in_stop, low ∷ high ∷ []) ∷
    -- no exit from FAULT, cleared or retried, while a cause stands or a fault is shown, and none but at a tick
    (leaves_with_cause, plain ∷ trip ∷ clear_with_cause ∷ []) ∷
    (leaves_with_cause, once ∷ trip ∷ trip ∷ trip ∷ []) ∷
    (leaves_alight, plain ∷ trip ∷ clear ∷ []) ∷
    (leaves_in_a_sample, plain ∷ trip ∷ glitch ∷ []) ∷
    (leaves_by_a_load, plain ∷ trip ∷ plain ∷ []) ∷
    -- a retry is timed: not before its time, and not in a mode that has none
    (retries_at_once, once ∷ trip ∷ high ∷ []) ∷
    (retries_untimed, loads false 1 ∷ trip ∷ high ∷ high ∷ []) ∷
    (waits_over_a_load, loads false 1 ∷ trip ∷ high ∷ once ∷ high ∷ []) ∷
    -- .. and follows a trip: a live fault was there
    (trips_for_nothing, once ∷ high ∷ high ∷ high ∷ []) ∷
    -- no more retries than the load allowed
    (retries_for_ever, once ∷ trip ∷ high ∷ high ∷ trip ∷ high ∷ high ∷ []) ∷
    (raises_its_limit, once ∷ trip ∷ high ∷ high ∷ trip ∷ high ∷ high ∷ []) ∷
    (stores_more, once ∷ trip ∷ high ∷ high ∷ trip ∷ high ∷ high ∷ []) ∷
    -- what ends a run ends it: a low, a live cause, dead samples, a live fault, a load, a stop
    (ignores_low, plain ∷ low ∷ high ∷ low ∷ []) ∷
    (ignores_cause, plain ∷ low ∷ high ∷ trip ∷ []) ∷
    (ignores_samples, plain ∷ low ∷ high ∷ glitch ∷ glitch ∷ []) ∷
    (drives_with_fault, plain ∷ low ∷ high ∷ glitch ∷ []) ∷
    (forgets_fault, plain ∷ low ∷ high ∷ glitch ∷ high ∷ []) ∷
    (loads_in_run, plain ∷ low ∷ high ∷ plain ∷ []) ∷
    (says_stop, plain ∷ low ∷ high ∷ halt ∷ []) ∷
    -- gates that rest and turn again without a start; a trip that shows neither FAULT nor a flag, and a start after it
    (rests, plain ∷ low ∷ high ∷ glitch ∷ halfway ∷ glitch ∷ []) ∷
    (stops_at_a_trip, plain ∷ low ∷ high ∷ trip ∷ low ∷ high ∷ []) ∷
    -- and so does any other state, though halfway a flag nor STOP was ever shown
    (trips_in_silence, plain ∷ low ∷ high ∷ trip ∷ high ∷ []) ∷
    (nods, plain ∷ low ∷ high ∷ halt ∷ halt ∷ []) ∷
    -- no turning without a start
    (drives_in_stop, plain ∷ []) ∷
    []

pub each_habit_breaks_the_rule : all_break rows ≡ true
unfolding judges
each_habit_breaks_the_rule = refl
