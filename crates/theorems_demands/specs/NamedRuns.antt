-- Demand 3 is no demand to stand still. Three named runs from power-up: one that turns by a raised command, one that trips and turns again
-- by a timed retry, and one in which a command held high after a clear starts nothing. The second is the page to show a foreman.
use Rattle.std.specs.Prelude.{ℕ, List, [], ◌∷◌, ◌++◌, reverse}
use Rattle.theorems_history.specs.Log.{log}
use Rattle.theorems_history.specs.Onlooker.{notes}
use Rattle.theorems_history.specs.History.{Seen}
use Rattle.theorems_history.specs.Page.{Mark, load, low, cause, retry, start, turns, stands}
use Rattle.drive.specs.AnyCall.{Call}
use Rattle.theorems_reached.specs.Machine.{machine}
use Rattle.theorems_demands.specs.NamedCalls.{loaded_in_mode1, high, over, clear, ready, started, times}
use Rattle.onlooker.specs.Words.{words}

-- what the onlooker notes of a list of calls, the newest first
abbrev pub noted : List Call → List Seen
noted calls = notes words (log machine calls)

-- the runs below are lists of calls with the newest first: a start in mode 1 that comes to MOTORRUN, and a trip by over-voltage
abbrev pub turned : List Call
turned = reverse (ready loaded_in_mode1 ++ started 5)

abbrev pub tripped : List Call
tripped = over ∷ turned

-- n ticks in FAULT, the command held high
abbrev pub waited : ℕ → List Call
waited n = times n high ++ tripped

-- the 10,000th tick in FAULT, and one more
abbrev pub tried_again : List Call
tried_again = high ∷ high ∷ waited 9999

-- what is to be seen of it
abbrev pub foremans_page : List (ℕ × Mark)
foremans_page =
    (1, load) ∷ (2, low) ∷ (67, low) ∷ (68, low) ∷
    (69, start) ∷ (69, turns) ∷
    (78, cause) ∷ (78, stands) ∷
    (10078, retry) ∷
    (10079, start) ∷ (10079, turns) ∷ []

-- the trip ended by a clear, and n ticks with the command held high
abbrev pub held : ℕ → List Call
held n = times n high ++ (clear ∷ tripped)
