-- The onlooker's notes as a page for people: what happened, each with the number of its call, from 1. The rule has no need of it.
use Rattle.std.specs.Prelude.{ℕ, suc, Bool, true, false, not, ◌&&◌, List, [], ◌∷◌, ◌++◌, map, length}
use Rattle.theorems_history.specs.History.{Seen, cleared, retried}

pub data Mark : Type 0 where
  -- a load was accepted; an accepted tick held a low command; a live cause stood
  load low cause : Mark
  -- FAULT was left by a clear, or by a timed retry
  clear retry : Mark
  -- a start was taken; the gates charge or drive, and did not before; they do no more
  start turns stands : Mark

-- the gates charge or drive after the newest call
abbrev pub turning : List Seen → Bool
turning [] = false
turning (call ∷ past) = call.turns

abbrev only : Bool → Mark → List Mark
only true mark = mark ∷ []
only false mark = []

-- what a call did, in this order
abbrev pub marks : Seen → List Seen → List Mark
marks call past =
    only call.loaded load ++ only call.low low ++ only call.cause_stood cause
    ++ only (cleared call) clear ++ only (retried call) retry ++ only call.started start
    ++ only (call.turns && not (turning past)) turns ++ only (turning past && not call.turns) stands

-- the page, the oldest call first, as people read
unfoldable pub page : List Seen → List (ℕ × Mark)
page [] = []
page (call ∷ past) = page past ++ map (λ (mark : Mark). (suc (length past), mark)) (marks call past)
