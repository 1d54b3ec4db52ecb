-- Demand 3 as a rule about what an onlooker notes. The demand, word for word:
--
--   "Take any sequence of calls from power-up. After each one, if the gates charge or drive, no live fault stands, and a
--   start was taken since the last accepted load, with no live fault and no stop since it. Before that start, and after the
--   previous start, the load and the last exit from FAULT, an accepted tick held a low command; failing that, the last exit
--   from FAULT was a timed retry and neither a load nor a start came between. At every exit from FAULT no live cause stood.
--   The timed retries since the later of the last accepted load and the last clear that ended a trip never exceed the loaded
--   limit."
--
-- How to read it. A `Seen` is the onlooker's note of one call and its answer. A history is the list of his notes, the newest first: in
-- `call ∷ past`, `call` is the newest, and `past` is all that came before it. Each definition below is a test of a note or of a history,
-- and stands under the words of the demand that it renders; `Demand3`, at the end, joins them. `&&` is "and", `||` is "or", `T b` says
-- that b is true, `cond b x y` is x where b is true, else y, and `leb m n` is m ≤ n.
--
-- What has to be believed: this file; `Log.antt`, what a log of calls and answers is; `Onlooker.antt`, how the notes are made of it; and of
-- a supervisor its `Words`, its machine and the statement that joins them (for the drive all three are named by `theorems_demands`
-- specs/Supervised.antt; its words stand in `onlooker`). `Laws.antt` is only a way to prove the demand of a supervisor, `Page.antt` only
-- a way to show the notes, and `proofs/BadHabits.antt` shows the rule at work on wrong supervisors.
--
-- Where the words leave a choice the stricter reading is taken:
--   started      "that start" is the last move from STOP at an accepted tick that held a high command; its own call counts as since it
--   began        "the previous start" is whatever enters a starting or running state from outside, or the first of them from any other, at
--                whatever call; it uses up the low and the retry before it, and ends the start before it
--   ever_loaded  there must be a load
--   faulted      a live fault stands from a live cause or a live word on, until FAULT is left or a load accepted
--   ends_start   a stop is a tick that held a low, any state but a starting or running one, and gates that neither charge nor drive
--   none_of_these  a low in the very tick that leaves FAULT is not after the exit
--   exit_rule    FAULT is left at an accepted tick only, by a clear or by a retry that is timed, and only after a trip
--   limit        the loaded limit is the one that the load brought
--
-- What it leaves to the other demands: that a call is refused just where its row holds, no less and no more (demand 1); that FAULT is
-- entered at all, that the causes which a supervisor counts over time are counted rightly (the live word shows them), in what order the
-- starting and running states follow the first, and that starts happen (demand 2). Report lines change no state and are not in the log.
use Rattle.std.specs.Prelude.{ℕ, suc, Bool, true, false, not, ◌&&◌, ◌||◌, cond, List, [], ◌∷◌, T, leb}

-- The note of one call and its answer.
pub record Seen : Type 0 where
  -- a load was accepted
  pub loaded : Bool
  -- an accepted tick held a low command
  pub low : Bool
  -- a start was taken: STOP was left for the state that a start leads to, at an accepted tick that held a high command
  pub started : Bool
  -- a starting or running state was entered from outside, or the first of them from any other state, at whatever call
  pub began : Bool
  -- FAULT was left, at whatever call
  pub exited : Bool
  -- an accepted tick with clear = 1
  pub clear : Bool
  -- an accepted tick at which mode and time allow a retry: by the loaded mode, and at the 10,000th accepted tick in FAULT or later
  pub due : Bool
  -- a live cause stood, by the tick's own fields and the samples so far, and no mask hides it
  pub cause_stood : Bool
  -- the loaded retry limit
  pub limit : ℕ
  -- the answer's live word is not 0
  pub live_shown : Bool
  -- the answer's state is a starting or running one
  pub running : Bool
  -- the answer's gates charge or drive; the brake is neither
  pub turns : Bool

-- ---- words that the demand uses more than once

-- "since": some call is marked, and every later one is kept
abbrev pub since : (Seen → Bool) → (Seen → Bool) → List Seen → Bool
since keep mark [] = false
since keep mark (call ∷ past) = mark call || keep call && since keep mark past

-- "if": where the first holds, so does the second
abbrev pub whenever : Bool → Bool → Bool
whenever condition result = not condition || result

-- a "clear that ended a trip"
abbrev pub cleared : Seen → Bool
cleared call = call.exited && call.clear

-- a "timed retry": FAULT was left when one was due, and not by a clear
abbrev pub retried : Seen → Bool
retried call = call.exited && call.due && not call.clear

-- ---- "Before that start .."

-- "neither a load nor a start"
abbrev pub no_load_nor_start : Seen → Bool
no_load_nor_start call = not (call.loaded || call.began)

-- itself none of "the previous start, the load and the last exit from FAULT"
abbrev pub none_of_these : Seen → Bool
none_of_these call = no_load_nor_start call && not call.exited

-- "after the previous start, the load and the last exit from FAULT, an accepted tick held a low command": strictly after, so the tick is
-- none of these itself
unfoldable pub low_since : List Seen → Bool
low_since past = since none_of_these (λ call. call.low && none_of_these call) past

-- "the last exit from FAULT was a timed retry and neither a load nor a start came between", nor was the retry's own call one
unfoldable pub retry_since : List Seen → Bool
retry_since past = since none_of_these (λ call. retried call && no_load_nor_start call) past

-- "the load": there is one
unfoldable pub ever_loaded : List Seen → Bool
ever_loaded past = since (λ call. true) (λ call. call.loaded) past

-- what came before a start permitted it: a load, and since then a low or, "failing that", a timed retry
unfoldable pub permitted : List Seen → Bool
permitted past = ever_loaded past && (low_since past || retry_since past)

-- ---- "After each one, if the gates charge or drive .."

-- a live fault after one call more: a live cause stood or the live word shows one, or one was there and neither a load nor an exit from
-- FAULT ended it
abbrev pub faulted : Seen → Bool → Bool
faulted call before = call.cause_stood || call.live_shown || not (call.loaded || call.exited) && before

-- "live fault stands"
unfoldable pub fault_standing : List Seen → Bool
fault_standing [] = false
fault_standing (call ∷ past) = faulted call (fault_standing past)

-- what ends a start: a state or gates that do not run, a load, a tick that held a low, and what begins anew and is no start
abbrev pub ends_start : Seen → Bool
ends_start call = not (call.running && call.turns) || call.loaded || call.low || call.began && not call.started

-- "a start was taken since the last accepted load, with no live fault and no stop since it": the call of the start included. "No live
-- fault" is not tested here: it follows, for the gates were on and `gates_rule` held after each of these calls (proofs/Since.antt)
unfoldable pub start_taken : List Seen → Bool
start_taken history = since (λ call. not (ends_start call)) (λ call. call.started && not (ends_start call)) history

-- "Before that start": all that came before the last start
unfoldable pub before_start : List Seen → List Seen
before_start [] = []
before_start (call ∷ past) = cond call.started past (before_start past)

-- "if the gates charge or drive, no live fault stands, and .."
unfoldable pub gates_rule : List Seen → Bool
gates_rule [] = true
gates_rule (call ∷ past) =
    whenever call.turns
    (not (fault_standing (call ∷ past)) && start_taken (call ∷ past) && permitted (before_start (call ∷ past)))

-- ---- "At every exit from FAULT no live cause stood."

-- nor does the answer show one; it was a clear or a timed retry, so an accepted tick; and there was a trip: a live fault stood before it
unfoldable pub exit_rule : List Seen → Bool
exit_rule [] = true
exit_rule (call ∷ past) =
    whenever call.exited (not (call.cause_stood || call.live_shown) && (call.clear || call.due) && fault_standing past)

-- ---- "The timed retries .. never exceed the loaded limit."

-- the count after one call more: none after an accepted load or a "clear that ended a trip", one more after a retry
abbrev pub counted : Seen → ℕ → ℕ
counted call count = cond (call.loaded || cleared call) 0 (cond (retried call) (suc count) count)

-- "The timed retries since the later of the last accepted load and the last clear that ended a trip"
unfoldable pub retries : List Seen → ℕ
retries [] = 0
retries (call ∷ past) = counted call (retries past)

unfoldable pub retry_rule : List Seen → Bool
retry_rule [] = true
retry_rule (call ∷ past) = leb (retries (call ∷ past)) call.limit

-- ---- the demand

-- "After each one": its three rules after this call, and after each one before it
unfoldable pub holds : List Seen → Bool
holds [] = true
holds (call ∷ past) = gates_rule (call ∷ past) && exit_rule (call ∷ past) && retry_rule (call ∷ past) && holds past

abbrev pub Demand3 : List Seen → Type 0
Demand3 history = T (holds history)
