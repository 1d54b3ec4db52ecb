-- The onlooker: he reads a log, oldest entry first, keeps a memory of his own, and notes of each entry what demand 3 speaks of. Of the
-- supervisor he sees the answers only, and trusts their number, state, gate and live word; lows, highs, clears, the time spent in FAULT,
-- and the causes that the fields and the samples tell, he works out himself.
use Rattle.std.specs.Prelude.{ℕ, suc, Bool, true, false, not, ◌&&◌, ◌||◌, cond, List, [], ◌∷◌, leb}
use Rattle.theorems_history.specs.Log.{Entry}
use Rattle.theorems_history.specs.History.{Seen}

-- ---- what he has to know beforehand: the words of a supervisor's calls and answers

-- What a call asks.
pub data Asked (Tick : Type 0) : Type 0 where
  -- a load of these numbers
  load : List ℕ → Asked Tick
  -- a tick with these fields
  tick : Tick → Asked Tick
  -- neither
  neither : Asked Tick

-- The words of a supervisor's calls and answers. An answer, a refusal's too, shows number, state, gate and live word as they are after the
-- call. Where a rule of the paper depends on the settings, they are the numbers of the last
-- accepted load, never those that a state holds.
pub record Words (Call Answer : Type 0) : Type 1 where
  pub Tick : Type 0
  -- the call
  pub asked : Call → Asked Tick
  -- the answer: its number is 0; the number of the state that it shows; its live word is not 0; its gates charge or drive
  pub accepted : Answer → Bool
  pub state : Answer → ℕ
  pub live_shown : Answer → Bool
  pub turns : Answer → Bool
  -- the states by their numbers: STOP, the one that a start leads to, FAULT, and all starting and running ones
  pub is_stop : ℕ → Bool
  pub is_start : ℕ → Bool
  pub is_fault : ℕ → Bool
  pub is_running : ℕ → Bool
  -- a tick, under the loaded numbers: a low command, a high one, clear = 1, and a live cause that its fields tell
  pub low : List ℕ → Tick → Bool
  pub high : List ℕ → Tick → Bool
  pub clear : Tick → Bool
  pub cause : List ℕ → Tick → Bool
  -- the dead samples in a row with one accepted call more, where the loaded numbers may say which are dead; so many of them are a cause
  pub dead_after : List ℕ → Call → ℕ → ℕ
  pub dead_cause : List ℕ → ℕ → Bool
  -- timed retries: the loaded numbers allow them, from this tick of FAULT on, and at most so many
  pub timed : List ℕ → Bool
  pub wait : ℕ
  pub limit : List ℕ → ℕ

-- ---- his memory

pub record Memory : Type 0 where
  -- the numbers of the last accepted load; none before the first
  pub numbers : List ℕ
  -- the number of the state that the last answer showed
  pub shown : ℕ
  -- the accepted ticks made in FAULT since it was entered, and since the last accepted load: the one that leaves it included, the one
  -- that entered it not
  pub waited : ℕ
  -- the dead samples in a row
  pub dead : ℕ

-- Before the first call he has seen nothing: "Power-up is IDLE, all zero."
abbrev pub nothing_yet : Memory
nothing_yet = record { numbers = []; shown = 0; waited = 0; dead = 0 }

module _ {Call Answer : Type 0} (words : Words Call Answer) where
  -- what an entry is about: a refused call is about nothing
  abbrev pub heard : Entry Call Answer → Asked words.Tick
  heard e = cond (words.accepted e.answer) (words.asked e.call) neither

  abbrev pub is_load : Asked words.Tick → Bool
  is_load (load numbers) = true
  is_load (tick fields) = false
  is_load neither = false

  -- it is a tick of which this holds
  abbrev pub is_tick_with : (words.Tick → Bool) → Asked words.Tick → Bool
  is_tick_with test (load numbers) = false
  is_tick_with test (tick fields) = test fields
  is_tick_with test neither = false

  abbrev pub is_tick : Asked words.Tick → Bool
  is_tick = is_tick_with (λ fields. true)

  abbrev pub numbers_after : Asked words.Tick → List ℕ → List ℕ
  numbers_after (load numbers) earlier = numbers
  numbers_after (tick fields) earlier = earlier
  numbers_after neither earlier = earlier

  -- his memory with one entry more
  abbrev pub remember : Memory → Entry Call Answer → Memory
  remember memory e =
      record {
        numbers = numbers_after (heard e) memory.numbers;
        shown = words.state e.answer;
        waited =
            cond (words.is_fault memory.shown && not (is_load (heard e)))
            (cond (is_tick (heard e)) (suc memory.waited) memory.waited)
            0;
        dead = cond (words.accepted e.answer) (words.dead_after memory.numbers e.call memory.dead) memory.dead;
      }

  -- ---- his note of an entry: from what he remembered before it, what it is about, and what he remembers with it
  abbrev pub noted : Memory → Asked words.Tick → Memory → Answer → Seen
  noted before about now answer =
      record {
        loaded = is_load about;
        low = is_tick_with (words.low now.numbers) about;
        started = words.is_start now.shown && words.is_stop before.shown && is_tick_with (words.high now.numbers) about;
        began =
            words.is_running now.shown && not (words.is_running before.shown)
            || words.is_start now.shown && not (words.is_start before.shown);
        exited = words.is_fault before.shown && not (words.is_fault now.shown);
        clear = is_tick_with words.clear about;
        due = is_tick about && words.timed now.numbers && leb words.wait now.waited;
        cause_stood = is_tick_with (words.cause now.numbers) about || words.dead_cause now.numbers now.dead;
        limit = words.limit now.numbers;
        live_shown = words.live_shown answer;
        running = words.is_running now.shown;
        turns = words.turns answer;
      }

  abbrev pub note : Memory → Entry Call Answer → Seen
  note memory e = noted memory (heard e) (remember memory e) e.answer

  -- ---- a whole log, the newest entry first
  unfoldable pub memory_of : List (Entry Call Answer) → Memory
  memory_of [] = nothing_yet
  memory_of (e ∷ earlier) = remember (memory_of earlier) e

  unfoldable pub notes : List (Entry Call Answer) → List Seen
  notes [] = []
  notes (e ∷ earlier) = note (memory_of earlier) e ∷ notes earlier
