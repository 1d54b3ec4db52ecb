-- What the onlooker keeps of all his notes, so that one note more is enough to judge demand 3 again and to say by what a start was
-- permitted. That each field is what the history's rule says of the whole list of notes: specs/Tells.antt, proofs/Follows.antt.
use Rattle.std.specs.Prelude.{ℕ, Bool, false, not, ◌&&◌, ◌||◌, cond, leb, None, Some, is_some}
use Rattle.numbers.specs.Count.{up}
use Rattle.theorems_history.specs.History as History
use Rattle.theorems_history.specs.History.{Seen, whenever, cleared, retried, no_load_nor_start, none_of_these, ends_start}
use Rattle.onlooker.specs.declared.past.Seen.{Seen as Noted}
use Rattle.onlooker.specs.declared.past.Past.{Past}
use Rattle.onlooker.specs.declared.past.Rules.{Rules}

-- records' numbers and counts are held to what 64 bits hold
abbrev pub most : ℕ
most = 18446744073709551615

-- the code's note is the history's
abbrev pub note_of : Noted → Seen
note_of n =
    record {
      loaded = n.loaded;
      low = n.low;
      started = n.started;
      began = n.began;
      exited = n.exited;
      clear = n.clear;
      due = n.due;
      cause_stood = n.cause_stood;
      limit = n.limit;
      live_shown = n.live_shown;
      running = n.running;
      turns = n.turns;
    }

-- before the first note
abbrev pub nothing : Past
nothing =
    record { heard = 0; loaded = false; low = None; retry = None; retries = 0; faulted = false; taken = false; permitted = false }

-- what came before permits a start: a load, and since then a low or, "failing that", a timed retry
abbrev pub permits : Past → Bool
permits past = past.loaded && (is_some past.low || is_some past.retry)

-- with one note more
unfoldable pub next : Past → Seen → Past
next past call =
    record {
      heard = up most past.heard;
      loaded = call.loaded || past.loaded;
      low = cond (call.low && none_of_these call) (Some (up most past.heard)) (cond (none_of_these call) past.low None);
      retry =
          cond (retried call && no_load_nor_start call) (Some (up most past.heard)) (cond (none_of_these call) past.retry None);
      retries = cond (call.loaded || cleared call) 0 (cond (retried call) (up most past.retries) past.retries);
      faulted = History.faulted call past.faulted;
      taken = call.started && not (ends_start call) || not (ends_start call) && past.taken;
      permitted = cond call.started (permits past) past.permitted;
    }

-- the demand's three rules after one note more
unfoldable pub rules : Past → Seen → Past → Rules
rules before call after =
    record {
      gates = whenever call.turns (not after.faulted && after.taken && after.permitted);
      exit =
          whenever call.exited
          (not (call.cause_stood || call.live_shown) && (call.clear || call.due) && before.faulted);
      retries = leb after.retries call.limit;
    }
