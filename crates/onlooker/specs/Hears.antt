-- The onlooker of demand 3 as code: what he is after one call more with its answer. His memory and his note are the history's own
-- (`remember` and `note` of `theorems_history`), but that he counts the ticks in FAULT no further than he asks.
use Rattle.std.specs.Prelude.{ℕ, min, Bool, true, false, cond, eqb, replicate}
use Rattle.numbers.specs.Count.{up}
use Rattle.settings.specs.Settings.{all_settings}
use Rattle.drive.specs.AnyCall.{Call}
use Rattle.drive.specs.declared.answer.Answer.{Answer}
use Rattle.theorems_history.specs.Log.{Entry}
use Rattle.theorems_history.specs.Onlooker.{remember, note}
use Rattle.theorems_history.specs.Onlooker.{Memory as Remembered}
use Rattle.theorems_history.specs.History.{Seen}
use Rattle.onlooker.specs.Words.{words}
use Rattle.onlooker.specs.Past.{nothing, next, rules}
use Rattle.onlooker.specs.Scene.{dark, scene}
use Rattle.onlooker.specs.declared.Memory.{Memory}
use Rattle.onlooker.specs.declared.Onlooker.{Onlooker}
use Rattle.onlooker.specs.declared.past.Seen.{Seen as Noted}

-- "from its 10,000th tick on"
abbrev pub wait : ℕ
wait = 10000

-- his memory as the history has it
abbrev pub recalled : Memory → Remembered
recalled m = record { numbers = m.numbers; shown = m.shown; waited = m.waited; dead = m.dead }

-- and as the code holds it
abbrev pub held : Remembered → Memory
held m = record { numbers = m.numbers; shown = m.shown; waited = min m.waited wait; dead = m.dead }

-- the history's note as the code holds it
abbrev pub in_code : Seen → Noted
in_code call =
    record {
      loaded = call.loaded;
      low = call.low;
      started = call.started;
      began = call.began;
      exited = call.exited;
      clear = call.clear;
      due = call.due;
      cause_stood = call.cause_stood;
      limit = call.limit;
      live_shown = call.live_shown;
      running = call.running;
      turns = call.turns;
    }

-- before the first call
abbrev pub nothing_heard : Onlooker
nothing_heard =
    record {
      memory = record { numbers = replicate all_settings 0; shown = 0; waited = 0; dead = 0 };
      seen =
          record {
            loaded = false;
            low = false;
            started = false;
            began = false;
            exited = false;
            clear = false;
            due = false;
            cause_stood = false;
            limit = 0;
            live_shown = false;
            running = false;
            turns = false;
          };
      past = nothing;
      rules = record { gates = true; exit = true; retries = true };
      scene = dark;
    }

-- what follows from his memory now and his note
unfoldable pub follows : Onlooker → Memory → Seen → Answer → Onlooker
follows o now call answer =
    record {
      memory = now;
      seen = in_code call;
      past = next o.past call;
      rules = rules o.past call (next o.past call);
      scene = scene o.scene o.memory.shown now.dead call (next o.past call).heard answer;
    }

-- after one entry of the log more
unfoldable pub hears : Onlooker → Entry Call Answer → Onlooker
hears o e =
    follows o (held (remember words (recalled o.memory) e)) (note words (recalled o.memory) e) e.answer

-- the ticks in FAULT with one call more that loads nothing, as the code counts them
abbrev pub waited_after : Memory → Bool → ℕ
waited_after before ticked = cond (eqb before.shown 5) (cond ticked (up wait before.waited) (min before.waited wait)) 0
