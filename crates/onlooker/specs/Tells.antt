-- What he says of a log is what the history's rule says of it. A log is any list of calls with answers, the newest first: whoever gave
-- the answers, this drive or a board with other firmware.
use Rattle.std.specs.Prelude.{ℕ, suc, ◌≡◌, Bool, not, ◌&&◌, cond, List, [], ◌∷◌, T, length, Option, None, Some}
use Rattle.drive.specs.AnyCall.{Call}
use Rattle.drive.specs.declared.answer.Answer.{Answer}
use Rattle.theorems_history.specs.Log.{Entry}
use Rattle.theorems_history.specs.Onlooker.{notes}
use Rattle.theorems_history.specs.History as History
use Rattle.theorems_history.specs.History.{Seen, none_of_these, no_load_nor_start}
use Rattle.onlooker.specs.Words.{words}
use Rattle.onlooker.specs.Hears.{nothing_heard, hears}
use Rattle.onlooker.specs.declared.Onlooker.{Onlooker}

-- he hears a log, the oldest entry first
unfoldable pub heard_of : List (Entry Call Answer) → Onlooker
heard_of [] = nothing_heard
heard_of (e ∷ before) = hears (heard_of before) e

-- `since` as a place: the number, from 1, of the last call that is marked, where every later one is kept
unfoldable pub since_at : (Seen → Bool) → (Seen → Bool) → List Seen → Option ℕ
since_at keep mark [] = None
since_at keep mark (call ∷ past) = cond (mark call) (Some (suc (length past))) (cond (keep call) (since_at keep mark past) None)

-- the call of this number is marked; every later one is kept, and none of them is marked
pub data Named (keep mark : Seen → Bool) : List Seen → ℕ → Type 0 where
  newest : (call : Seen) (past : List Seen) → T (mark call) → Named keep mark (call ∷ past) (suc (length past))
  earlier :
      (call : Seen) (past : List Seen) (number : ℕ)
      → T (not (mark call))
      → T (keep call)
      → Named keep mark past number
      → Named keep mark (call ∷ past) number

-- the low that `low_since` accepts, and the timed retry that `retry_since` does
abbrev pub low_at : List Seen → Option ℕ
low_at past = since_at none_of_these (λ call. call.low && none_of_these call) past

abbrev pub retry_at : List Seen → Option ℕ
retry_at past = since_at none_of_these (λ call. History.retried call && no_load_nor_start call) past

-- what he says after a log
pub record Tells (log : List (Entry Call Answer)) : Type 0 where
  pub heard : (heard_of log).past.heard ≡ length log
  pub loaded : (heard_of log).past.loaded ≡ History.ever_loaded (notes words log)
  -- by what the next start is permitted
  pub low : (heard_of log).past.low ≡ low_at (notes words log)
  pub retry : (heard_of log).past.retry ≡ retry_at (notes words log)
  pub retries : (heard_of log).past.retries ≡ History.retries (notes words log)
  pub faulted : (heard_of log).past.faulted ≡ History.fault_standing (notes words log)
  pub taken : (heard_of log).past.taken ≡ History.start_taken (notes words log)
  pub permitted : (heard_of log).past.permitted ≡ History.permitted (History.before_start (notes words log))
  -- the demand's three rules after the newest call
  pub gates : (heard_of log).rules.gates ≡ History.gates_rule (notes words log)
  pub exit : (heard_of log).rules.exit ≡ History.exit_rule (notes words log)
  pub retries_within : (heard_of log).rules.retries ≡ History.retry_rule (notes words log)
