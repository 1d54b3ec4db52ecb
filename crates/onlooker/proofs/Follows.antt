-- Each field that he keeps follows the history's own recursion, note by note; the numbers are exact while 64 bits hold them.
use Prim.Native.Nat.{ℕ, suc, ◌≤◌}
use native.Mathlib.Omega.{arith}
use mathlib.Core.Path.{◌≡◌, refl, ap, ◌∙◌}
use mathlib.Core.Bool.{Bool, true, false, ◌&&◌, ◌||◌, cond}
use mathlib.Core.List.{List, [], ◌∷◌}
use lib.Dec.{T}
use lib.ListN.{length}
use Rattle.std.specs.Prelude.{None, Some, is_some}
use Rattle.std.proofs.lemmas.Bool.Decides.{nat_tests}
use Rattle.std.proofs.lemmas.Grind.{common_steps}
use Rattle.numbers.specs.Count.{up}
use Rattle.drive.specs.AnyCall.{Call}
use Rattle.drive.specs.declared.answer.Answer.{Answer}
use Rattle.theorems_history.specs.Log.{Entry}
use Rattle.theorems_history.specs.Onlooker.{note, notes, memory_of}
use Rattle.theorems_history.specs.History as History
use Rattle.theorems_history.specs.History.{Seen, since, counted, none_of_these, no_load_nor_start, retried}
use Rattle.onlooker.specs.Words.{words}
use Rattle.onlooker.specs.Past.{most, permits, next, rules}
use Rattle.onlooker.specs.Scene.{scene}
use Rattle.onlooker.specs.Hears.{hears, follows}
use Rattle.onlooker.specs.Tells.{heard_of, since_at, low_at, retry_at, Named, newest, earlier, Tells}
use Rattle.onlooker.specs.declared.past.Past.{Past}
use Rattle.onlooker.specs.declared.past.Rules.{Rules}
use Rattle.onlooker.proofs.Remembers.{noted_alike}

-- ---- what is kept of a list of notes

unfoldable pub kept : List Seen → Past
kept [] = Rattle.onlooker.specs.Past.nothing
kept (call ∷ past) = next (kept past) call

-- a place is named exactly where `since` finds one
pub since_named : (keep mark : Seen → Bool) (past : List Seen) → is_some (since_at keep mark past) ≡ since keep mark past
unfolding since_at
since_named keep mark [] = refl
since_named keep mark (call ∷ past) = grind (arith, common_steps, since_named keep mark past)

-- the retries are at most as many as the calls
retries_within_lem : (past : List Seen) → History.retries past ≤ length past
unfolding History.retries
retries_within_lem [] = omega arith
retries_within_lem (call ∷ past) = grind (arith, nat_tests, retries_within_lem past)

pub record Keeps (p : Past) (past : List Seen) : Type 0 where
  pub heard : p.heard ≡ length past
  pub loaded : p.loaded ≡ History.ever_loaded past
  pub low : p.low ≡ low_at past
  pub retry : p.retry ≡ retry_at past
  pub retries : p.retries ≡ History.retries past
  pub faulted : p.faulted ≡ History.fault_standing past
  pub taken : p.taken ≡ History.start_taken past
  pub permitted : p.permitted ≡ History.permitted (History.before_start past)

permits_alike : {p : Past} {past : List Seen} → Keeps p past → permits p ≡ History.permitted past
unfolding History.permitted History.low_since History.retry_since
permits_alike {p} {past} k =
    rw (
      k.loaded,
      k.low,
      k.retry,
      since_named none_of_these (λ call. call.low && none_of_these call) past,
      since_named none_of_these (λ call. retried call && no_load_nor_start call) past,
    )

keeps_next : (p : Past) (call : Seen) (past : List Seen)
    → suc (length past) ≤ most → Keeps p past → Keeps (next p call) (call ∷ past)
unfolding next since_at History.ever_loaded History.retries History.fault_standing History.start_taken History.before_start
keeps_next p call past short k =
    let counted-heard : up most p.heard ≡ suc (length past) = rw k.heard (omega arith) in
    let counted-retries : up most p.retries ≡ suc (History.retries past) =
    rw k.retries (let few = retries_within_lem past in omega arith)
    in
    record {
      heard = counted-heard;
      loaded = rw k.loaded;
      low = rw (counted-heard, k.low);
      retry = rw (counted-heard, k.retry);
      retries = rw (counted-retries, k.retries);
      faulted = rw k.faulted;
      taken = rw k.taken;
      permitted = rw k.permitted (permitted_before call.started);
    }
  where
    permitted_before : (started : Bool)
        → cond started (permits p) (History.permitted (History.before_start past))
        ≡ History.permitted (cond started past (History.before_start past))
    permitted_before true = permits_alike k
    permitted_before false = refl

-- ---- the log

-- what he keeps after a log is what is kept of the history's notes
kept_of : (log : List (Entry Call Answer)) → (heard_of log).past ≡ kept (notes words log)
unfolding heard_of hears follows kept notes
kept_of [] = refl
kept_of (e ∷ before) = rw (kept_of before, noted_alike e before)

keeps : (past : List Seen) → length past ≤ most → Keeps (kept past) past
unfolding kept since_at History.ever_loaded History.retries History.fault_standing History.start_taken
    History.before_start History.permitted
keeps [] short =
    record {
      heard = refl;
      loaded = refl;
      low = refl;
      retry = refl;
      retries = refl;
      faulted = refl;
      taken = refl;
      permitted = refl;
    }
keeps (call ∷ past) short = keeps_next (kept past) call past short (keeps past (omega arith))

noted_length : (log : List (Entry Call Answer)) → length (notes words log) ≡ length log
unfolding notes
noted_length [] = refl
noted_length (e ∷ before) = ap suc (noted_length before)

-- "the low that it names is the last one that `low_since` accepts, the retry the one that `retry_since` does": both are `since`
pub names_the_last : (keep mark : Seen → Bool) (past : List Seen)
    → T (since keep mark past) → (number : ℕ) × (since_at keep mark past ≡ Some number) × Named keep mark past number
unfolding since_at
names_the_last keep mark [] found = absurd found
names_the_last keep mark (call ∷ past) found = last (mark call) (keep call) refl refl found (names_the_last keep mark past) where
  last : (marked kept : Bool) → marked ≡ mark call → kept ≡ keep call → T (marked || kept && since keep mark past)
      → (T (since keep mark past) → (number : ℕ) × (since_at keep mark past ≡ Some number) × Named keep mark past number)
      → (number : ℕ)
      × (cond marked (Some (suc (length past))) (cond kept (since_at keep mark past) None) ≡ Some number)
      × Named keep mark (call ∷ past) number
  last true kept m k t before = (suc (length past), refl, newest call past (rw (← m) tt))
  last false true m k t before =
      let there = before t in
      (there.0, there.1, earlier call past there.0 (rw (← m) tt) (rw (← k) tt) there.2)
  last false false m k t before = absurd t

-- the three rules, with one note more
record Ruled (by : Rules) (past : List Seen) : Type 0 where
  pub gates : by.gates ≡ History.gates_rule past
  pub exit : by.exit ≡ History.exit_rule past
  pub retries : by.retries ≡ History.retry_rule past

ruled_next : (call : Seen) (past : List Seen) → suc (length past) ≤ most
    → Ruled (rules (kept past) call (next (kept past) call)) (call ∷ past)
unfolding kept rules History.gates_rule History.exit_rule History.retry_rule
ruled_next call past short =
    let before = keeps past (omega arith) in
    let after = keeps (call ∷ past) short in
    record {
      gates = rw (after.faulted, after.taken, after.permitted);
      exit = rw before.faulted;
      retries = rw after.retries;
    }

ruled : (log : List (Entry Call Answer)) → length log ≤ most → Ruled (heard_of log).rules (notes words log)
unfolding heard_of hears follows notes History.gates_rule History.exit_rule History.retry_rule
ruled [] short = record { gates = refl; exit = refl; retries = refl }
ruled (e ∷ before) short =
    rw (kept_of before, noted_alike e before)
    (ruled_next (note words (memory_of words before) e) (notes words before) (rw (noted_length before) short))

-- "what it says is what the history's rule says of that log", for every log that 64 bits can number
pub tells : (log : List (Entry Call Answer)) → length log ≤ most → Tells log
tells log short =
    let k = keeps (notes words log) (rw (noted_length log) short) in
    let same = kept_of log in
    let judged = ruled log short in
    record {
      heard = rw same (k.heard ∙ noted_length log);
      loaded = rw same k.loaded;
      low = rw same k.low;
      retry = rw same k.retry;
      retries = rw same k.retries;
      faulted = rw same k.faulted;
      taken = rw same k.taken;
      permitted = rw same k.permitted;
      gates = judged.gates;
      exit = judged.exit;
      retries_within = judged.retries;
    }

-- "no low was held since the trip": the low that the scene keeps is the last one of all
pub last_low : (log : List (Entry Call Answer)) → length log ≤ most
    → (heard_of log).scene.low ≡ since_at (λ call. true) (λ call. call.low) (notes words log)
unfolding heard_of hears follows scene next since_at notes
last_low [] short = refl
last_low (e ∷ before) short =
    let shorter : length before ≤ most = omega arith in
    let heard = (tells before shorter).heard in
    let counted : up most (heard_of before).past.heard ≡ suc (length (notes words before)) =
    rw (heard, noted_length before) (omega arith)
    in
    let past = notes words before in
    rw (counted, last_low before shorter)
    (ap (λ (s : Seen). cond s.low (Some (suc (length past))) (since_at (λ call. true) (λ call. call.low) past)) (noted_alike e before))
