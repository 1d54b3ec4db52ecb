-- What it means that the judge names nothing: every line is the supervisor's, and the board's log keeps demand 3.
use Prim.Native.Nat.{ℕ, suc, ◌≤◌}
use native.Mathlib.Omega.{arith}
use mathlib.Core.Path.{◌≡◌, refl, ap, sym, subst, ◌∙◌}
use mathlib.Core.Bool.{Bool, true, false, not, ◌&&◌}
use mathlib.Core.List.{List, [], ◌∷◌}
use lib.Dec.{T}
use lib.ListN.{length}
use Rattle.std.specs.Prelude.{Option, Some, None}
use Rattle.std.specs.Option.{option_or}
use Rattle.std.specs.Bool.{then_some}
use Rattle.numbers.proofs.Tests.{never, by_test, all_three}
use Rattle.drive.specs.AnyCall.{Call, reply}
use Rattle.drive.specs.declared.Drive.{Drive}
use Rattle.drive.specs.declared.answer.Answer.{Answer}
use Rattle.drive.specs.declared.answer.Reply.{Reply}
use Rattle.lines.specs.Earlier.{line_like}
use Rattle.lines.specs.Shown.{same_bytes, is_good}
use Rattle.lines.proofs.LineOf.{same_equal}
use Rattle.theorems_history.specs.Log.{Entry}
use Rattle.theorems_history.specs.Onlooker.{memory_of, note, notes}
use Rattle.theorems_history.specs.History.{Seen, gates_rule, exit_rule, retry_rule, holds, Demand3}
use Rattle.onlooker.specs.Words.{words}
use Rattle.onlooker.specs.Past.{most}
use Rattle.onlooker.specs.Hears.{hears}
use Rattle.onlooker.specs.Tells.{heard_of}
use Rattle.onlooker.specs.declared.Onlooker.{Onlooker}
use Rattle.onlooker.proofs.Follows.{tells}
use Rattle.judge.specs.Judged.{shown_in, answer_of, kept, line_for, line_kept, differs_now, breaks_now, read_entry, entry_with, number_of}
use Rattle.judge.specs.declared.End.{End}
use Rattle.judge.specs.Printed.{Printed, judge_all, board_log, Readable, drive_after, Supervised}
use Rattle.judge.specs.declared.Judge.{Judge}
use Rattle.judge.proofs.Forms.{same_found}

-- nothing is named: nothing was named before, and what would be named is right
unnamed : {A : Type 0} (before : Option A) (right : Bool) (new : A) → option_or before (then_some (not right) new) ≡ None
    → (before ≡ None) × T right
unnamed (Some named) right new none = cc
unnamed None true new none = (refl, tt)
unnamed None false new none = cc

pub numbered : (j : Judge) → number_of j ≡ 0 → ⊥
numbered j none = omega arith

-- what an entry leaves, field by field
module _ (j : Judge) (said : Reply) (heard : Onlooker) (end : Option End) (line : List ℕ) where
  abbrev left : Judge
  left = entry_with j said heard end line

  entry_drive : left.drive ≡ said.drive
  unfolding read_entry
  entry_drive = by_test (λ (after : Judge). after.drive ≡ said.drive) (is_good line) (λ _. refl) (λ _. refl)

  as_read : T (is_good line) → left ≡ read_entry j said heard end line
  as_read read =
      by_test (λ (after : Judge). after ≡ read_entry j said heard end line) (is_good line) (λ _. refl)
      (λ fails. never (is_good line) fails read)

  entry_heard : T (is_good line) → left.onlooker ≡ heard
  unfolding read_entry
  entry_heard read = ap (λ (after : Judge). after.onlooker) (as_read read)

  entry_differs : T (is_good line) → left.differs ≡ None
      → (j.differs ≡ None) × T (same_bytes (line_for (length line) said.answer) (line_kept line))
  unfolding read_entry differs_now
  entry_differs read none =
      unnamed j.differs (same_bytes (line_for (length line) said.answer) (line_kept line))
      (record { number = number_of j; expected = line_for (length line) said.answer; found = line_kept line })
      (sym (ap (λ (after : Judge). after.differs) (as_read read)) ∙ none)

  entry_breaks : T (is_good line) → left.breaks ≡ None → (j.breaks ≡ None) × T (kept heard.rules)
  unfolding read_entry breaks_now
  entry_breaks read none =
      unnamed j.breaks (kept heard.rules) (record { number = number_of j; rules = heard.rules })
      (sym (ap (λ (after : Judge). after.breaks) (as_read read)) ∙ none)

-- an entry of these calls
module _ (p : Printed) (before : List Printed) where
  abbrev pub said : Reply
  said = reply (judge_all before).drive p.call

  abbrev pub hearing : Onlooker
  hearing = hears (judge_all before).onlooker (record { call = p.call; answer = answer_of (shown_in p.line) })

pub drive_is : (ps : List Printed) → (judge_all ps).drive ≡ drive_after ps
unfolding judge_all drive_after
drive_is [] = refl
drive_is (p ∷ before) =
    entry_drive (judge_all before) (said p before) (hearing p before) None p.line
    ∙ ap (λ (d : Drive). (reply d p.call).drive) (drive_is before)

pub no_line_differs : (ps : List Printed) → Readable ps → (judge_all ps).differs ≡ None → Supervised ps
unfolding judge_all Readable Supervised
no_line_differs [] readable none = tt
no_line_differs (p ∷ before) readable none =
    let d = (judge_all before).drive in
    let (earlier, same) =
    entry_differs (judge_all before) (said p before) (hearing p before) None p.line readable.0 none
    in (
      same_found d p.call p.line readable.0
          (same_equal (line_for (length p.line) (said p before).answer) (line_kept p.line) same)
          ∙ ap (λ (d : Drive). line_like (length p.line) (reply d p.call).answer) (drive_is before),
      no_line_differs before readable.1 earlier,
    )

-- with every line read, the onlooker has heard the board's log
pub heard_is : (ps : List Printed) → Readable ps → (judge_all ps).onlooker ≡ heard_of (board_log ps)
unfolding judge_all Readable board_log heard_of
heard_is [] readable = refl
heard_is (p ∷ before) readable =
    entry_heard (judge_all before) (said p before) (hearing p before) None p.line readable.0
    ∙ ap (λ (o : Onlooker). hears o (record { call = p.call; answer = answer_of (shown_in p.line) })) (heard_is before readable.1)

pub length-log : (ps : List Printed) → length (board_log ps) ≡ length ps
unfolding board_log
length-log [] = refl
length-log (p ∷ before) = ap suc (length-log before)

-- the demand holds after the newest call of a log where the onlooker says so
held_after : (log : List (Entry Call Answer)) → length log ≤ most → T (kept (heard_of log).rules)
    → T (gates_rule (notes words log)) × T (exit_rule (notes words log)) × T (retry_rule (notes words log))
held_after log few held =
    let says = tells log few in
    let (gates, exit, retries) = all_three (heard_of log).rules.gates (heard_of log).rules.exit (heard_of log).rules.retries held in
    (subst T says.gates gates, subst T says.exit exit, subst T says.retries_within retries)

all_four : (a b c d : Bool) → T a → T b → T c → T d → T (a && b && c && d)
all_four false b c d p q r s = absurd p
all_four true false c d p q r s = absurd q
all_four true true false d p q r s = absurd r
all_four true true true d p q r s = s

holds_seen : (call : Seen) (past : List Seen)
    → T (gates_rule (call ∷ past)) → T (exit_rule (call ∷ past)) → T (retry_rule (call ∷ past))
    → Demand3 past → Demand3 (call ∷ past)
unfolding holds
holds_seen call past gates exit retries earlier =
    all_four (gates_rule (call ∷ past)) (exit_rule (call ∷ past)) (retry_rule (call ∷ past)) (holds past) gates exit retries earlier

holds_on : (log : List (Entry Call Answer)) (e : Entry Call Answer)
    → T (gates_rule (notes words (e ∷ log))) × T (exit_rule (notes words (e ∷ log))) × T (retry_rule (notes words (e ∷ log)))
    → Demand3 (notes words log)
    → Demand3 (notes words (e ∷ log))
unfolding notes
holds_on log e (gates, exit, retries) earlier =
    holds_seen (note words (memory_of words log) e) (notes words log) gates exit retries earlier

nothing_breaks : Demand3 (notes words [])
unfolding notes holds
nothing_breaks = tt

pub heard_now : (p : Printed) (before : List Printed) → Readable before
    → hearing p before ≡ heard_of (record { call = p.call; answer = answer_of (shown_in p.line) } ∷ board_log before)
unfolding heard_of
heard_now p before readable =
    ap (λ (o : Onlooker). hears o (record { call = p.call; answer = answer_of (shown_in p.line) })) (heard_is before readable)

pub no_call_breaks : (ps : List Printed) → Readable ps → length ps ≤ most → (judge_all ps).breaks ≡ None
    → Demand3 (notes words (board_log ps))
unfolding judge_all Readable board_log
no_call_breaks [] readable few none = nothing_breaks
no_call_breaks (p ∷ before) readable few none =
    let (earlier, held) =
    entry_breaks (judge_all before) (said p before) (hearing p before) None p.line readable.0 none
    in
    let short : suc (length (board_log before)) ≤ most = omega (arith, length-log before) in
    holds_on (board_log before) (record { call = p.call; answer = answer_of (shown_in p.line) })
    (held_after (record { call = p.call; answer = answer_of (shown_in p.line) } ∷ board_log before) short
    (subst (λ (o : Onlooker). T (kept o.rules)) (heard_now p before readable.1) held))
    (no_call_breaks before readable.1 (omega arith) earlier)
