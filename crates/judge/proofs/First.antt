-- The record that the judge names is the first: he names one only where none is named yet, and with it something ceases to be right that
-- was right of all calls before.
use Prim.Native.Nat.{ℕ, suc, ◌≤◌}
use native.Mathlib.Omega.{arith}
use mathlib.Core.Path.{◌≡◌, refl, ap, sym, ◌∙◌}
use mathlib.Core.Bool.{Bool, true, false, not, ◌&&◌}
use mathlib.Core.List.{List, [], ◌∷◌}
use lib.Dec.{T}
use lib.ListN.{length}
use Rattle.std.specs.Prelude.{Option, Some, None}
use Rattle.std.specs.Option.{option_or}
use Rattle.std.specs.Bool.{then_some}
use Rattle.std.proofs.lemmas.Option.{none-some, same_Some}
use Rattle.numbers.proofs.Tests.{never, by_test}
use Rattle.drive.specs.AnyCall.{Call, reply}
use Rattle.drive.specs.declared.Drive.{Drive}
use Rattle.drive.specs.declared.answer.Answer.{Answer}
use Rattle.lines.specs.Earlier.{line_like}
use Rattle.lines.specs.Shown.{same_bytes, is_good}
use Rattle.lines.proofs.LineOf.{same_self}
use Rattle.theorems_history.specs.Log.{Entry}
use Rattle.theorems_history.specs.Onlooker.{memory_of, note, notes}
use Rattle.theorems_history.specs.History.{Seen, gates_rule, exit_rule, retry_rule, holds, Demand3}
use Rattle.onlooker.specs.Words.{words}
use Rattle.onlooker.specs.Past.{most}
use Rattle.onlooker.specs.Tells.{heard_of}
use Rattle.onlooker.specs.declared.Onlooker.{Onlooker}
use Rattle.onlooker.proofs.Follows.{tells}
use Rattle.judge.specs.Judged.{shown_in, answer_of, kept, line_for, line_kept, differs_now, breaks_now, read_entry, number_of}
use Rattle.judge.specs.Printed.{Printed, judge_all, board_log, Readable, Supervised}
use Rattle.judge.specs.declared.Judge.{Judge}
use Rattle.judge.specs.declared.Difference.{Difference}
use Rattle.judge.specs.declared.Breach.{Breach}
use Rattle.judge.specs.First.{First, newest, earlier, Kept}
use Rattle.judge.proofs.Forms.{line_for_lem}
use Rattle.judge.proofs.Silent.{said, hearing, drive_is, heard_is, length-log, heard_now}
use Rattle.judge.proofs.Silent.{no_line_differs, no_call_breaks}

-- what is known of the calls: every line can be read, and 64 bits can number them
abbrev pub Judged : List Printed → Type 0
Judged ps = Readable ps × (length ps ≤ most)

earlier_judged : (p : Printed) (before : List Printed) → Judged (p ∷ before) → Judged before
unfolding Readable
earlier_judged p before (readable, few) = (readable.1, omega arith)

-- the numbers of what is named
abbrev number_of_difference : Difference → ℕ
number_of_difference first = first.number

abbrev number_of_breach : Breach → ℕ
number_of_breach first = first.number

-- where nothing was named, what is named now has this number and a test fails; what was named stays
abbrev Once : {A : Type 0} → (A → ℕ) → Option A → Option A → ℕ → Type 0 → Type 0
Once {A} number before now place Passes =
    (before ≡ None → (new : A) → now ≡ Some new → (number new ≡ place) × (Passes → ⊥))
    × ((named : A) → before ≡ Some named → now ≡ Some named)

once : {A : Type 0} (number : A → ℕ) (before : Option A) (right : Bool) (new : A)
    → Once number before (option_or before (then_some (not right) new)) (number new) (T right)
once number (Some named) right new = (λ none. cc, λ _ is. is)
once number None true new = (λ _ _ some. cc, λ _ is. cc)
once number None false new = (λ _ named some. (ap number (sym (same_Some new named some)), λ passes. passes), λ _ is. cc)

-- One law for both, the lines and the demand: what is right of all calls while nothing is named ceases with the one that is.
module _
    {A : Type 0}
    (number : A → ℕ)
    (Right : List Printed → Type 0)
    (named : List Printed → Option A)
    (none-at-first : named [] ≡ None)
    (quiet : (ps : List Printed) → Judged ps → named ps ≡ None → Right ps)
    (step : (p : Printed) (before : List Printed) → Judged (p ∷ before)
    → Once number (named before) (named (p ∷ before)) (suc (length before)) (Right (p ∷ before)))
  where
    names_the_first : (ps : List Printed) → Judged ps → (first : A) → named ps ≡ Some first → First Right ps (number first)
    names_the_first [] judged first is = absurd (none-some first (sym none-at-first ∙ is))
    names_the_first (p ∷ before) judged first is =
        go (named before) refl (names_the_first before (earlier_judged p before judged))
      where
        go : (known : Option A) → named before ≡ known
            → ((other : A) → named before ≡ Some other → First Right before (number other))
            → First Right (p ∷ before) (number first)
        go None none others =
            let (place, ceases) = (step p before judged).0 none first is in
            rw place (newest p before (quiet before (earlier_judged p before judged) none) ceases)
        go (Some other) some others =
            let same = same_Some other first (sym ((step p before judged).1 other some) ∙ is) in
            rw (← same) (earlier p before (number other) (others other some))

-- the number that a record is named by
number_is : (p : Printed) (before : List Printed) → Judged (p ∷ before) → number_of (judge_all before) ≡ suc (length before)
number_is p before judged =
    let (readable, few) = earlier_judged p before judged in
    let short : length (board_log before) ≤ most = omega (arith, length-log before) in
    let heard : (judge_all before).onlooker.past.heard ≡ length (board_log before) =
    ap (λ (o : Onlooker). o.past.heard) (heard_is before readable) ∙ (tells (board_log before) short).heard in
    omega (arith, heard, length-log before, judged.1)

-- what passes one test fails with it
once_by : {A : Type 0} {number : A → ℕ} {before now : Option A} {Passes Right : Type 0} (named place : ℕ) → named ≡ place
    → (Right → Passes)
    → Once number before now named Passes
    → Once number before now place Right
once_by named place is passes (first, stays) =
    (λ none new some. let (number, fails) = first none new some in (number ∙ is, λ right. fails (passes right)), stays)

-- a line that is the supervisor's is found the same
same_line : (p : Printed) (before : List Printed) → Supervised (p ∷ before)
    → T (same_bytes (line_for (length p.line) (said p before).answer) (line_kept p.line))
unfolding Supervised
same_line p before (is, others) =
    let d = (judge_all before).drive in
    let size = length p.line in
    let as-found : line_like size (said p before).answer ≡ p.line =
    ap (λ (d : Drive). line_like size (reply d p.call).answer) (drive_is before) ∙ sym is in
    let expected : line_for size (said p before).answer ≡ line_kept p.line = line_for_lem size d p.call ∙ ap line_kept as-found in
    rw expected (same_self (line_kept p.line))

differs_once : (p : Printed) (before : List Printed) → Judged (p ∷ before)
    → Once number_of_difference (judge_all before).differs (judge_all (p ∷ before)).differs (suc (length before))
    (Supervised (p ∷ before))
unfolding judge_all read_entry differs_now Readable
differs_once p before judged =
    let j = judge_all before in
    let expected = line_for (length p.line) (said p before).answer in
    let found = line_kept p.line in
    by_test
    (λ (after : Judge). Once number_of_difference j.differs after.differs (suc (length before)) (Supervised (p ∷ before)))
    (is_good p.line)
    (λ _. once_by (number_of j) (suc (length before)) (number_is p before judged) (same_line p before)
    (once number_of_difference j.differs (same_bytes expected found)
    (record { number = number_of j; expected = expected; found = found })))
    (λ fails. never (is_good p.line) fails judged.0.0)

no_difference_yet : (judge_all []).differs ≡ None
unfolding judge_all
no_difference_yet = refl

-- the line that he names is the first that is not the supervisor's
pub first_difference : (ps : List Printed) → Judged ps → (first : Difference) → (judge_all ps).differs ≡ Some first
    → First Supervised ps first.number
first_difference =
    names_the_first number_of_difference Supervised (λ ps. (judge_all ps).differs) no_difference_yet
    (λ ps judged. no_line_differs ps judged.0) differs_once

-- where the board's log keeps the demand, the onlooker says so after its newest call
holds_now : (call : Seen) (past : List Seen) → Demand3 (call ∷ past)
    → T (gates_rule (call ∷ past) && exit_rule (call ∷ past) && retry_rule (call ∷ past))
unfolding holds
holds_now call past all = three (gates_rule (call ∷ past)) (exit_rule (call ∷ past)) (retry_rule (call ∷ past)) (holds past) all
  where
    three : (a b c d : Bool) → T (a && b && c && d) → T (a && b && c)
    three true true true d t = tt
    three true true false d t = absurd t
    three true false c d t = absurd t
    three false b c d t = absurd t

holds_newest : (log : List (Entry Call Answer)) (e : Entry Call Answer) → Demand3 (notes words (e ∷ log))
    → T (gates_rule (notes words (e ∷ log)) && exit_rule (notes words (e ∷ log)) && retry_rule (notes words (e ∷ log)))
unfolding notes
holds_newest log e all = holds_now (note words (memory_of words log) e) (notes words log) all

says_kept : (log : List (Entry Call Answer)) (e : Entry Call Answer) → suc (length log) ≤ most → Demand3 (notes words (e ∷ log))
    → T (kept (heard_of (e ∷ log)).rules)
says_kept log e few all =
    let says = tells (e ∷ log) few in
    rw (says.gates, says.exit, says.retries_within) (holds_newest log e all)

kept_now : (p : Printed) (before : List Printed) → Judged (p ∷ before) → Kept (p ∷ before) → T (kept (hearing p before).rules)
unfolding board_log
kept_now p before judged all =
    let few : suc (length (board_log before)) ≤ most = omega (arith, length-log before, judged.1) in
    rw (heard_now p before (earlier_judged p before judged).0)
    (says_kept (board_log before) (record { call = p.call; answer = answer_of (shown_in p.line) }) few all)

breaks_once : (p : Printed) (before : List Printed) → Judged (p ∷ before)
    → Once number_of_breach (judge_all before).breaks (judge_all (p ∷ before)).breaks (suc (length before)) (Kept (p ∷ before))
unfolding judge_all read_entry breaks_now Readable
breaks_once p before judged =
    let j = judge_all before in
    let rules = (hearing p before).rules in
    by_test (λ (after : Judge). Once number_of_breach j.breaks after.breaks (suc (length before)) (Kept (p ∷ before)))
    (is_good p.line)
    (λ _. once_by (number_of j) (suc (length before)) (number_is p before judged) (kept_now p before judged)
    (once number_of_breach j.breaks (kept rules) (record { number = number_of j; rules = rules })))
    (λ fails. never (is_good p.line) fails judged.0.0)

no_break_yet : (judge_all []).breaks ≡ None
unfolding judge_all
no_break_yet = refl

-- the call that he names is the first with which the board's log breaks demand 3
pub first_break : (ps : List Printed) → Judged ps → (first : Breach) → (judge_all ps).breaks ≡ Some first
    → First Kept ps first.number
first_break =
    names_the_first number_of_breach Kept (λ ps. (judge_all ps).breaks) no_break_yet
    (λ ps judged. no_call_breaks ps judged.0 judged.1) breaks_once
