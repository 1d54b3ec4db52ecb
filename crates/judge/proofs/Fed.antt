-- However the bytes are cut, the judge is the fold over the calls and the lines that he took: each turn takes one call with its line, and a
-- run begins where the run before it ended.
use Prim.Native.Nat.{ℕ, zero, suc, ◌+◌}
use mathlib.Core.Path.{◌≡◌, refl, ap}
use mathlib.Core.Bool.{Bool, not, ◌&&◌}
use mathlib.Core.List.{List, [], ◌∷◌, ◌++◌, append_assoc, append-nil}
use lib.Dec.{T}
use lib.ListN.{length, take, drop}
use lib.Seq.{take-add, length-take-le}
use Rattle.std.specs.Prelude.{is_some, is_none}
use Rattle.numbers.proofs.Tests.{never, by_test, decide}
use Rattle.drive.specs.AnyCall.{Call}
use Rattle.streams.specs.Run.{Front, end, unknown, short, whole}
use Rattle.records.specs.Front.{size_of, front}
use Rattle.lines.specs.Shown.{is_good}
use Rattle.judge.specs.NextLine.{line_size, line_of}
use Rattle.judge.specs.Judged.{nothing_judged, judge_call, judge_refusal, ended_by, read_entry}
use Rattle.judge.specs.Printed.{Printed, judge_all, Readable}
use Rattle.judge.specs.Run.{wanting, told, follow, turn, onward, wants_turn, runs, run}
use Rattle.judge.specs.Fed.{Fed, nothing, one_more, Goes, Stands, goes, over, refused, unread}
use Rattle.judge.specs.declared.Judge.{Judge}
use Rattle.judge.specs.declared.Wants.{Wants}
use Rattle.judge.specs.declared.Wants.TheVariants.{Turn, Records, Lines, Nothing}
use Rattle.judge.specs.declared.Ran.{Ran}
use Rattle.judge.proofs.Runs.{size_at, size_within}

-- the bytes of the line that is taken
line_taken : (printed : List ℕ) → take (length (line_of printed)) printed ≡ line_of printed
line_taken printed = ap (λ (n : ℕ). take n printed) (length-take-le (size_at printed) printed (size_within printed))

-- after a turn, or a run: where he stands and, where anything more is wanted, that he goes on
pub record Turned (records lines input printed : List ℕ) (ran : Ran) : Type 0 where
  pub stands : Stands (records ++ take ran.taken input) (lines ++ take ran.lines printed) ran.judge
  pub goes_on : (ran.wants ≡ Nothing → ⊥)
      → Goes (records ++ take ran.taken input) (lines ++ take ran.lines printed) ran.judge

-- he goes on
going_on : {records lines input printed : List ℕ} (ran : Ran)
    → Goes (records ++ take ran.taken input) (lines ++ take ran.lines printed) ran.judge
    → Turned records lines input printed ran
going_on ran g = record { stands = goes ran.judge g; goes_on = λ _. g }

-- he has ended, however he did: then nothing more is wanted
nothing_wanted : {C : Type 0} (j : Judge) (taken lines : ℕ) → T (is_some j.end) → ((told j taken lines).wants ≡ Nothing → ⊥) → C
nothing_wanted j taken lines ended more =
    absurd (more (by_test (λ (wants : Wants). wants ≡ Nothing) (is_some j.end) (λ _. refl) (λ goes. never (is_some j.end) goes ended)))

module _ {records lines : List ℕ} (j : Judge) (g : Goes records lines j) (input printed : List ℕ) where
  untouched : Goes (records ++ take 0 input) (lines ++ take 0 printed) j
  untouched = rw (append-nil records, append-nil lines) g

  waits : (what : Wants) → Turned records lines input printed (wanting j what)
  waits what = going_on (wanting j what) untouched

  ends : (line : List ℕ) → Turned records lines input printed (told (ended_by j line) 0 0)
  ends line =
      record {
        stands = over j line untouched;
        goes_on = nothing_wanted (ended_by j line) 0 0 tt;
      }

  refuses : Turned records lines input printed (told (judge_refusal j (line_of printed)) 0 (length (line_of printed)))
  unfolding read_entry
  refuses =
      record {
        stands = refused j lines printed (rw (append-nil records) g) (ap (λ (l : List ℕ). lines ++ l) (line_taken printed));
        goes_on = nothing_wanted (judge_refusal j (line_of printed)) 0 (length (line_of printed))
            (by_test (λ (after : Judge). T (is_some after.end)) (is_good (line_of printed)) (λ _. tt) (λ _. tt));
      }

  module _ (call : Call) (stood : front input ≡ whole call) where
    abbrev p : Printed
    p = record { call = call; line = line_of printed }

    fed_on : Fed (records ++ take (size_of call) input) (lines ++ take (length (line_of printed)) printed) (p ∷ g.calls)
    fed_on = rw (line_taken printed) (one_more input printed call g.fed stood)

    judged_on : judge_call j call (line_of printed) ≡ judge_all (p ∷ g.calls)
    unfolding judge_all
    judged_on = ap (λ (before : Judge). judge_call before call (line_of printed)) g.judged

    abbrev judged : Ran
    judged = told (judge_call j call (line_of printed)) (size_of call) (length (line_of printed))

    reads : T (is_good (line_of printed)) → Turned records lines input printed judged
    unfolding Readable
    reads good = going_on judged (record { calls = p ∷ g.calls; fed = fed_on; readable = (good, g.readable); judged = judged_on })

    fails : T (not (is_good (line_of printed))) → Turned records lines input printed judged
    unfolding read_entry
    fails bad =
        record {
          stands = rw judged_on (unread p g.calls fed_on g.readable bad);
          goes_on = nothing_wanted (judge_call j call (line_of printed)) (size_of call) (length (line_of printed))
              (by_test (λ (after : Judge). T (is_some after.end)) (is_good (line_of printed))
              (λ good. never (is_good (line_of printed)) bad good) (λ _. tt));
        }

    judges : Turned records lines input printed judged
    judges = decide (is_good (line_of printed)) reads fails

  follows : (closed : Bool) (f : Front Call) → front input ≡ f
      → Turned records lines input printed (follow closed j (line_of printed) f)
  follows closed end is = by_test (Turned records lines input printed) closed (λ _. ends (line_of printed)) (λ _. waits Records)
  follows closed unknown is = refuses
  follows closed short is = by_test (Turned records lines input printed) closed (λ _. refuses) (λ _. waits Records)
  follows closed (whole call) is = judges call is

  turned : (closed finished : Bool) → Turned records lines input printed (turn closed input finished printed j)
  unfolding turn
  turned closed finished =
      by_test (Turned records lines input printed) (is_none (line_size printed) && not finished)
      (λ _. waits Lines)
      (λ _. follows closed (front input) refl)

-- bytes taken after others are bytes taken at once
taken_on : (front : List ℕ) (n m : ℕ) (bytes : List ℕ)
    → (front ++ take n bytes) ++ take m (drop n bytes) ≡ front ++ take (n + m) bytes
taken_on front n m bytes = rw (append_assoc front (take n bytes) (take m (drop n bytes)), take-add n m bytes)

module _ (records lines : List ℕ) (closed : Bool) (input : List ℕ) (finished : Bool) (printed : List ℕ) where
  -- where he goes on after so many bytes
  abbrev At : Ran → Type 0
  At ran = Goes (records ++ take ran.taken input) (lines ++ take ran.lines printed) ran.judge

  one_turn : (ran : Ran) → At ran → Turned records lines input printed (onward closed input finished printed ran)
  unfolding onward
  one_turn ran g =
      let next = turn closed (drop ran.taken input) finished (drop ran.lines printed) ran.judge in
      let did = turned ran.judge g (drop ran.taken input) (drop ran.lines printed) closed finished in
      let these = taken_on records ran.taken next.taken input in
      let those = taken_on lines ran.lines next.lines printed in
      record {
        stands = rw (← these, ← those) did.stands;
        goes_on = λ more. rw (← these, ← those) (did.goes_on more);
      }

  turn_after_turn : (fuel : ℕ) (ran : Ran) → At ran → Turned records lines input printed (runs fuel closed input finished printed ran)
  unfolding runs
  turn_after_turn zero ran g = one_turn ran g
  turn_after_turn (suc fuel) ran g =
      let next = onward closed input finished printed ran in
      let did = one_turn ran g in
      by_test (Turned records lines input printed) (wants_turn next.wants)
      (λ more. turn_after_turn fuel next (did.goes_on (wanted next.wants more)))
      (λ _. did)
    where
      wanted : (what : Wants) → T (wants_turn what) → what ≡ Nothing → ⊥
      wanted Turn is none = cc
      wanted Records is none = absurd is
      wanted Lines is none = absurd is
      wanted Nothing is none = absurd is

  -- One run more, over what came next: he stands where the fold over the calls of all bytes taken stands and, where more bytes are wanted,
  -- goes on, so that the next run begins here.
  pub run_judges : (j : Judge) → Goes records lines j → Turned records lines input printed (run closed input finished printed j)
  run_judges j g =
      turn_after_turn (length input) (record { judge = j; taken = 0; lines = 0; wants = Turn }) (untouched j g input printed)

-- before the first run
pub begins : Goes [] [] nothing_judged
unfolding judge_all Readable
begins = record { calls = []; fed = nothing; readable = tt; judged = refl }
