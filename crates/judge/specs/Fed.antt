-- What the judge has taken of the bytes, in whatever pieces they came: calls with their lines, and where he stands after them.
use Rattle.std.specs.Prelude.{ℕ, ◌≡◌, List, [], ◌∷◌, ◌++◌, T, not, take}
use Rattle.drive.specs.AnyCall.{Call}
use Rattle.streams.specs.Run.{whole}
use Rattle.records.specs.Front.{size_of, front}
use Rattle.lines.specs.Shown.{is_good}
use Rattle.judge.specs.NextLine.{line_of}
use Rattle.judge.specs.Judged.{judge_refusal, ended_by}
use Rattle.judge.specs.Printed.{Printed, judge_all, Readable}
use Rattle.judge.specs.declared.Judge.{Judge}

-- the bytes of these calls' records, and of their lines: each record stood at the front of some bytes, and so did its line
pub data Fed : List ℕ → List ℕ → List Printed → Type 0 where
  nothing : Fed [] [] []
  one_more :
      {records lines : List ℕ} {ps : List Printed} (input printed : List ℕ) (call : Call)
      → Fed records lines ps
      → front input ≡ whole call
      → Fed (records ++ take (size_of call) input) (lines ++ line_of printed) (record { call = call; line = line_of printed } ∷ ps)

-- he goes on: these calls were judged, and each of their lines could be read
pub record Goes (records lines : List ℕ) (j : Judge) : Type 0 where
  pub calls : List Printed
  pub fed : Fed records lines calls
  pub readable : Readable calls
  pub judged : j ≡ judge_all calls

-- where he stands: he goes on; the records are over; what is no record was held against its line; a call's line could not be read
pub data Stands (records lines : List ℕ) : Judge → Type 0 where
  goes : (j : Judge) → Goes records lines j → Stands records lines j
  over : (j : Judge) (line : List ℕ) → Goes records lines j → Stands records lines (ended_by j line)
  refused :
      (j : Judge) (before printed : List ℕ)
      → Goes records before j
      → lines ≡ before ++ line_of printed
      → Stands records lines (judge_refusal j (line_of printed))
  unread :
      (p : Printed) (ps : List Printed)
      → Fed records lines (p ∷ ps)
      → Readable ps
      → T (not (is_good p.line))
      → Stands records lines (judge_all (p ∷ ps))
