-- There is room for all that the judge can say: in the code's VERDICT_SIZE bytes, and so in what `verdict` writes there.
use Prim.Native.Nat.{ℕ, ◌≤◌}
use native.Mathlib.Omega.{arith}
use mathlib.Core.Path.{◌≡◌, refl}
use mathlib.Core.Bool.{Bool}
use mathlib.Core.List.{List}
use lib.ListN.{length, take, drop, length-append, length-take, length-replicate}
use lib.Seq.{take_at}
use Rattle.std.specs.Prelude.{Option, Some, None}
use Rattle.text.specs.Decimal.{column}
use Rattle.text.specs.Put.{behind, written}
use Rattle.text.proofs.Chains.{behind_front, written_front}
use Rattle.text.proofs.Decimals.{at_most_twenty}
use Rattle.numbers.proofs.Tests.{by_test}
use Rattle.judge.specs.NextLine.{line_of}
use Rattle.judge.specs.Judged.{number_of}
use Rattle.judge.specs.Sentences.{differs_words, gates_words, exit_words, retries_words}
use Rattle.judge.specs.Sentences.{missing_words, left_over_words, unreadable_words, refused_words}
use Rattle.judge.specs.Sentences.{placed, about, counting, differing, broken, breaking, ending, said, verdict_size}
use Rattle.judge.specs.declared.Difference.{Difference}
use Rattle.judge.specs.declared.Breach.{Breach}
use Rattle.judge.specs.declared.End.{End}
use Rattle.judge.specs.declared.End.TheVariants.{Over, Missing, LeftOver, Unreadable, Refused}
use Rattle.judge.specs.declared.Judge.{Judge}
use Rattle.judge.specs.declared.sentences.TheConstants.{VERDICT_SIZE}

-- how long what is said can be
abbrev Within : ℕ → List ℕ → Type 0
Within most words = length words ≤ most

column_within : (number : ℕ) → Within 20 (column 5 number)
unfolding column
column_within number = simp (length-append, length-replicate) (omega (arith, at_most_twenty number))

about_within : (number : ℕ) (words : List ℕ) → Within 120 words → Within 153 (about number words)
unfolding about placed
about_within number words short = simp length-append (omega (arith, column_within number))

counting_within : (heard : ℕ) → Within 34 (counting heard)
unfolding counting
counting_within heard = simp length-append (omega (arith, at_most_twenty heard))

-- a line is no longer than what it stands in front of
line_within : (bytes : List ℕ) → length bytes ≡ 47 → Within 47 (line_of bytes)
line_within bytes long = simp length-take (omega (arith, long))

-- both lines are as long as a line
abbrev pub Lines : Option Difference → Type 0
Lines None = Unit {0}
Lines (Some first) = (length first.expected ≡ 47) × (length first.found ≡ 47)

differing_within : (differs : Option Difference) → Lines differs → Within 258 (differing differs)
differing_within None lines = omega arith
differing_within (Some first) (a, b) =
    simp length-append
    (omega (
      arith,
      about_within first.number differs_words (omega arith),
      line_within first.expected a,
      line_within first.found b,
    ))

broken_within : (holds : Bool) (number : ℕ) (words : List ℕ) → Within 120 words → Within 153 (broken holds number words)
unfolding broken
broken_within holds number words short =
    by_test (Within 153) holds (λ _. omega arith) (λ _. about_within number words short)

breaking_within : (breaks : Option Breach) → Within 459 (breaking breaks)
breaking_within None = omega arith
breaking_within (Some first) =
    simp length-append
    (omega (
      arith,
      broken_within first.rules.gates first.number gates_words (omega arith),
      broken_within first.rules.exit first.number exit_words (omega arith),
      broken_within first.rules.retries first.number retries_words (omega arith),
    ))

ending_within : (end : Option End) (number : ℕ) → Within 153 (ending end number)
ending_within None number = omega arith
ending_within (Some Over) number = omega arith
ending_within (Some Missing) number = about_within number missing_words (omega arith)
ending_within (Some LeftOver) number = about_within number left_over_words (omega arith)
ending_within (Some Unreadable) number = about_within number unreadable_words (omega arith)
ending_within (Some Refused) number = about_within number refused_words (omega arith)

pub said_within : (j : Judge) → Lines j.differs → Within verdict_size (said j)
unfolding said
said_within j lines =
    simp length-append
    (omega (
      arith,
      counting_within j.onlooker.past.heard,
      differing_within j.differs lines,
      breaking_within j.breaks,
      ending_within j.end (number_of j),
    ))

-- the code's constant is that room
pub verdict_room : VERDICT_SIZE ≡ verdict_size
verdict_room = refl

-- so all of it stands in bytes of that size
pub all_said : (j : Judge) (lent : List ℕ) → Lines j.differs → length lent ≡ verdict_size
    → take (behind 0 (said j) lent) (written 0 (said j) lent) ≡ said j
all_said j lent lines room =
    let fits : length (said j) ≤ length lent = omega (arith, room, said_within j lines) in
    rw (behind_front (said j) lent fits, written_front (said j) lent fits)
    (take_at (said j) (drop (length (said j)) lent) (length (said j)) refl)
