-- A line of today is one already; the line of an earlier board, put into the form of today, is that of the same answer without a sample.
use Rattle.std.proofs.Common.{None}
use Prim.Native.Nat.{ℕ, ◌≤◌}
use native.Mathlib.Omega.{arith}
use mathlib.Core.Path.{◌≡◌, refl, ap, sym, ◌∙◌}
use mathlib.Core.Bool.{Bool, true, false}
use mathlib.Core.Logic.{◌⊎◌, inl, inr}
use mathlib.Core.List.{List, [], ◌∷◌, ◌++◌, append_assoc}
use lib.Dec.{T, eqb, eqb→eq}
use lib.ListN.{length, take, drop, length-append, length-drop, take-append-drop}
use lib.Seq.{take_at, drop_at, take-append-le, drop-append-le, length-take-le}
use borrow.Author.Tests.{eqb-true}
use Rattle.numbers.proofs.Tests.{by_test}
use Rattle.drive.specs.Answer.{letter}
use Rattle.drive.specs.declared.answer.Answer.{Answer}
use Rattle.text.specs.Text.{text}
use Rattle.report.specs.Refusals.{line_length}
use Rattle.report.specs.Line.{fields, line}
use Rattle.report.proofs.Digits.{length_digits}
use Rattle.report.proofs.Fields.{length-line, length-signed, length-name}
use Rattle.lines.specs.Fields.{part, answer_in}
use Rattle.lines.specs.Earlier.{earlier_length, fields_length, earlier_line, of_today}
use Rattle.lines.specs.Shown.{is_good}
use Rattle.lines.proofs.LineOf.{good_line}

of_today_else : (bytes : List ℕ) → eqb (length bytes) earlier_length ≡ false → of_today bytes ≡ bytes
unfolding of_today
of_today_else bytes e = rw e

of_today_then : (bytes : List ℕ) → length bytes ≡ earlier_length
    → of_today bytes ≡ take fields_length bytes ++ (text " ." ++ drop fields_length bytes)
unfolding of_today
of_today_then bytes long = rw (long, append_assoc)

pub line_of_today : (answer : Answer) → of_today (line answer) ≡ line answer
unfolding of_today
line_of_today answer = rw length-line

length_fields : (answer : Answer) → length (fields answer) ≡ fields_length
length_fields answer = simp (length-append, length_digits, length-signed, length-name)

-- a line by its letter
line_by : (answer : Answer) → line answer ≡ fields answer ++ (text " " ++ (letter answer.judged ∷ []) ++ text "\n")
unfolding line
line_by answer = together (fields answer) (text " ") (letter answer.judged ∷ []) (text "\n")
  where
    together : (front a b c : List ℕ) → front ++ a ++ b ++ c ≡ front ++ (a ++ b ++ c)
    together front a b c = simp append_assoc

-- so it begins with the fields
pub front_is : (answer : Answer) → take fields_length (line answer) ≡ fields answer
front_is answer = ap (take fields_length) (line_by answer) ∙ take_at (fields answer) _ fields_length (length_fields answer)

earlier_joined : (answer : Answer) {a b : List ℕ} → take fields_length (line answer) ≡ a → text "\n" ≡ b
    → a ++ b ≡ earlier_line answer
unfolding earlier_line
earlier_joined answer front rest = rw (← front, ← rest, front_is answer)

-- the same answer without a sample
abbrev pub untold : Answer → Answer
untold answer =
    record {
      number = answer.number;
      place = answer.place;
      state = answer.state;
      gate = answer.gate;
      live = answer.live;
      reference = answer.reference;
      position = answer.position;
      angle = answer.angle;
      offsets = answer.offsets;
      retries = answer.retries;
      judged = None;
    }

inserted : (front : List ℕ) → length front ≡ fields_length
    → of_today (front ++ text "\n") ≡ front ++ (text " " ++ text "." ++ text "\n")
unfolding of_today
inserted front long =
    rw (length-append, long, take_at front (text "\n") fields_length long, drop_at front (text "\n") fields_length long, append_assoc)

pub earlier_of_today : (answer : Answer) → of_today (earlier_line answer) ≡ line (untold answer)
unfolding earlier_line
earlier_of_today answer = inserted (fields answer) (length_fields answer) ∙ sym (line_by (untold answer))

-- what stands in front is not touched
pub name_of_today : (bytes : List ℕ) → part 2 12 bytes ≡ part 2 12 (of_today bytes)
unfolding of_today
name_of_today bytes =
    by_test (λ (line : List ℕ). part 2 12 bytes ≡ part 2 12 line) (eqb (length bytes) earlier_length)
    (λ earlier. inserted (eqb→eq (length bytes) earlier_length earlier))
    (λ _. refl)
  where
    front : (rest : List ℕ) → length bytes ≡ earlier_length
        → part 2 12 (take fields_length bytes ++ rest) ≡ take 12 (drop 2 (take fields_length bytes))
    front rest long =
        let size : length (take fields_length bytes) ≡ fields_length = length-take-le fields_length bytes (omega (arith, long)) in
        let behind : 12 ≤ length (drop 2 (take fields_length bytes)) = simp length-drop (omega (arith, size)) in
        ap (take 12) (drop-append-le 2 (take fields_length bytes) rest (omega (arith, size)))
        ∙ take-append-le 12 (drop 2 (take fields_length bytes)) rest behind

    inserted : length bytes ≡ earlier_length
        → part 2 12 bytes ≡ part 2 12 (take fields_length bytes ++ text " ." ++ drop fields_length bytes)
    inserted long =
        ap (part 2 12) (sym (take-append-drop fields_length bytes))
        ∙ front (drop fields_length bytes) long
        ∙ sym (front (text " ." ++ drop fields_length bytes) long)
        ∙ ap (part 2 12) (sym (append_assoc (take fields_length bytes) (text " .") (drop fields_length bytes)))

pub length-earlier : (answer : Answer) → length (earlier_line answer) ≡ earlier_length
unfolding earlier_line
length-earlier answer = length-append (fields answer) (text "\n") ∙ rw (length_fields answer)

-- a line that can be read is of one of the two lengths
pub good_length : (bytes : List ℕ) → T (is_good bytes) → (length bytes ≡ earlier_length) ⊎ (length bytes ≡ line_length)
good_length bytes reads =
    let is = good_line (of_today bytes) reads in
    go (eqb (length bytes) earlier_length) refl (ap length (sym is.written) ∙ length-line (answer_in (of_today bytes)))
  where
    go : (earlier : Bool) → eqb (length bytes) earlier_length ≡ earlier → length (of_today bytes) ≡ line_length
        → (length bytes ≡ earlier_length) ⊎ (length bytes ≡ line_length)
    go true e long = inl (eqb-true (length bytes) earlier_length e)
    go false e long = inr (rw (of_today_else bytes e) at long)

-- A line that can be read is the line of an answer, as today's boards print it or as earlier ones did.
pub good_either :
    (bytes : List ℕ)
    → T (is_good bytes)
    → (let answer : Answer = answer_in (of_today bytes) in (bytes ≡ line answer) ⊎ (bytes ≡ earlier_line answer))
good_either bytes reads = go (eqb (length bytes) earlier_length) refl
  where
    is : line (answer_in (of_today bytes)) ≡ of_today bytes
    is = (good_line (of_today bytes) reads).written

    go : (earlier : Bool) → eqb (length bytes) earlier_length ≡ earlier
        → (bytes ≡ line (answer_in (of_today bytes))) ⊎ (bytes ≡ earlier_line (answer_in (of_today bytes)))
    go false e = inl (sym (is ∙ of_today_else bytes e))
    go true e =
        let long : length bytes ≡ earlier_length = eqb-true (length bytes) earlier_length e in
        let front : length (take fields_length bytes) ≡ fields_length = length-take-le fields_length bytes (omega (arith, long)) in
        let answer = answer_in (of_today bytes) in
        let rest = text " ." ++ drop fields_length bytes in
        let whole : line answer ≡ take fields_length bytes ++ rest = is ∙ of_today_then bytes long in
        let same-front : take fields_length (line answer) ≡ take fields_length bytes =
        ap (take fields_length) whole ∙ take_at (take fields_length bytes) rest fields_length front in
        let same_rest : text " " ++ (letter answer.judged ∷ []) ++ text "\n" ≡ rest =
        sym (drop_at (fields answer) _ fields_length (length_fields answer))
        ∙ ap (drop fields_length) (sym (line_by answer) ∙ whole)
        ∙ drop_at (take fields_length bytes) rest fields_length front in
        inr (sym (take-append-drop fields_length bytes) ∙ earlier_joined answer same-front (ap (drop 2) same_rest))
