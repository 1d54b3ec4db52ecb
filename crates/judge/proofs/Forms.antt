-- The supervisor's line in the form of the board's: where the two are the same up to the length of a line, they are the same.
use Prim.Native.Nat.{ℕ, ◌≤◌}
use native.Mathlib.Omega.{arith}
use mathlib.Core.Path.{◌≡◌, refl, ap, sym, ◌∙◌}
use mathlib.Core.Logic.{◌⊎◌, inl, inr}
use mathlib.Core.Bool.{Bool, true, false, cond}
use mathlib.Core.List.{List, [], ◌∷◌, ◌++◌, append-nil, append_assoc}
use lib.Dec.{T, eqb}
use lib.ListN.{length, take, drop, drop_of_length-le}
use lib.Seq.{take_at}
use Rattle.text.specs.Text.{text}
use Rattle.text.proofs.Chains.{written_whole, written_front}
use Rattle.drive.specs.AnyCall.{Call, reply}
use Rattle.drive.specs.declared.Drive.{Drive}
use Rattle.drive.specs.declared.answer.Answer.{Answer}
use Rattle.report.specs.Refusals.{line_length}
use Rattle.report.specs.Line.{fields, line}
use Rattle.report.proofs.Fields.{length-line}
use Rattle.records.proofs.Printed.{reply_printed}
use Rattle.lines.specs.Earlier.{earlier_length, fields_length, earlier_line, line_like}
use Rattle.lines.specs.Shown.{is_good}
use Rattle.lines.proofs.Earlier.{front_is, length-earlier, good_length}
use Rattle.judge.specs.Judged.{blank, shortened, line_for, line_kept}

-- what is kept of a line that is not too long: the line, and zeros behind it
kept_is : (line : List ℕ) → length line ≤ 47 → line_kept line ≡ line ++ drop (length line) blank
unfolding line_kept
kept_is line fits = written_front line blank (omega arith)

-- so of two lines of one length
kept_same : (a b : List ℕ) → length a ≡ length b → length b ≤ 47 → line_kept a ≡ line_kept b → a ≡ b
kept_same a b long fits same =
    sym (take_at a (drop (length a) blank) (length b) long)
    ∙ ap (take (length b)) (sym (kept_is a (omega arith)) ∙ same ∙ kept_is b fits)
    ∙ take_at b (drop (length b) blank) (length b) refl

-- a line without its letter, and zeros
shortened_is : (answer : Answer) → shortened (line answer) ≡ line_kept (earlier_line answer)
unfolding shortened earlier_line
shortened_is answer =
    let nothing-behind : drop 47 (line answer) ≡ [] = drop_of_length-le (line answer) {i = 47} (omega (arith, length-line answer)) in
    let short = fields answer ++ text "\n" in
    let size : length short ≡ earlier_length = length-earlier answer in
    written_whole fields_length (text "\n" ++ (0 ∷ 0 ∷ [])) (line answer) (omega (arith, length-line answer))
    ∙ rw (nothing-behind, append-nil, front_is answer)
    (sym (kept_is short (omega (arith, size))
    ∙ rw (size, append_assoc (fields answer) (text "\n") (0 ∷ 0 ∷ []))))

pub line_for_lem : (size : ℕ) (d : Drive) (call : Call)
    → line_for size (reply d call).answer ≡ line_kept (line_like size (reply d call).answer)
unfolding line_for
line_for_lem size d call = rw (reply_printed d call 47 refl (omega arith), append-nil) (go (eqb size earlier_length))
  where
    answer : Answer
    answer = (reply d call).answer

    go : (earlier : Bool)
        → cond earlier (shortened (line answer)) (line answer) ≡ line_kept (cond earlier (earlier_line answer) (line answer))
    go true = shortened_is answer
    go false = sym (kept_is (line answer) (omega (arith, length-line answer)) ∙ rw (length-line answer, append-nil))

-- the line in that form has its length
length-like : (size : ℕ) (answer : Answer) → (size ≡ earlier_length) ⊎ (size ≡ line_length)
    → length (line_like size answer) ≡ size
length-like size answer (inl e) = rw (e, length-earlier answer)
length-like size answer (inr e) = rw (e, length-line answer)

pub same_found :
    (d : Drive) (call : Call) (found : List ℕ)
    → T (is_good found)
    → line_for (length found) (reply d call).answer ≡ line_kept found
    → found ≡ line_like (length found) (reply d call).answer
same_found d call found good same =
    let answer = (reply d call).answer in
    let size = length-like (length found) answer (good_length found good) in
    sym (kept_same (line_like (length found) answer) found size (at_most (good_length found good))
    (sym (line_for_lem (length found) d call) ∙ same))
  where
    at_most : (length found ≡ earlier_length) ⊎ (length found ≡ line_length) → length found ≤ 47
    at_most (inl e) = omega (arith, e)
    at_most (inr e) = omega (arith, e)
