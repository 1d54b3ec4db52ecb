-- A line is good exactly where it is the line of the answer that its digits show; equal bytes pass the test, and no others.
use Prim.Native.Nat.{ℕ}
use Rattle.std.specs.Prelude.{Option, Some, None, is_some}
use mathlib.Core.Path.{◌≡◌, refl, ap, sym, ◌∙◌}
use mathlib.Core.Bool.{Bool, true, false}
use mathlib.Core.List.{List, [], ◌∷◌}
use lib.Dec.{T, eqb, eqb→eq, eqb_refl}
use lib.ListN.{length}
use mir.Facts.{and_yes, yes_and}
use Rattle.numbers.proofs.Tests.{never, by_test}
use Rattle.drive.specs.declared.answer.Answer.{Answer}
use Rattle.report.specs.Refusals.{line_length, accepts}
use Rattle.report.specs.Line.{line}
use Rattle.report.proofs.Fields.{length-line}
use Rattle.lines.specs.Fields.{answer_in}
use Rattle.lines.specs.Shown.{same_bytes, is_line_of, shown, shown_today}
use Rattle.lines.specs.declared.Shown.{Shown}

pub same_equal : (a b : List ℕ) → T (same_bytes a b) → a ≡ b
same_equal [] [] t = refl
same_equal [] (y ∷ b) t = absurd t
same_equal (x ∷ a) [] t = absurd t
same_equal (x ∷ a) (y ∷ b) t =
    let (first, others) = and_yes (eqb x y) (same_bytes a b) t in
    let head : x ≡ y = eqb→eq x y first in
    rw (head, same_equal a b others)

pub same_self : (a : List ℕ) → T (same_bytes a a)
same_self [] = tt
same_self (x ∷ a) = yes_and (eqb x x) (same_bytes a a) (eqb_refl x) (same_self a)

-- the code's test says what the definition's does
pub same_test : (a b : List ℕ) (said : Bool) → (said ≡ true → a ≡ b) → (a ≡ b → said ≡ true) → said ≡ same_bytes a b
same_test a b said forth back =
    alike said (same_bytes a b) (λ e. rw (forth e) (same_self b)) (λ t. back (same_equal a b t))
  where
    alike : (s t : Bool) → (s ≡ true → T t) → (T t → s ≡ true) → s ≡ t
    alike true true f g = refl
    alike true false f g = absurd (f refl)
    alike false true f g = g tt
    alike false false f g = refl

-- the answer has a line, and these bytes are it
pub record LineOf (answer : Answer) (bytes : List ℕ) : Type 0 where
  pub accepted : T (accepts answer line_length)
  pub written : line answer ≡ bytes

test_passed : (answer : Answer) (bytes : List ℕ) → T (is_line_of answer bytes) → LineOf answer bytes
test_passed answer bytes t =
    let (accepted, same) = and_yes (accepts answer line_length) (same_bytes (line answer) bytes) t in
    record { accepted = accepted; written = same_equal (line answer) bytes same }

passes_test : (answer : Answer) (bytes : List ℕ) → LineOf answer bytes → T (is_line_of answer bytes)
passes_test answer bytes is =
    yes_and (accepts answer line_length) (same_bytes (line answer) bytes) is.accepted (rw is.written (same_self bytes))

module _ (bytes : List ℕ) where
  pub good_where : LineOf (answer_in bytes) bytes → shown_today bytes ≡ Some (shown (answer_in bytes))
  unfolding shown_today
  good_where is =
      let long : length bytes ≡ line_length = ap length (sym is.written) ∙ length-line (answer_in bytes) in
      by_test (λ (s : Option Shown). s ≡ Some (shown (answer_in bytes))) (eqb (length bytes) line_length)
      (λ _. by_test (λ (s : Option Shown). s ≡ Some (shown (answer_in bytes))) (is_line_of (answer_in bytes) bytes) (λ _. refl)
      (λ fails. never (is_line_of (answer_in bytes) bytes) fails (passes_test (answer_in bytes) bytes is)))
      (λ fails. never (eqb (length bytes) line_length) fails (rw long tt))

  pub bad_where : (LineOf (answer_in bytes) bytes → ⊥) → shown_today bytes ≡ None
  unfolding shown_today
  bad_where none =
      by_test (λ (s : Option Shown). s ≡ None) (eqb (length bytes) line_length)
      (λ _. by_test (λ (s : Option Shown). s ≡ None) (is_line_of (answer_in bytes) bytes)
      (λ t. absurd (none (test_passed (answer_in bytes) bytes t))) (λ _. refl))
      (λ _. refl)

  pub good_line : T (is_some (shown_today bytes)) → LineOf (answer_in bytes) bytes
  unfolding shown_today
  good_line =
      by_test (λ (s : Option Shown). T (is_some s) → LineOf (answer_in bytes) bytes) (eqb (length bytes) line_length)
      (λ _. by_test (λ (s : Option Shown). T (is_some s) → LineOf (answer_in bytes) bytes) (is_line_of (answer_in bytes) bytes)
      (λ t good. test_passed (answer_in bytes) bytes t) (λ _ good. absurd good))
      (λ _ good. absurd good)
