-- `read_today` tests what its definition tests: the length, whether the answer has a line, and whether the line is this one.
use Rattle.std.proofs.Common.{◌≡◌, ℕ, List, length, ap, sym, ◌∙◌, append-nil, replicate, refl, T, Bool, true, false, not}
use Rattle.std.proofs.Common.{Option, Some, None, is_some, is_none, Result, Ok, Err, is_err}
use Rattle.std.specs.Result.{result_ok}
use Rattle.std.specs.Cmp.Lexicographic.{same_text, other_text}
use mathlib.Core.Path.{subst}
use lib.Dec.{eqb→eq}
use borrow.Author.Tests.{eq-eqb}
use Rattle.verdicts.specs.Table.{Verdict, verdict_of}
use Rattle.verdicts.specs.declared.Refusal.{Refusal}
use Rattle.drive.specs.declared.answer.Answer.{Answer}
use Rattle.drive.proofs.BlockLoads.{refused, found}
use Rattle.report.specs.Refusals.{line_length, line_verdict}
use Rattle.report.specs.Line.{line, lent_after}
use Rattle.report.proofs.Fields.{length-line}
use Rattle.lines.specs.Fields.{answer_in}
use Rattle.lines.specs.Shown.{shown}
use Rattle.lines.proofs.LineOf.{LineOf, good_where, bad_where}
use Rattle.lines.proofs.read_today.Goals as goal

-- what `ok` makes of a result
none_of : (told : Result (Unit {0}) Refusal) → None ≡ result_ok told → is_err told ≡ true
none_of (Ok u) e = absurd (subst (λ (o : Option (Unit {0})). T (is_none o)) e tt)
none_of (Err refusal) e = refl

some_of : (told : Result (Unit {0}) Refusal) (u : Unit {0}) → Some u ≡ result_ok told → is_err told ≡ false
some_of (Ok v) u e = refl
some_of (Err refusal) u e = absurd (subst (λ (o : Option (Unit {0})). T (is_some o)) e tt)

-- what `!=` says of a test
differ : (same said : Bool) → said ≡ not same → said ≡ true → false ≡ same
differ true said is e = absurd (subst T (sym e ∙ is) tt)
differ false said is e = refl

agree : (same said : Bool) → said ≡ not same → said ≡ false → true ≡ same
agree true said is e = refl
agree false said is e = absurd (subst T (sym (sym e ∙ is)) tt)

module _ (bytes : List ℕ) (answer : Answer) (told : Result (Unit {0}) Refusal) (shows : answer ≡ answer_in bytes)
    (said : verdict_of told ≡ line_verdict answer line_length) where
  number_is : (verdict_of told).number ≡ (line_verdict (answer_in bytes) line_length).number
  number_is = ap (λ (v : Verdict). v.number) said ∙ ap (λ (a : Answer). (line_verdict a line_length).number) shows

  accepted : is_err told ≡ false → (line_verdict (answer_in bytes) line_length).number ≡ 0
  accepted passes = sym number_is ∙ found told passes

  no_line : is_err told ≡ true → LineOf (answer_in bytes) bytes → ⊥
  no_line refuses is = refused told refuses (number_is ∙ eqb→eq (line_verdict (answer_in bytes) line_length).number 0 is.accepted)

  -- accepted, the lent bytes are the line
  lined : (after : List ℕ) → is_err told ≡ false → after ≡ lent_after answer (replicate 47 0) → after ≡ line (answer_in bytes)
  lined after passes lent =
      let none = eq-eqb (line_verdict (answer_in bytes) line_length).number 0 (accepted passes) in
      lent ∙ rw (shows, none, append-nil)

pub returns-then-line-ne-LINE_LENGTH : goal.returns-then-line-ne-LINE_LENGTH
returns-then-line-ne-LINE_LENGTH c =
    let bytes = c.args.line.now in
    sym (bad_where bytes (λ is. c.if-line-ne-LINE_LENGTH.true (ap length (sym is.written) ∙ length-line (answer_in bytes))))

pub returns-in_err-ok : goal.returns-in_err-ok
returns-in_err-ok c =
    let bytes = c.args.line.now in
    let refuses = none_of c.line.result c.in_err-ok.ensures.value in
    c.from_residual.ensures
    ∙ sym (bad_where bytes
    (no_line bytes c.answer_in-answer.result c.line.result c.answer_in-answer.ensures c.line.ensures.result refuses))

pub returns-then-ne : goal.returns-then-ne
returns-then-ne c =
    let bytes = c.args.line.now in
    let passes = some_of c.line.result c.in_ok-ok.field-0 c.in_ok-ok.ensures.value in
    let written =
    lined bytes c.answer_in-answer.result c.line.result c.answer_in-answer.ensures c.line.ensures.result
    c.line.new.lent passes c.line.ensures.lent in
    let other = other_text c.as_slice.result.now bytes (differ _ c.ne.result c.ne.ensures c.if-ne.true) in
    sym (bad_where bytes (λ is. other (c.as_slice.ensures ∙ written ∙ is.written)))

pub returns : goal.returns
returns c =
    let bytes = c.args.line.now in
    let shows = c.answer_in-answer.ensures in
    let passes = some_of c.line.result c.in_ok-ok.field-0 c.in_ok-ok.ensures.value in
    let none = accepted bytes c.answer_in-answer.result c.line.result shows c.line.ensures.result passes in
    let written =
    lined bytes c.answer_in-answer.result c.line.result shows c.line.ensures.result
    c.line.new.lent passes c.line.ensures.lent in
    let equal = sym c.as_slice.ensures ∙ same_text c.as_slice.result.now bytes (agree _ c.ne.result c.ne.ensures c.if-ne.false) in
    let is : LineOf (answer_in bytes) bytes =
    record { accepted = rw none tt; written = sym written ∙ equal } in
    ap (λ (a : Answer). Some (shown a)) shows ∙ sym (good_where bytes is)
