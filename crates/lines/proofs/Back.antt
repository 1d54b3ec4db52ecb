-- Reading is the other way round than writing: the line of an answer shows that answer, and a good line is the line of an answer.
use Rattle.std.proofs.Common.{Option, Some, None, is_some}
use Rattle.std.specs.Option.{unwrap_or}
use Prim.Native.Nat.{ℕ, ◌^◌, ◌≤◌, ◌<◌}
use native.Mathlib.Omega.{arith}
use mathlib.Core.Path.{◌≡◌, refl, ap, sym, ◌∙◌}
use mathlib.Core.Bool.{Bool, true, false, not}
use mathlib.Core.List.{List, [], ◌∷◌}
use lib.Dec.{T, eqb, ltb, nltb→le}
use mir.Syntax.{w16}
use mir.Val.{SFits}
use Rattle.verdicts.specs.Table.{row, verdict}
use Rattle.hall.specs.declared.fate.Fate.TheVariants.{Dead, First, Same, Forward, Back, Stray}
use Rattle.drive.specs.Answer.{letter}
use Rattle.drive.specs.declared.answer.Answer.{Answer}
use Rattle.hall.specs.declared.fate.Fate.{Fate}
use Rattle.report.specs.Refusals.{line_length, accepts}
use Rattle.report.specs.Line.{name, line}
use Rattle.lines.specs.Values.{judged_of}
use Rattle.lines.specs.Fields.{part, answer_in}
use Rattle.lines.specs.Earlier.{earlier_line, of_today}
use Rattle.lines.specs.Shown.{shown, shown_today, shown_by}
use Rattle.lines.specs.declared.Shown.{Shown}
use Rattle.lines.proofs.Digits.{digits_back, signed_back}
use Rattle.lines.proofs.Places as places
use Rattle.lines.proofs.LineOf.{good_where, good_line}
use Rattle.lines.proofs.Earlier.{line_of_today, untold, earlier_of_today, name_of_today}

-- what an answer of the code keeps to by its types, and so any answer that is handed to the writer
pub record Fits (answer : Answer) : Type 0 where
  pub live : answer.live < 2 ^ 16
  pub reference : SFits w16 answer.reference
  pub position : answer.position < 2 ^ 32
  pub angle : SFits w16 answer.angle

-- what a line does not show is 0
abbrev on_the_line : Answer → Answer
on_the_line answer =
    record {
      number = answer.number;
      place = 0;
      state = answer.state;
      gate = answer.gate;
      live = answer.live;
      reference = answer.reference;
      position = answer.position;
      angle = answer.angle;
      offsets = record { first = 0; second = 0 };
      retries = 0;
      judged = answer.judged;
    }

letter_back : (judged : Option Fate) → judged_of (letter judged) ≡ judged
letter_back None = refl
letter_back (Some First) = refl
letter_back (Some Same) = refl
letter_back (Some Forward) = refl
letter_back (Some Back) = refl
letter_back (Some Dead) = refl
letter_back (Some Stray) = refl

read_back : (answer : Answer) → answer.number ≤ 15 → answer.state ≤ 9 → answer.gate ≤ 3 → Fits answer
    → answer_in (line answer) ≡ on_the_line answer
unfolding answer_in
read_back answer number state gate fits =
    rw (
      places.number_at answer,
      digits_back 16 1 answer.number (omega arith) (omega arith) (omega arith),
      places.state_at answer state,
      places.gate_at answer,
      digits_back 10 1 answer.gate (omega arith) (omega arith) (omega arith),
      places.live_at answer,
      digits_back 16 4 answer.live (omega arith) (omega arith) fits.live,
      places.reference_sign answer,
      places.reference_at answer,
      signed_back answer.reference fits.reference,
      places.position_at answer,
      digits_back 16 8 answer.position (omega arith) (omega arith) fits.position,
      places.angle_sign answer,
      places.angle_at answer,
      signed_back answer.angle fits.angle,
      places.letter_at answer,
      letter_back answer.judged,
    )

none_holds : (b c d : Bool) → T (eqb (verdict (row 5 0 false ∷ row 5 1 b ∷ row 5 2 c ∷ row 5 3 d ∷ [])).number 0)
    → T (not b) × T (not c) × T (not d)
none_holds true c d t = absurd t
none_holds false true d t = absurd t
none_holds false false true t = absurd t
none_holds false false false t = (tt, tt, tt)

-- the answer read off a line of today shows what was shown
shown_today_lem : (answer : Answer) → T (accepts answer line_length) → Fits answer → shown_today (line answer) ≡ Some (shown answer)
unfolding line
shown_today_lem answer accepted fits =
    let (number, state, gate) =
    none_holds (ltb 15 answer.number) (ltb 9 answer.state) (ltb 3 answer.gate) accepted
    in
    let back =
    read_back answer (nltb→le 15 answer.number number) (nltb→le 9 answer.state state) (nltb→le 3 answer.gate gate) fits
    in
    good_where (line answer) (rw back (record { accepted = accepted; written = refl })) ∙ ap (λ (a : Answer). Some (shown a)) back

-- Reading gives back what was shown, whatever was: of every answer that has a line.
pub shown_back : (answer : Answer) → T (accepts answer line_length) → Fits answer → shown_by (line answer) ≡ Some (shown answer)
shown_back answer accepted fits = rw (line_of_today answer) (shown_today_lem answer accepted fits)

-- The same of the line that an earlier board prints for it.
pub shown_back_earlier :
    (answer : Answer)
    → T (accepts answer line_length)
    → Fits answer
    → shown_by (earlier_line answer) ≡ Some (shown answer)
shown_back_earlier answer accepted fits =
    rw (earlier_of_today answer) (shown_today_lem (untold answer) accepted (record {
      live = fits.live;
      reference = fits.reference;
      position = fits.position;
      angle = fits.angle;
    }))

-- no state is read that the line does not name
pub name_stands : (bytes : List ℕ) (s : Shown) → shown_by bytes ≡ Some s → part 2 12 bytes ≡ name s.state
name_stands bytes s shows =
    let good : T (is_some (shown_by bytes)) = rw shows tt in
    let is = good_line (of_today bytes) good in
    let same : Some (shown (answer_in (of_today bytes))) ≡ Some s = sym (good_where (of_today bytes) is) ∙ shows in
    name_of_today bytes
    ∙ ap (part 2 12) (sym is.written)
    ∙ places.name_at (answer_in (of_today bytes))
    ∙ ap (λ (o : Option Shown). name (unwrap_or o s).state) same
