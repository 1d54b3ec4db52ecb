-- `fields` puts each field where the one before it ends, so that together they are one run of bytes from the buffer's first.
use Rattle.std.proofs.Common.{[], ◌∷◌, refl, to_z-of_z, w16, FitsSigned, rules}
use Rattle.drive.specs.Answer.{letter}
use Rattle.report.specs.Text.{digits, signed}
use Rattle.report.specs.Line.{name, line}
use Rattle.report.proofs.Runs.{in_front, Stored, with_field}
use Rattle.report.proofs.Digits.{length_digits}
use Rattle.report.proofs.Fields.{length-signed, length-name, length-line}
use Rattle.report.proofs.write.fields.Goals as goal

pub returns : goal.returns
unfolding line
returns c =
    let lent = c.args.lent.now in
    let answer = c.args.answer in
    let fits : FitsSigned w16 answer.reference × FitsSigned w16 answer.angle = search rules in
    let none : Stored lent [] lent 0 = record { out = refl; place = refl } in
    let to-number = with_field (digits 16 1 answer.number) 32 none (length_digits 16 1 _)
    (c.put_digits-at.ensures.next, c.put_digits-at.ensures.lent)
    in
    let to-state = with_field (name answer.state) 32 to-number (length-name answer.state)
    (c.put_name-at.ensures.next, c.put_name-at.ensures.lent)
    in
    let to-gate = with_field (digits 10 1 answer.gate) 32 to-state (length_digits 10 1 _)
    (c.put_digits-at-2.ensures.next, c.put_digits-at-2.ensures.lent)
    in
    let to-live = with_field (digits 16 4 answer.live) 32 to-gate (length_digits 16 4 _)
    (c.put_digits-at-3.ensures.next, c.put_digits-at-3.ensures.lent)
    in
    let put-reference = rw (to_z-of_z fits.0) at c.put_signed-at.ensures.lent in
    let to-reference = with_field (signed answer.reference) 32 to-live (length-signed _) (c.put_signed-at.ensures.next, put-reference) in
    let to-position = with_field (digits 16 8 answer.position) 32 to-reference (length_digits 16 8 _)
    (c.put_digits-at-4.ensures.next, c.put_digits-at-4.ensures.lent)
    in
    let put-angle = rw (to_z-of_z fits.1) at c.put_signed-at-2.ensures.lent in
    let to-angle = with_field (signed answer.angle) 32 to-position (length-signed _) (c.put_signed-at-2.ensures.next, put-angle) in
    let put-letter = rw c.letter-letter.ensures at c.put_letter.ensures.lent in
    let whole = with_field (letter answer.judged ∷ []) 10 to-angle refl (c.put_letter.ensures.next, put-letter) in
    rw (whole.out, in_front lent (line answer) (rw length-line c.requires.line_length_in_bounds), length-line)
