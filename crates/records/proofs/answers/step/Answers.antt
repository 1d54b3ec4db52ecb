-- `step` does what stands at the front: each arm meets the case of the definition that the reader's answer means.
use Rattle.std.proofs.Common.{◌≡◌, ℕ, ◌≤◌, Bool, false, cond, List, length, refl, ap, ◌∙◌}
use Rattle.drive.specs.AnyCall.{Call, reply, asked}
use Rattle.drive.specs.declared.Drive.{Drive}
use Rattle.report.specs.Line.{line}
use Rattle.report.specs.Refusals.{line_length}
use Rattle.streams.specs.Run.{Front, short, Outcome, rest, refused, lined, follow, runs}
use Rattle.streams.proofs.ByFront.{at_tight, one_front, one_whole}
use Rattle.records.specs.Front.{front}
use Rattle.records.specs.Run.{shiftline}
use Rattle.records.specs.declared.Record.{Record}
use Rattle.records.proofs.Printed.{reply_printed}
use Rattle.records.proofs.WhatIsFound.{Whole, meaning, replied_alike}
use Rattle.records.proofs.answers.step.Goals as goal

-- one record at most, where a line has room
module _ (bytes lent : List ℕ) (closed : Bool) (d : Drive) (room : line_length ≤ length lent) where
  abbrev done : Outcome Drive
  done = runs shiftline 1 closed (length lent) bytes d

  -- what the definition does about what stands at the front; and about a part of a record
  at_front : {f : Front Call} → front bytes ≡ f
      → done ≡ follow shiftline closed d f (λ (r : Call). rest (reply d r).drive)
  at_front is = one_front shiftline _ _ _ _ room is

  at_short : front bytes ≡ short → {is-closed : Bool} → closed ≡ is-closed → done ≡ cond is-closed (refused shiftline d) (rest d)
  at_short there is = at_front there ∙ ap (λ (b : Bool). cond b (refused shiftline d) (rest d)) is

  -- a whole record, and the reply to the call that is handed on
  replied : (found : Record) → Whole bytes found
      → done ≡ lined (line (reply d (asked found.call)).answer) (reply d (asked found.call)).drive found.size false
  replied found there =
      rw (there.size, replied_alike d there.means) (one_whole shiftline _ _ _ _ room there.call there.stands)

pub returns-then-output-lt-LINE_LENGTH : goal.returns-then-output-lt-LINE_LENGTH
returns-then-output-lt-LINE_LENGTH c =
    let is = at_tight shiftline 0 c.args.closed (length c.args.output.now) c.args.input.now c.args.drive
    c.if-output-lt-LINE_LENGTH.true
    in
    record { result = rw is c.resting.ensures; lent = rw is refl }

pub answering-requires : goal.answering-requires
answering-requires c = reply_printed _ (asked _) _ c.call.ensures c.if-output-lt-LINE_LENGTH.false

pub returns-in-Ok : goal.returns-in-Ok
returns-in-Ok c =
    let bytes = c.args.input.now in
    let is = replied bytes c.args.output.now c.args.closed c.args.drive c.if-output-lt-LINE_LENGTH.false _
    (meaning bytes _ c.in-Ok.ensures)
    in
    record {
      result = rw (is, ← c.call.ensures) c.answering.ensures.result;
      lent = rw (is, ← c.call.ensures) c.answering.ensures.lent;
    }

pub returns-in-Err-End : goal.returns-in-Err-End
returns-in-Err-End c =
    let bytes = c.args.input.now in
    let there = rw (c.in-Err-End.is, c.in-Err-End.field-0-is) at (meaning bytes _ c.read.ensures) in
    let is = at_front bytes c.args.output.now c.args.closed c.args.drive c.if-output-lt-LINE_LENGTH.false there in
    record { result = rw is c.resting-in-Err-End.ensures; lent = rw is refl }

pub returns-in-Err-Unknown : goal.returns-in-Err-Unknown
returns-in-Err-Unknown c =
    let bytes = c.args.input.now in
    let there = rw (c.in-Err-Unknown.is, c.in-Err-Unknown.field-0-is) at (meaning bytes _ c.read.ensures) in
    let is = at_front bytes c.args.output.now c.args.closed c.args.drive c.if-output-lt-LINE_LENGTH.false there in
    record { result = rw is c.refusing.ensures.result; lent = rw is c.refusing.ensures.lent }

-- a part of a record is refused where no more comes
pub returns-then-closed : goal.returns-then-closed
returns-then-closed c =
    let bytes = c.args.input.now in
    let there = rw (c.in-Err-Short.is, c.in-Err-Short.field-0-is) at (meaning bytes _ c.read.ensures) in
    let is = at_short bytes c.args.output.now c.args.closed c.args.drive c.if-output-lt-LINE_LENGTH.false there c.if-closed.true in
    record { result = rw is c.refusing-then-closed.ensures.result; lent = rw is c.refusing-then-closed.ensures.lent }

pub returns-else-closed : goal.returns-else-closed
returns-else-closed c =
    let bytes = c.args.input.now in
    let there = rw (c.in-Err-Short.is, c.in-Err-Short.field-0-is) at (meaning bytes _ c.read.ensures) in
    let is = at_short bytes c.args.output.now c.args.closed c.args.drive c.if-output-lt-LINE_LENGTH.false there c.if-closed.false in
    record { result = rw is c.resting-else-closed.ensures; lent = rw is refl }
