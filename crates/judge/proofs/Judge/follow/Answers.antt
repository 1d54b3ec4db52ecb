-- `follow` does in each arm what the definition does about the front that the reader's answer means.
use Rattle.std.proofs.Common.{◌≡◌, ℕ, Bool, List, length, refl, ap, sym, ◌∙◌, arith}
use Rattle.std.specs.Prelude.{Ok, Err}
use Rattle.drive.specs.AnyCall.{Call, asked}
use Rattle.drive.proofs.Loads.{same_load}
use Rattle.streams.proofs.Grown.{within}
use Rattle.onlooker.proofs.Heard.{meant_heard}
use Rattle.streams.specs.declared.Missing.TheVariants.{Unknown}
use Rattle.records.specs.declared.Record.{Record}
use Rattle.records.specs.Front.{front}
use Rattle.records.specs.Run.{shiftline, most_held}
use Rattle.records.proofs.MoreBytes.{ReadOff, grown}
use Rattle.records.proofs.WhatIsFound.{Means, all_25, itself, Whole, meaning}
use Rattle.judge.specs.Judged.{judge_call}
use Rattle.judge.specs.Run.{told, follow}
use Rattle.judge.specs.declared.Judge.{Judge}
use Rattle.judge.proofs.Judge.follow.Goals as goal

-- a call that means another is judged as that one
judged_alike : (j : Judge) (line : List ℕ) {r s : Call} → Means r s → judge_call j s line ≡ judge_call j r line
judged_alike j line (all_25 numbers either) = rw (same_load j.drive numbers either, meant_heard j.onlooker numbers _ either)
judged_alike j line (itself r) = refl

-- so a whole record is followed as the one that stands there
followed : (closed : Bool) (j : Judge) (line bytes : List ℕ) (found : Record) → Whole bytes found
    → told (judge_call j (asked found.call) line) found.size (length line) ≡ follow closed j line (front bytes)
followed closed j line bytes found is = rw (is.stands, is.size, judged_alike j line is.means)

pub returns-in-Ok-clause-result : goal.returns-in-Ok-clause-result
returns-in-Ok-clause-result c =
    let line = c.args.line.now in
    let found = c.in-Ok.record in
    rw c.told.ensures
    (ap (λ (j : Judge). told j found.size (length line)) c.call.ensures
    ∙ followed c.args.records.over c.args.self.now line c.args.records.bytes.now found
    (meaning c.args.records.bytes.now (Ok found) (sym c.in-Ok.is ∙ c.read.ensures)))

pub returns-in-Ok-clause-within : goal.returns-in-Ok-clause-within
returns-in-Ok-clause-within c =
    let record_ = meaning c.args.records.bytes.now (Ok c.in-Ok.record) (sym c.in-Ok.is ∙ c.read.ensures) in
    let inside = within shiftline ReadOff (λ _. most_held) grown c.args.records.bytes.now record_.call record_.stands in
    rw c.told.ensures (omega (arith, inside, record_.size), omega arith)

pub returns-in-Unknown-clause-result : goal.returns-in-Unknown-clause-result
returns-in-Unknown-clause-result c =
    let stands = meaning c.args.records.bytes.now (Err Unknown) (sym (c.in-Err.is ∙ ap Err c.in-Unknown.is) ∙ c.read.ensures) in
    rw (c.told-in-Unknown.ensures, c.refuse.ensures, stands)
