-- `load_or` settles by what refuses the load; accepted, all is as at power-up but state, settings and sensors.
use Rattle.std.proofs.Common.{◌≤◌, length, replicate, rules}
use Rattle.std.proofs.lemmas.List.{take-append-le}
use Rattle.settings.specs.Settings.{setting_count, meant}
use Rattle.drive.specs.Calls.{loaded}
use Rattle.drive.proofs.Loads.{counted, same_next}
use Rattle.drive.proofs.Drive.load_or.Goals as goal

pub returns : goal.returns
returns c =
    let d = c.args.self in
    let numbers = c.args.numbers.now in
    let settings = c.completed-settings.result in
    let long : setting_count ≤ length settings = search rules in
    rw (c.settle.ensures, c.refuses_load.ensures)
    (same_next _ c.fresh-next.result (loaded (meant numbers)) c.args.left
    (λ none.
    rw (
      c.fresh-next.ensures,
      c.filled.ensures,
      c.chosen.ensures,
      take-append-le setting_count settings (replicate setting_count 0) long,
      ← c.completed-settings.ensures (counted d numbers none),
    )))
