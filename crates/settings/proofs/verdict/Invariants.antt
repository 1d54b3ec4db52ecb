-- `verdict` walks the rows from the first: what the rows from `i` on say is what all of them say.
use Rattle.std.proofs.Common.{◌≡◌}
use Rattle.verdicts.specs.Table.{verdict}
use Rattle.settings.specs.Rules.{setting_rows}
use Rattle.settings.proofs.Places.{from}
use Rattle.settings.proofs.verdict.Given as goal

abbrev pub invariant-loop-i : goal.invariant-loop-i
invariant-loop-i l = verdict (setting_rows l.settings) ≡ from l.settings l.i
