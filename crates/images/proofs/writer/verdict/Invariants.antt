-- `verdict` has passed the first k blocks at the head of its loop: what all the rows say, those of the others and the later one say.
use Rattle.std.proofs.Common.{◌≡◌, [], ◌∷◌}
use Rattle.verdicts.specs.Table.{row, verdict}
use Rattle.images.specs.Writes.{length_rows}
use Rattle.images.proofs.Rows.{from}
use Rattle.images.proofs.writer.verdict.Given as goal

abbrev pub invariant-loop-k : goal.invariant-loop-k
invariant-loop-k l =
    from l.blocks (row 5 0 l.short ∷ []) l.k ≡ verdict (length_rows 1 l.blocks (row 5 0 l.short ∷ []))
