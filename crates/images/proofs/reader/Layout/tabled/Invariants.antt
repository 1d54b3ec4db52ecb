-- `tabled` has passed the first k entries at the head of its loop, and knows where their bodies end.
use Rattle.std.proofs.Common.{◌≡◌, ◌+◌, ◌*◌, ◌≤◌, true}
use Rattle.images.specs.Table.{ends, kept}
use Rattle.images.proofs.reader.Layout.tabled.Given as goal

abbrev pub invariant-loop-k : goal.invariant-loop-k
invariant-loop-k l =
    (l.end ≤ 65535 + 65535 * l.k) × (l.end ≡ ends l.self.before l.self.blocks l.image l.k)
    × (kept l.self.before l.self.blocks l.image l.k ≡ true)
