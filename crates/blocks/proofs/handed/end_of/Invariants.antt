-- `end_of` has walked over the first blocks at the head of its loop, none of a bad kind, and knows where the next begins.
use Rattle.std.proofs.Common.{◌≡◌, ◌+◌, ◌*◌, ◌≤◌, false}
use Rattle.blocks.specs.Table.{place_of, bad_kind}
use Rattle.blocks.proofs.handed.end_of.Given as goal

abbrev pub invariant-loop : goal.invariant-loop
invariant-loop l =
    (l.place ≤ 4 + 52 * l.counter) × (l.place ≡ place_of l.bytes l.counter) × (bad_kind l.bytes l.counter ≡ false)
