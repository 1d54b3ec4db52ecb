-- `serve` is safe: both buffers keep their length, and what is held stays within them.
use Rattle.std.proofs.Common.{length, ◌≡◌, ◌≤◌}
use Rattle.program_judge.proofs.serve.Given as goal

abbrev pub invariant-loop : goal.invariant-loop
invariant-loop g l =
    (length l.input ≡ length l.fn.input) × (length l.lines ≡ length l.fn.lines)
    × (l.held.records.held ≤ length l.input) × (l.held.lines.held ≤ length l.lines)
