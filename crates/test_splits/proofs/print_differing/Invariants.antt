-- `print_differing` counts: no more splits differ than it has tried.
use Rattle.std.proofs.Common.{◌≤◌}
use Rattle.test_splits.proofs.print_differing.Given as goal

abbrev pub invariant-loop-split : goal.invariant-loop-split
invariant-loop-split g l = l.differing ≤ l.split
