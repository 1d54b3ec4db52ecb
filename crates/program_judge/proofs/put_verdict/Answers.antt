-- `put_verdict` puts all that is said, since there is room for it.
use native.Mathlib.Omega.{arith}
use Rattle.std.proofs.Common.{rules}
use Rattle.text.specs.Put.{behind}
use Rattle.judge.proofs.Room.{all_said}
use Rattle.program_judge.proofs.put_verdict.Goals as goal

pub returns-clause-within : goal.returns-clause-within
unfolding behind
returns-clause-within c = omega (arith, c.verdict.ensures.next)

pub returns-clause-all : goal.returns-clause-all
returns-clause-all c =
    rw (c.verdict.ensures.next, c.verdict.ensures.lent) (all_said c.args.judge c.args.output.now (search rules) c.requires)
