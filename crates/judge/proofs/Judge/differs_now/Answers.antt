-- `differs_now` asks of the lines what its definition asks.
use Rattle.lines.proofs.LineOf.{same_test}
use Rattle.judge.specs.Judged.{differs_now}
use Rattle.judge.proofs.Judge.differs_now.Goals as goal

pub returns : goal.returns
unfolding differs_now
returns c =
    let same = same_test c.args.expected c.args.found c.same-differs.result c.same-differs.ensures.0 c.same-differs.ensures.1 in
    rw (c.or.ensures, c.then_some.ensures, c.next_number-number.ensures, same)
