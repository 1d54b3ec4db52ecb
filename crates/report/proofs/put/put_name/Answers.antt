-- Each arm of `put_name` puts the name of its own state; the last one is that of the only state left up to nine.
use Rattle.std.proofs.Common.{◌≡◌, arith}
use Rattle.report.proofs.put.put_name.Goals as goal

pub returns-in-0-clause-lent : goal.returns-in-0-clause-lent
returns-in-0-clause-lent c = rw c.in-0.is c.put.ensures.lent

pub returns-in-1-clause-lent : goal.returns-in-1-clause-lent
returns-in-1-clause-lent c = rw c.in-1.is c.put-in-1.ensures.lent

pub returns-in-2-clause-lent : goal.returns-in-2-clause-lent
returns-in-2-clause-lent c = rw c.in-2.is c.put-in-2.ensures.lent

pub returns-in-3-clause-lent : goal.returns-in-3-clause-lent
returns-in-3-clause-lent c = rw c.in-3.is c.put-in-3.ensures.lent

pub returns-in-4-clause-lent : goal.returns-in-4-clause-lent
returns-in-4-clause-lent c = rw c.in-4.is c.put-in-4.ensures.lent

pub returns-in-5-clause-lent : goal.returns-in-5-clause-lent
returns-in-5-clause-lent c = rw c.in-5.is c.put-in-5.ensures.lent

pub returns-in-6-clause-lent : goal.returns-in-6-clause-lent
returns-in-6-clause-lent c = rw c.in-6.is c.put-in-6.ensures.lent

pub returns-in-7-clause-lent : goal.returns-in-7-clause-lent
returns-in-7-clause-lent c = rw c.in-7.is c.put-in-7.ensures.lent

pub returns-in-8-clause-lent : goal.returns-in-8-clause-lent
returns-in-8-clause-lent c = rw c.in-8.is c.put-in-8.ensures.lent

-- nine is left where the numbers below it are ruled out
pub returns-in_default-clause-lent : goal.returns-in_default-clause-lent
returns-in_default-clause-lent c =
    let nine : c.args.state ≡ 9 = omega arith in
    rw nine c.put-in_default.ensures.lent
