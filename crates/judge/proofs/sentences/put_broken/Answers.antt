-- `put_broken` says nothing where the rule holds.
use Rattle.std.proofs.Common.{[]}
use Rattle.text.proofs.Chains.{first}
use Rattle.judge.specs.Sentences.{broken}
use Rattle.judge.proofs.sentences.put_broken.Goals as goal

pub returns-then-holds : goal.returns-then-holds
unfolding broken
returns-then-holds c = rw c.if-holds.true (first [] (c.put.ensures.next, c.put.ensures.lent))

pub returns : goal.returns
unfolding broken
returns c = rw c.if-holds.false c.put_about.ensures
