-- `put_breaking` puts each rule that does not hold, one after the other.
use Rattle.text.proofs.Chains.{and_then}
use Rattle.judge.specs.Sentences.{exit_words, retries_words, broken}
use Rattle.judge.proofs.sentences.put_breaking.Goals as goal

pub returns : goal.returns
returns c =
    let first = c.in-Some.first in
    let two = and_then (broken first.rules.exit first.number exit_words) c.put_broken-at.ensures
    (c.put_broken-at-2.ensures.place, c.put_broken-at-2.ensures.out) in
    rw c.in-Some.is
    (and_then (broken first.rules.retries first.number retries_words) two (c.put_broken.ensures.place, c.put_broken.ensures.out))
