-- `put_differing` puts the two lines behind the sentence.
use Rattle.text.proofs.Chains.{and_then}
use Rattle.judge.specs.NextLine.{line_of}
use Rattle.judge.specs.Sentences.{found_words}
use Rattle.judge.proofs.sentences.put_differing.Goals as goal

pub returns : goal.returns
returns c =
    let first = c.in-Some.first in
    let expected = and_then (line_of first.expected) c.put_about-at.ensures
    (c.put_line-at.ensures.place, c.put_line-at.ensures.out) in
    let both = and_then found_words expected (c.put-at.ensures.next, c.put-at.ensures.lent) in
    rw c.in-Some.is (and_then (line_of first.found) both (c.put_line.ensures.place, c.put_line.ensures.out))
