-- `put_about` is a chain of four writers.
use Rattle.text.specs.Text.{text}
use Rattle.text.specs.Decimal.{column}
use Rattle.text.proofs.Chains.{first, and_then}
use Rattle.judge.specs.Sentences.{placed, about}
use Rattle.judge.proofs.sentences.put_about.Goals as goal

pub returns : goal.returns
unfolding about placed
returns c =
    let word = first (text "record ") (c.put-at.ensures.next, c.put-at.ensures.lent) in
    let numbered = and_then (column 5 c.args.number) word (c.put_column-at.ensures.next, c.put_column-at.ensures.lent) in
    let placed = and_then (text "  ") numbered (c.put-at-2.ensures.next, c.put-at-2.ensures.lent) in
    and_then c.args.words.now placed (c.put.ensures.next, c.put.ensures.lent)
