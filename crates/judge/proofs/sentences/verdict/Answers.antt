-- `verdict` is a chain of five writers.
use Rattle.text.specs.Decimal.{decimal}
use Rattle.text.proofs.Chains.{first, and_then}
use Rattle.judge.specs.Sentences.{calls_words, counting, differing, breaking, ending, said}
use Rattle.judge.proofs.sentences.verdict.Goals as goal

pub returns : goal.returns
unfolding said counting
returns c =
    let j = c.args.judge in
    let heard = first (decimal j.onlooker.past.heard) (c.put_decimal-at.ensures.next, c.put_decimal-at.ensures.lent) in
    let counted = and_then calls_words heard (c.put-at.ensures.next, c.put-at.ensures.lent) in
    let compared = and_then (differing j.differs) counted (c.put_differing-at.ensures.place, c.put_differing-at.ensures.out) in
    let kept = and_then (breaking j.breaks) compared (c.put_breaking-at.ensures.place, c.put_breaking-at.ensures.out) in
    let all = and_then (ending j.end c.next_number.result) kept (c.put_ending.ensures.place, c.put_ending.ensures.out) in
    rw (← c.next_number.ensures) (record { next = all.place; lent = all.out })
