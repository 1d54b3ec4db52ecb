-- A turn of `numbers_at` stores the next number of the definition; behind the last one the array is blank.
use Rattle.std.proofs.Common.{◌≡◌, ◌∙◌, ap, ◌+◌, ◌*◌, ◌<◌, ◌≤◌, min, ℕ, length, replicate, arith}
use lib.ListN.{length-replicate}
use lib.Seq.{take_all}
use Rattle.numbers.specs.Bytes.{number, numbers}
use Rattle.numbers.proofs.Bytes.{length-numbers, number_at, number_capped}
use Rattle.numbers.proofs.Fill.{filled_more}
use Rattle.numbers.proofs.numbers_at.Goals as goal

pub loop-i-preserved : goal.loop-i-preserved
loop-i-preserved g c =
    let bytes = c.args.bytes.now in
    let first = c.args.first in
    let i = c.loop-i.i in
    let count : ℕ = min c.args.count g.row.N in
    let below : i < count = omega (arith, c.min-i-end.ensures) in
    let short : length bytes ≤ 18446744073709551615 = omega arith in
    rw c.loop-i.invariant
    (filled_more (replicate g.row.N c.args.blank) (numbers count first bytes) i (simp length-replicate (omega arith))
    (simp length-numbers below)
    (c.number_at.ensures ∙ ap (λ (at : ℕ). number at bytes) c.saturating_add.ensures
    ∙ number_capped (first + 2 * i) 18446744073709551615 bytes short ∙ number_at count first bytes i below))

pub returns : goal.returns
returns g c =
    let count : ℕ = min c.args.count g.row.N in
    let made = numbers count c.args.first c.args.bytes.now in
    let all : c.loop-i.i ≡ count = omega (arith, c.min-i-end.ensures, c.loop-i-test.false) in
    c.loop-i.invariant ∙ rw (all, take_all count made (simp length-numbers (omega arith)))
