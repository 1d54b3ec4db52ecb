-- `put_column` puts the number's digits and, where the column is wider, what is left blank of the page behind them.
use Rattle.std.proofs.Common.{◌≡◌, ap, ◌∙◌, ℕ, ◌+◌, ◌-◌, min, ◌++◌, replicate, length, take, arith}
use Rattle.std.proofs.lemmas.List.{drop-replicate, take-replicate}
use lib.Seq.{take-add}
use Prim.Native.Char.{code}
use Rattle.text.specs.Decimal.{decimal, column}
use Rattle.text.proofs.Decimals.{decimal_made}
use Rattle.text.proofs.put_column.Goals as goal

pub returns : goal.returns
unfolding column
returns c =
    let told = c.decimal-count.ensures in
    let count = c.decimal-count.result in
    let page = c.decimal-count.new.out in
    let made : take count page ≡ decimal c.args.number = decimal_made count c.args.number page c.ranges.number.fits told.len told.digits in
    let counted : count ≡ length (decimal c.args.number) = told.in_bounds.1 ∙ ap length made in
    let left : ℕ = min c.args.width 20 - count in
    let whole : c.max.result ≡ count + left = omega (arith, c.max.ensures, c.min.ensures) in
    let put : take c.max.result page ≡ decimal c.args.number
    ++ replicate (min c.args.width 20 - length (decimal c.args.number)) (code " ") =
    rw (
      whole,
      take-add count left page,
      made,
      told.rest,
      drop-replicate count 20 (code " "),
      take-replicate left (20 - count) (code " ") (omega arith),
      ← counted,
    ) in
    record { next = c.put.ensures.next ∙ rw put; lent = c.put.ensures.lent ∙ rw put }
