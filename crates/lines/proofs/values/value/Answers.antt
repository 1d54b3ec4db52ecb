-- One digit more is one byte more, and the value of at most eight digits leaves no 32 bits.
use Rattle.std.proofs.Common.{◌≡◌, ℕ, ◌+◌, ◌*◌, ◌^◌, ◌<◌, ◌≤◌, List, length, get_or, take, refl, arith, add-one, take-suc, take_all}
use Rattle.std.proofs.Math.ListN.{length-take}
use Rattle.std.proofs.Math.Nat.{pow-le-pow_right}
use Rattle.lines.specs.Values.{value_of, onward, value}
use Rattle.lines.proofs.Digits.{value_more, value_below}
use Rattle.lines.proofs.values.value.Goals as goal

one_more : (i : ℕ) (digits : List ℕ) (base : ℕ) → i < length digits
    → value base (take (i + 1) digits) ≡ value base (take i digits) * base + value_of (get_or digits i 0)
one_more i digits base inside = rw (add-one, take-suc digits i 0 inside) (value_more base (take i digits) (get_or digits i 0))

-- no digit more makes the sum leave 32 bits
fits : (i : ℕ) (digits : List ℕ) (base sum : ℕ) → base ≤ 16 → length digits ≤ 8 → i < length digits
    → sum ≡ value base (take i digits) → sum * base + value_of (get_or digits i 0) < 16 ^ 8
fits i digits base sum small few inside is =
    let long : length (take (i + 1) digits) ≡ i + 1 = rw length-take (omega arith) in
    let here = rw long at (value_below base small (take (i + 1) digits)) in
    let most : 16 ^ (i + 1) ≤ 16 ^ 8 = pow-le-pow_right {n = 16} (omega arith) {i = i + 1} {j = 8} (omega arith) in
    let more = one_more i digits base inside in
    rw is (omega (arith, rw more at here, most))

pub loop-byte-init : goal.loop-byte-init
unfolding onward
loop-byte-init c = refl

pub overflow_mul-sum : goal.overflow_mul-sum
overflow_mul-sum c =
    omega (
      arith,
      fits c.loop-byte.byte-index c.args.digits.now c.args.base c.loop-byte.sum c.requires.0 c.requires.1
          c.loop-byte-test.true c.loop-byte.invariant,
    )

pub overflow_add-sum : goal.overflow_add-sum
overflow_add-sum c =
    omega (
      arith,
      fits c.loop-byte.byte-index c.args.digits.now c.args.base c.loop-byte.sum c.requires.0 c.requires.1
          c.loop-byte-test.true c.loop-byte.invariant,
      c.digit.ensures,
    )

pub loop-byte-preserved : goal.loop-byte-preserved
loop-byte-preserved c =
    let more = one_more c.loop-byte.byte-index c.args.digits.now c.args.base c.loop-byte-test.true in
    cc (more, c.loop-byte.invariant, c.digit.ensures)

pub returns-clause-below : goal.returns-clause-below
returns-clause-below c =
    let sum : c.loop-byte.sum ≡ value c.args.base c.args.digits.now =
    rw (c.loop-byte.invariant, take_all c.loop-byte.byte-index c.args.digits.now (omega arith)) in
    rw sum (value_below c.args.base c.requires.0 c.args.digits.now)
