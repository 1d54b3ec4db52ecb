-- `twelfth` reads the table, whose rule is one test that antt computes at each of the twelve entries.
use Rattle.std.proofs.Common.{ℕ, ◌*◌, ◌/◌, ◌%◌, Bool, eqb, get_or, ℤ, pos, ap, arith, eqb→eq, w16, to_z, of_z}
use Rattle.numbers.proofs.Table.{at}
use Rattle.hall.specs.Angle.{twelfth, table}
use Rattle.hall.proofs.angle.twelfth.Goals as goal

-- "floor(65536k/12), read as signed 16 bits", as a test of the 16 bits
abbrev right : ℕ → ℤ → Bool
right k angle = eqb (of_z w16 angle) (65536 * k / 12)

pub returns : goal.returns
unfolding twelfth
returns c =
    let k = c.args.k % 12 in
    ap (to_z w16) (eqb→eq (of_z w16 (get_or table k (pos 0))) (65536 * k / 12) (at right table (pos 0) tt k (omega arith)))
