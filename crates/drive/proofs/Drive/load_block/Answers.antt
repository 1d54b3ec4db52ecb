-- `load_block` loads the numbers of the part that the reader gives back, with flag 12 in what a refusal leaves in IDLE; what the reader
-- refuses, it refuses alike.
use Rattle.std.proofs.Common.{refl}
use Rattle.numbers.proofs.Bytes.{length-numbers}
use Rattle.states.specs.declared.State.TheVariants.{Idle}
use Rattle.states.proofs.Equal.{equal_is}
use Rattle.drive.proofs.BlockLoads.{found_loads, not_found, counts, within_25, numbers_are, refused, found}
use Rattle.drive.proofs.Drive.load_block.Goals as goal

pub returns-then-is_err : goal.returns-then-is_err
returns-then-is_err c =
    let said = c.verdict-found.ensures in
    let given = refused c.verdict-found.result (rw c.is_err.ensures.value at c.if-is_err.true) in
    rw (c.settle.ensures, said) (not_found c.args.self c.args.image.now c.args.block (rw said at given))

-- the numbers of the body are within the array
pub slice_bounds-numbers-end : goal.slice_bounds-numbers-end
slice_bounds-numbers-end c =
    let none = rw c.verdict-found.ensures at (found c.verdict-found.result (rw c.is_err.ensures.value at c.if-is_err.false)) in
    let fits = within_25 _ (counts c.args.image.now c.args.block none) in
    rw (c.numbers_of-numbers.ensures, length-numbers, c.body-body.ensures.holds) fits

pub slice_bounds-load_or-end : goal.slice_bounds-load_or-end
slice_bounds-load_or-end c =
    let none = rw c.verdict-found.ensures at (found c.verdict-found.result (rw c.is_err.ensures.value at c.if-is_err.false)) in
    let count = counts c.args.image.now c.args.block none in
    rw (c.numbers_of-numbers.ensures, c.body-body.ensures.holds, numbers_are _ count _, length-numbers) refl

pub returns : goal.returns
returns c =
    let image = c.args.image.now in
    let block = c.args.block in
    let none = rw c.verdict-found.ensures at (found c.verdict-found.result (rw c.is_err.ensures.value at c.if-is_err.false)) in
    rw (
      c.load_or.ensures,
      c.numbers_of-numbers.ensures,
      c.body-body.ensures.holds,
      numbers_are _ (counts image block none) _,
      c.pick-left.ensures,
      c.marked.ensures,
      c.eq.ensures,
      equal_is c.args.self.state Idle,
    )
    (found_loads c.args.self image block none)
