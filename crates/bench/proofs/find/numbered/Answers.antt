-- `numbered` counts the numbers by the byte behind the letter.
use Prim.Native.Nat.{◌≤◌}
use lib.ListN.{length}
use borrow.Author.Tests.{le-ltb}
use Rattle.numbers.specs.Bytes.{byte}
use Rattle.numbers.proofs.Bytes.{length-numbers}
use Rattle.bench.specs.Table.{numbered_size}
use Rattle.bench.proofs.find.numbered.Goals as goal

pub returns : goal.returns
returns c =
    let bytes = c.args.bytes.now in
    let all : numbered_size (byte 1 bytes) ≤ length bytes =
    rw (← c.byte_at-count.ensures, ← c.numbered_size.ensures) c.if-bytes-numbered_size.false in
    rw (le-ltb (length bytes) (numbered_size (byte 1 bytes)) all, length-numbers, c.byte_at-count.ensures)
