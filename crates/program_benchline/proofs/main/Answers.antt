-- `main` lends two arrays of these lengths; the law of their length is cited, since to count a million bytes is too deep for a search.
use mathlib.Core.Path.{◌≡◌, sym}
use Prim.Native.Nat.{ℕ}
use lib.ListN.{length, replicate, length-replicate}
use Rattle.bench.specs.Benchline.{input_size, output_size}
use Rattle.program_benchline.proofs.main.Goals as goal

-- the level is written out, so that two lengths are compared by what they are lengths of
filled : (n : ℕ) → length {0} {A = ℕ} (replicate n 0) ≡ n
filled n = length-replicate {0} {A = ℕ} n 0

pub slice_bounds-answer-end-2 : goal.slice_bounds-answer-end-2
slice_bounds-answer-end-2 c = sym (filled output_size)

pub answer-requires : goal.answer-requires
answer-requires c = (filled input_size, filled output_size)
