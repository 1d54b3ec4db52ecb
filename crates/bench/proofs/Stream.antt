-- The lines of a stream do not depend on how a pipe cuts it, and while the run goes on there is always room to read more.
use mathlib.Core.Path.{◌≡◌}
use mathlib.Core.Bool.{false}
use mathlib.Core.List.{List, ◌++◌, flatten}
use Prim.Native.Nat.{ℕ, ◌-◌, ◌≤◌}
use native.Mathlib.Omega.{arith}
use lib.ListN.{length}
use Rattle.numbers.proofs.Bytes.{Bytes}
use Rattle.drive.specs.declared.Drive.{Drive}
use Rattle.streams.specs.Stream.{open_run, left, stream, in_one, Fit, Each}
use Rattle.streams.proofs.Stream as streams
use Rattle.bench.specs.Benchline.{benchline, input_size, output_size, most_held}
use Rattle.bench.proofs.Laws.{lawful, roomy, held}

pub one_stream : (pieces : List (List ℕ)) (before : List ℕ) (d : Drive) → Fit benchline input_size output_size pieces before d
    → stream benchline input_size output_size pieces before d ≡ in_one benchline (before ++ flatten pieces) d
one_stream = streams.one_stream lawful input_size output_size roomy

pub left_few : (bytes : List ℕ) (d : Drive) → Bytes bytes → length bytes ≤ input_size
    → (open_run benchline input_size output_size bytes d).ended ≡ false
    → length (left benchline input_size output_size bytes d) ≤ most_held
left_few = streams.left_few lawful input_size output_size roomy held

pub always_fit : (pieces : List (List ℕ)) (before : List ℕ) (d : Drive)
    → Each (λ piece. Bytes piece × (length piece ≤ input_size - most_held)) pieces
    → Bytes before
    → length before ≤ most_held
    → Fit benchline input_size output_size pieces before d
always_fit pieces before d = streams.always_fit lawful input_size output_size roomy held pieces before d (omega arith)
