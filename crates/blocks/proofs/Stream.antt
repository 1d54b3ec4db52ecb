-- The lines of a stream do not depend on how a pipe cuts it, and while the run goes on there is always room to read more.
use mathlib.Core.Path.{◌≡◌}
use mathlib.Core.Bool.{false}
use mathlib.Core.List.{List, ◌++◌, flatten}
use Prim.Native.Nat.{ℕ, ◌-◌, ◌≤◌}
use native.Mathlib.Omega.{arith}
use lib.ListN.{length}
use Rattle.streams.specs.Stream.{open_run, left, stream, in_one, Fit, Each}
use Rattle.streams.proofs.Stream as streams
use Rattle.blocks.specs.Blockline.{State, blockline, input_size, output_size, most_held}
use Rattle.blocks.proofs.Laws.{lawful, roomy, held}

pub one_stream : (pieces : List (List ℕ)) (before : List ℕ) (s : State) → Fit blockline input_size output_size pieces before s
    → stream blockline input_size output_size pieces before s ≡ in_one blockline (before ++ flatten pieces) s
one_stream = streams.one_stream lawful input_size output_size roomy

pub left_few : (bytes : List ℕ) (s : State) → length bytes ≤ input_size
    → (open_run blockline input_size output_size bytes s).ended ≡ false
    → length (left blockline input_size output_size bytes s) ≤ most_held
left_few bytes s = streams.left_few lawful input_size output_size roomy held bytes s tt

pub always_fit : (pieces : List (List ℕ)) (before : List ℕ) (s : State)
    → Each (λ piece. Unit {0} × (length piece ≤ input_size - most_held)) pieces
    → length before ≤ most_held
    → Fit blockline input_size output_size pieces before s
always_fit pieces before s small = streams.always_fit lawful input_size output_size roomy held pieces before s (omega arith) small tt
