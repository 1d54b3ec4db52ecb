-- The lines of a stream do not depend on how a pipe cuts it, and while the run goes on there is always room to read more.
use mathlib.Core.Path.{◌≡◌}
use mathlib.Core.Bool.{false}
use mathlib.Core.List.{List, ◌++◌, flatten}
use Prim.Native.Nat.{ℕ, ◌-◌, ◌≤◌}
use native.Mathlib.Omega.{arith}
use lib.ListN.{length}
use Rattle.drive.specs.declared.Drive.{Drive}
use Rattle.streams.specs.Stream.{open_run, left, stream, in_one, Fit, Each}
use Rattle.streams.proofs.Stream as streams
use Rattle.records.specs.Run.{shiftline, input_size, output_size, most_held}
use Rattle.records.proofs.Laws.{lawful, roomy, held}

pub one_stream : (pieces : List (List ℕ)) (before : List ℕ) (d : Drive) → Fit shiftline input_size output_size pieces before d
    → stream shiftline input_size output_size pieces before d ≡ in_one shiftline (before ++ flatten pieces) d
one_stream = streams.one_stream lawful input_size output_size roomy

pub left_few : (bytes : List ℕ) (d : Drive) → length bytes ≤ input_size
    → (open_run shiftline input_size output_size bytes d).ended ≡ false
    → length (left shiftline input_size output_size bytes d) ≤ most_held
left_few bytes d = streams.left_few lawful input_size output_size roomy held bytes d tt

pub always_fit : (pieces : List (List ℕ)) (before : List ℕ) (d : Drive)
    → Each (λ piece. Unit {0} × (length piece ≤ input_size - most_held)) pieces
    → length before ≤ most_held
    → Fit shiftline input_size output_size pieces before d
always_fit pieces before d small =
    streams.always_fit lawful input_size output_size roomy held pieces before d (omega arith) small tt
