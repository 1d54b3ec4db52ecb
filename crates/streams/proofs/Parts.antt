-- The part of a list from a place to its end: as code lends it, and the whole when it has come back.
use mathlib.Core.Path.{◌≡◌}
use mathlib.Core.List.{List, ◌++◌}
use Prim.Native.Nat.{ℕ, ◌-◌}
use native.Mathlib.Omega.{arith}
use lib.ListN.{length, take, drop, length-drop}
use lib.Seq.{take_all}

abbrev pub part : ℕ → List ℕ → List ℕ
part at l = take (length l - at) (drop at l)

abbrev pub back : ℕ → List ℕ → List ℕ → List ℕ
back at l left = take at l ++ (left ++ drop (length l - at) (drop at l))

pub tail : (l : List ℕ) (at : ℕ) → part at l ≡ drop at l
tail l at = take_all (length l - at) (drop at l) (omega (arith, length-drop at l))
