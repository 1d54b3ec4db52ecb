-- P1 to P10 hold: one table, one theorem, computed by antt.
use mathlib.Core.Bool.{Bool, true, ◌&&◌}
use mathlib.Core.List.{List, [], ◌∷◌}
use lib.Dec.{T}
use Rattle.theorems_history.specs.Log.{state_after}
use Rattle.theorems_demands.proofs.Computes.{computes}
use Rattle.theorems_demands.specs.Bench.{Case, bench}

abbrev pub all_hold : List Case → Bool
all_hold [] = true
all_hold (c ∷ cases) = c.holds && all_hold cases

pub bench_holds : T (all_hold bench)
unfolding bench state_after computes
bench_holds = tt
