-- What the onlooker as code says of this drive: after every sequence of calls all three rules of demand 3 hold, so `why` never tells of a
-- start that was not permitted, and whoever judges this drive's own log finds no breach.
use Prim.Native.Nat.{suc, ◌≤◌}
use mathlib.Core.Path.{◌≡◌, refl, ap}
use mathlib.Core.Bool.{Bool, ◌&&◌}
use mathlib.Core.List.{List, [], ◌∷◌}
use lib.Dec.{T}
use lib.ListN.{length}
use mir.Facts.{and_yes}
use Rattle.numbers.proofs.Tests.{all_three}
use Rattle.theorems_history.specs.Log.{log}
use Rattle.theorems_history.specs.Onlooker.{notes}
use Rattle.theorems_history.specs.History.{holds, gates_rule, exit_rule, retry_rule}
use Rattle.drive.specs.AnyCall.{Call}
use Rattle.theorems_reached.specs.Machine.{machine}
use Rattle.onlooker.specs.Words.{words}
use Rattle.onlooker.specs.Past.{most}
use Rattle.onlooker.specs.Tells.{heard_of}
use Rattle.onlooker.proofs.Follows.{tells}
use Rattle.theorems_demands.proofs.Lawful.{drive_demand3}

logged : (calls : List Call) → length (log machine calls) ≡ length calls
unfolding log
logged [] = refl
logged (call ∷ earlier) = ap suc (logged earlier)

-- a list of notes that the demand holds of keeps its three rules at the newest
newest : (calls : List Call)
    → T (gates_rule (notes words (log machine calls)))
    × T (exit_rule (notes words (log machine calls)))
    × T (retry_rule (notes words (log machine calls)))
unfolding log notes holds gates_rule exit_rule retry_rule
newest [] = (tt, tt, tt)
newest (call ∷ earlier) =
    let past = notes words (log machine (call ∷ earlier)) in
    let all : Bool = gates_rule past && exit_rule past && retry_rule past in
    all_three (gates_rule past) (exit_rule past) (retry_rule past)
    (and_yes all (holds (notes words (log machine earlier))) (drive_demand3 (call ∷ earlier))).0

pub never_a_breach : (calls : List Call) → length calls ≤ most
    → T (heard_of (log machine calls)).rules.gates
    × T (heard_of (log machine calls)).rules.exit
    × T (heard_of (log machine calls)).rules.retries
never_a_breach calls short =
    let told = tells (log machine calls) (rw (logged calls) short) in
    (rw told.gates (newest calls).0, rw told.exit (newest calls).1, rw told.retries_within (newest calls).2)
