-- "it names the first line that differs from what the supervisor answers, and the first entry of the log that breaks demand 3": what it is
-- to be the first.
use Rattle.std.specs.Prelude.{ℕ, suc, List, ◌∷◌, length}
use Rattle.theorems_history.specs.Onlooker.{notes}
use Rattle.theorems_history.specs.History.{Demand3}
use Rattle.onlooker.specs.Words.{words}
use Rattle.judge.specs.Printed.{Printed, board_log}

-- The number, from 1, of the call with which something ceases to be right of all calls up to it; it was right of those before.
pub data First (Right : List Printed → Type 0) : List Printed → ℕ → Type 0 where
  newest :
      (p : Printed) (before : List Printed)
      → Right before
      → (Right (p ∷ before) → ⊥)
      → First Right (p ∷ before) (suc (length before))
  earlier : (p : Printed) (before : List Printed) (number : ℕ) → First Right before number → First Right (p ∷ before) number

-- the board's log of these calls keeps demand 3
abbrev pub Kept : List Printed → Type 0
Kept ps = Demand3 (notes words (board_log ps))
