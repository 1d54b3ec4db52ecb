-- Document 01, "Cycle": "Each pattern from 0 to 7 falls in one group against the kept pattern". By M-101 of document 02 we read it with the
-- layout's patterns in the place of 1..6 (docs/DECISIONS.md, 12): with two sensors every pattern is one of them, so "The dead-pattern test
-- does not apply."
use Rattle.std.specs.Prelude.{ℕ, cond, ◌==◌, Option, Some, None}
use Rattle.hall.specs.Layout.{Layout, among, next, previous}
use Rattle.hall.specs.declared.fate.Fate.{Fate}
use Rattle.hall.specs.declared.fate.Fate.TheVariants.{Dead, First, Same, Forward, Back, Stray}

-- a pattern of the layout and the two beside it: "with none kept"; "Same as kept"; it is the next of the kept one, or the previous;
-- "Another"
unfoldable pub beside : ℕ → ℕ → ℕ → Option ℕ → Fate
beside behind p ahead None = First
beside behind p ahead (Some k) = cond (k == p) Same (cond (k == behind) Forward (cond (k == ahead) Back Stray))

-- "Each pattern from 0 to 7 falls in one group": what is not in the order, with three sensors "0 or 7", is dead
unfoldable pub fate : Layout → ℕ → Option ℕ → Fate
fate l p kept = cond (among l.order p) (beside (previous l p) p (next l p) kept) Dead
