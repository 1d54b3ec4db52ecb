-- A verdict with the number 0 has passed every row of its table.
use mathlib.Core.Path.{◌≡◌, refl}
use mathlib.Core.Bool.{Bool, true, ◌&&◌, not}
use mathlib.Core.List.{List, [], ◌∷◌, ◌++◌}
use Prim.Native.Nat.{ℕ}
use native.Mathlib.Omega.{arith}
use lib.Dec.{T, eqb, eqb→eq, ltb, ltb→lt}
use mir.Facts.{and_yes}
use Rattle.verdicts.specs.Table.{Row, verdict}

-- no row of the table holds
abbrev pub Passed : List Row → Type 0
Passed [] = Unit {0}
Passed (r ∷ rows) = T (not r.holds) × Passed rows

-- the rows' numbers are those of refusals
abbrev pub numbered : List Row → Bool
numbered [] = true
numbered (r ∷ rows) = ltb 0 r.number && numbered rows

pub passed : (rows : List Row) → T (numbered rows) → (verdict rows).number ≡ 0 → Passed rows
passed [] t e = tt
passed (r ∷ rows) t e =
    let (some, others) = and_yes (ltb 0 r.number) (numbered rows) t in
    let rest = passed rows others in
    grind (arith, ltb→lt, rest)

-- .. and a table of which no row holds refuses nothing
pub none_holds : (rows : List Row) → Passed rows → (verdict rows).number ≡ 0
none_holds [] p = refl
none_holds (r ∷ rows) p = let rest = none_holds rows p.1 in grind (arith, rest)

-- two tables, one behind the other: where the first refuses nothing it is the second's verdict, else the first's
pub behind_passed : (rows later : List Row) → T (numbered rows) → (verdict rows).number ≡ 0
    → verdict (rows ++ later) ≡ verdict later
behind_passed [] later t e = refl
behind_passed (r ∷ rows) later t e =
    let (some, others) = and_yes (ltb 0 r.number) (numbered rows) t in
    let rest = behind_passed rows later others in
    grind (arith, ltb→lt, rest)

pub both_passed : (rows later : List Row) → T (numbered rows) → (verdict (rows ++ later)).number ≡ 0
    → ((verdict rows).number ≡ 0) × ((verdict later).number ≡ 0)
both_passed [] later t e = (refl, e)
both_passed (r ∷ rows) later t e =
    let (some, others) = and_yes (ltb 0 r.number) (numbered rows) t in
    let rest = both_passed rows later others in
    grind (arith, ltb→lt, rest)

pub before_later : (rows later : List Row) → ((verdict rows).number ≡ 0 → ⊥) → verdict (rows ++ later) ≡ verdict rows
before_later [] later given = absurd (given refl)
before_later (r ∷ rows) later given = let rest = before_later rows later in grind (arith, rest)

-- where every row has this number, so has a refusal
abbrev pub only : ℕ → List Row → Bool
only n [] = true
only n (r ∷ rows) = eqb r.number n && only n rows

pub one_number : (n : ℕ) (rows : List Row) → T (only n rows) → ((verdict rows).number ≡ 0 → ⊥) → (verdict rows).number ≡ n
one_number n [] t given = absurd (given refl)
one_number n (r ∷ rows) t given =
    let (this, others) = and_yes (eqb r.number n) (only n rows) t in
    let rest = one_number n rows others in
    grind (arith, eqb→eq, rest)
