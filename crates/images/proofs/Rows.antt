-- The rows of the blocks, taken from the last to the first.
use Prim.Native.Nat.{ℕ, zero, suc, ◌+◌, ◌≤◌, ◌<◌}
use mathlib.Core.Bool.{Bool, true, false}
use mathlib.Core.Path.{◌≡◌, refl, sym, ap, ◌∙◌}
use native.Mathlib.Numerals.{add-one}
use native.Mathlib.Omega.{arith}
use mathlib.Core.List.{List, [], ◌∷◌}
use lib.Dec.{ltb}
use lib.ListN.{length, get_or, drop, drop_of_length-le}
use lib.Seq.{drop-cons}
use borrow.Author.Tests.{ltb-false}
use Rattle.std.specs.Prelude.{cond, Result, Ok, Err}
use Rattle.verdicts.specs.declared.Refusal.{Refusal}
use Rattle.verdicts.specs.declared.Refusal.TheVariants.{Setting, Line}
use Rattle.verdicts.specs.Table.{Verdict, Row, row, first, verdict, verdict_of}
use Rattle.images.proofs.Told.{passed}
use Rattle.images.specs.Writes.{Block, no_block, other_length, length_rows, image_in, write_rows}

-- what the rows of the blocks from the k-th on say, and the later ones
unfoldable pub from : List Block → List Row → ℕ → Verdict
from blocks later k = verdict (length_rows (k + 1) (drop k blocks) later)

pub one_more :
    (blocks : List Block) (later : List Row) (k : ℕ)
    → k < length blocks
    → from blocks later k ≡ first (row 2 (k + 1) (other_length (get_or blocks k no_block))) (from blocks later (suc k))
unfolding from length_rows
one_more blocks later k below =
    let next : k + 1 + 1 ≡ suc k + 1 = omega arith in
    rw (drop-cons blocks k no_block below, next)

pub none_left : (blocks : List Block) (later : List Row) (k : ℕ) → length blocks ≤ k → from blocks later k ≡ verdict later
unfolding from length_rows
none_left blocks later k past = rw (drop_of_length-le blocks past)

-- a turn of the code's loop: it stops at a block whose row holds, and else the rows behind it say the rest
module _ (blocks : List Block) (later : List Row) (k : ℕ) (inside : k < length blocks) where
  abbrev turn : Result (Unit {0}) Refusal
  turn = cond (other_length (get_or blocks k no_block)) (Err (Setting (k + 1))) (Ok tt)

  pub stopped : (refusal : Refusal) → Err refusal ≡ turn → verdict_of (Err refusal) ≡ from blocks later k
  stopped refusal is = by (other_length (get_or blocks k no_block)) refl
    where
      by : (t : Bool) → other_length (get_or blocks k no_block) ≡ t → verdict_of (Err refusal) ≡ from blocks later k
      by true bad = ap verdict_of (rw bad at is) ∙ sym (rw bad at (one_more blocks later k inside))
      by false good = let never : ◌≡◌ {A = Result (Unit {0}) Refusal} (Err refusal) (Ok tt) = rw good at is in cc

  pub gone_on : (u : Unit {0}) → Ok u ≡ turn → from blocks later (k + 1) ≡ from blocks later k
  gone_on u is = rw (add-one, one_more blocks later k inside, passed _ _ is)

-- and behind them all the row of the lent bytes
pub later_row : (short : Bool) → verdict_of (cond short (Err (Line 0)) (Ok tt)) ≡ verdict (row 5 0 short ∷ [])
later_row true = refl
later_row false = refl

pub ruleset turns = (stopped, gone_on, none_left, later_row)

-- a row of number 2 before others: where nothing is refused, it does not hold
one_passed : (holds : Bool) (place : ℕ) (rest : Verdict) → (first (row 2 place holds) rest).number ≡ 0
    → (holds ≡ false) × (rest.number ≡ 0)
one_passed true place rest none = absurd (omega arith)
one_passed false place rest none = (refl, none)

-- each of these blocks has a length that is allowed
abbrev pub EachAllowed : List Block → Type 0
EachAllowed blocks = (k : ℕ) → k < length blocks → other_length (get_or blocks k no_block) ≡ false

one_first : (b : Block) (blocks : List Block) → other_length b ≡ false → EachAllowed blocks → EachAllowed (b ∷ blocks)
one_first b blocks first others zero inside = first
one_first b blocks first others (suc k) inside = others k (omega arith)

-- where no row refuses the blocks, each is of an allowed length, and the later rows refuse them neither
pub all_passed :
    (place : ℕ) (blocks : List Block) (later : List Row)
    → (verdict (length_rows (place + 1) blocks later)).number ≡ 0
    → EachAllowed blocks × ((verdict later).number ≡ 0)
unfolding length_rows
all_passed place [] later none = (λ k inside. absurd (omega arith), none)
all_passed place (b ∷ blocks) later none =
    let now = one_passed (other_length b) (place + 1) (verdict (length_rows (place + 1 + 1) blocks later)) none in
    let rest = all_passed (place + 1) blocks later now.1 in
    (one_first b blocks now.0 rest.0, rest.1)

-- and the other way round
pub none_refused :
    (place : ℕ) (blocks : List Block) (later : List Row)
    → EachAllowed blocks
    → (verdict later).number ≡ 0
    → (verdict (length_rows place blocks later)).number ≡ 0
unfolding length_rows
none_refused place [] later each none = none
none_refused place (b ∷ blocks) later each none =
    let first : other_length b ≡ false = each 0 (omega arith) in
    rw first (none_refused (place + 1) blocks later (λ k inside. each (suc k) (omega arith)) none)

-- an image that is written fits: the row of the lent bytes does not hold
pub image_fits : (blocks : List Block) (lent : ℕ) → (verdict (write_rows blocks lent)).number ≡ 0 → length (image_in blocks) ≤ lent
unfolding write_rows
image_fits blocks lent none =
    by (ltb lent (length (image_in blocks))) refl (all_passed 0 blocks (row 5 0 (ltb lent (length (image_in blocks))) ∷ []) none).1
  where
    by : (t : Bool) → ltb lent (length (image_in blocks)) ≡ t → (verdict (row 5 0 t ∷ [])).number ≡ 0
        → length (image_in blocks) ≤ lent
    by true e z = absurd (omega arith)
    by false e z = ltb-false lent (length (image_in blocks)) e
