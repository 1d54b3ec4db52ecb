-- "A number is given exactly when its row holds and none earlier in this order does": a row that holds hides the later ones.
-- It is so of any table of refusals, and so of those of load, cycle and tick.
use mathlib.Core.Path.{◌≡◌, refl, sym, ap, ◌∙◌}
use mathlib.Core.List.{List, [], ◌∷◌}
use mathlib.Core.Logic.{◌↔◌}
use lib.Ieee.Bits.{is_true, is_false}
use native.Mathlib.Omega.{arith}
use Rattle.numbers.proofs.Tests.{decide}
use Rattle.verdicts.specs.Table.{Verdict, Row, told, verdict, accepted, First, here, later}

-- a row that is the first to hold gives the verdict
first_given : {rows : List Row} {r : Row} → First rows r → verdict rows ≡ told r
first_given (here {r} holds) = grind arith
first_given (later {r} fails first) = let rest = first_given first in grind (arith, rest)

-- a number that is given is that of the first row to hold
given_first : (rows : List Row) → ((verdict rows).number ≡ 0 → ⊥) → (r : Row) × First rows r × (verdict rows ≡ told r)
given_first [] given = absurd (given refl)
given_first (r ∷ rows) given =
    decide r.holds (λ holds. (r, here {r = r} holds, rw (is_true r.holds holds)))
    (λ fails.
    let same : verdict (r ∷ rows) ≡ verdict rows = rw (is_false r.holds fails) in
    let found = given_first rows (λ none. given (ap (λ (v : Verdict). v.number) same ∙ none)) in
    (found.0, later {r = r} fails found.1, same ∙ found.2))

pub exactly :
    (rows : List Row) (v : Verdict)
    → (v.number ≡ 0 → ⊥)
    → (verdict rows ≡ v) ↔ ((r : Row) × First rows r × (told r ≡ v))
exactly rows v refused = (
  λ e. let found = given_first rows (λ none. refused (ap (λ (w : Verdict). w.number) (sym e) ∙ none)) in
      (found.0, found.1, sym found.2 ∙ e),
  λ found. first_given found.1 ∙ found.2,
)

-- where no row holds the call is accepted
pub accepted_otherwise : (rows : List Row) → ((r : Row) → First rows r → ⊥) → verdict rows ≡ accepted
accepted_otherwise [] none = refl
accepted_otherwise (r ∷ rows) none =
    decide r.holds (λ holds. absurd (none r (here {r = r} holds)))
    (λ fails.
    let rest = accepted_otherwise rows (λ q first. none q (later {r = r} fails first)) in
    grind (arith, rest))
