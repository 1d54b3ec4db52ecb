-- What holds of each pattern of a layout, computed; that a layout has nothing to say of any other; and that the layout of two sensors is
-- the one that 02 draws in degrees.
use Rattle.std.proofs.Common.{Option, Some, None, unwrap_or}
use Rattle.std.proofs.Common.{◌≡◌, ℕ, true, false, cond, T, eqb, List, [], ◌∷◌, ◌++◌, refl, arith}
use Rattle.hall.specs.Layout.{Layout, two, among, under, rotated, sector_of, place_of}
use Rattle.hall.specs.Degrees.{small_pump, drawn}
use Rattle.hall.specs.Fate.{fate, beside}
use Rattle.hall.specs.declared.fate.Fate.{Fate}
use Rattle.hall.specs.declared.fate.Fate.TheVariants.{Dead}
use Rattle.hall.specs.declared.layout.Sector.{Sector}

-- what holds of each pattern of an order holds of a pattern that stands in it
module _ (P : ℕ → Type 0) where
  abbrev pub All : List ℕ → Type 0
  All [] = Unit {0}
  All (x ∷ rest) = P x × All rest

  pub one_of : (order : List ℕ) → All order → (p : ℕ) → T (among order p) → P p
  one_of [] holds p stands = absurd stands
  one_of (x ∷ rest) holds p stands = grind (arith, one_of rest)

pub two_in_degrees : drawn small_pump ≡ two
two_in_degrees = refl

-- ---- a pattern outside a layout

module _ (p : ℕ) where
  under_outside : (order row : List ℕ) → among order p ≡ false → under order row p ≡ 0
  under_outside [] row out = refl
  under_outside (x ∷ order) [] out = refl
  under_outside (x ∷ order) (k ∷ row) out = grind (arith, under_outside order row)

  appended : (rest : List ℕ) (x : ℕ) → cond (eqb p x) true (among rest p) ≡ among (rest ++ (x ∷ [])) p
  appended [] x = refl
  appended (y ∷ rest) x = grind (arith, appended rest x)

  rotated_outside : (order : List ℕ) → among order p ≡ false → among (rotated order) p ≡ false
  rotated_outside [] out = refl
  rotated_outside (x ∷ rest) out = rw (← appended rest x) out

-- where a pattern stands, and what its sector and its fate are by that
abbrev pub nowhere : Sector
nowhere = record { behind = 0; ahead = 0; middle = 0; boundary = 0; width = 0 }

pub sector_by_place : (l : Layout) (p : ℕ) → sector_of l p ≡ unwrap_or (place_of l p) nowhere
unfolding place_of
sector_by_place l p = grind (arith, under_outside, rotated_outside)

abbrev pub against : Option ℕ → ℕ → Option Sector → Fate
against kept p None = Dead
against kept p (Some sector) = beside sector.behind p sector.ahead kept

pub fate_by_place : (l : Layout) (p : ℕ) (kept : Option ℕ) → fate l p kept ≡ against kept p (place_of l p)
unfolding place_of fate
fate_by_place l p kept = grind arith
