-- Document 02, M-101, in its own degrees: a second drawing of the two sensors' layout, which the first must agree with (proofs/Layouts.antt
-- `two_in_degrees`), and what holds of the sectors of either layout (proofs/Laws.antt `sectors_meet`).
use Rattle.std.specs.Prelude.{ℕ, ◌+◌, ◌-◌, ◌*◌, ◌/◌, ◌%◌, Bool, ◌&&◌, List, [], ◌∷◌, map, ℤ, pos, negsuc, ◌+ℤ◌, neg_ℤ, ◌==◌, unsigned_abs}
use Rattle.hall.specs.Layout.{Layout, previous, sector_of}

-- a sector: the pattern that shows it, where it begins, where it ends, and its middle
pub record InDegrees : Type 0 where
  pub shown : ℕ
  pub from : ℤ
  pub to : ℤ
  pub middle : ℤ

-- "By document 004 the clockwise order is 1, 3, 2, 0; the sectors run from -120 to 0, 0 to 60, 60 to 180 and 180 to 240 degrees, with
-- middles -60, 30, 120 and 210."
abbrev pub small_pump : List InDegrees
small_pump =
    record { shown = 1; from = neg_ℤ (pos 120); to = pos 0; middle = neg_ℤ (pos 60) }
    ∷ record { shown = 3; from = pos 0; to = pos 60; middle = pos 30 }
    ∷ record { shown = 2; from = pos 60; to = pos 180; middle = pos 120 }
    ∷ record { shown = 0; from = pos 180; to = pos 240; middle = pos 210 }
    ∷ []

-- degrees as twelfths of a turn
abbrev pub twelfths : ℤ → ℕ
twelfths (pos n) = n % 360 / 30
twelfths (negsuc n) = (359 - n % 360) / 30

-- the width: "1 for 60 degrees, 2 for 120"
abbrev pub drawn : List InDegrees → Layout
drawn sectors =
    record {
      order = map (λ (s : InDegrees). s.shown) sectors;
      middles = map (λ (s : InDegrees). twelfths s.middle) sectors;
      boundaries = map (λ (s : InDegrees). twelfths s.to) sectors;
      widths = map (λ (s : InDegrees). unsigned_abs (s.to +ℤ neg_ℤ s.from) / 60) sectors;
    }

-- a sector runs from the boundary behind it to its own, twice its width in twelfths, with its middle half-way
abbrev pub meets : Layout → ℕ → Bool
meets l p =
    let from : ℕ = (sector_of l (previous l p)).boundary in
    ((from + 2 * (sector_of l p).width) % 12 == (sector_of l p).boundary)
    && (from + (sector_of l p).width) % 12 == (sector_of l p).middle
