-- Document 01, "Cycle", and document 02, M-101, "Motors with two Hall sensors": a layout is data, and there are two of them. Fate, sector,
-- counts and angle are defined over any layout (Fate.antt, Angle.antt, Sample.antt).
use Rattle.std.specs.Prelude.{ℕ, Bool, true, false, cond, List, [], ◌∷◌, ◌++◌, ◌==◌, Option, Some, None}
use Rattle.hall.specs.declared.layout.Sensors.{Sensors}
use Rattle.hall.specs.declared.layout.Sensors.TheVariants.{Three, Two}
use Rattle.hall.specs.declared.layout.Sector.{Sector}

-- each list but the first is written in the order of the first
pub record Layout : Type 0 where
  -- the patterns in clockwise order
  pub order : List ℕ
  -- each sector's middle, and its boundary to the next sector clockwise, in twelfths of a turn
  pub middles : List ℕ
  pub boundaries : List ℕ
  -- each sector's width in counts of the position
  pub widths : List ℕ

abbrev pub three : Layout
three =
    record {
      -- "Clockwise order is 1, 3, 2, 6, 4, 5, then 1."
      order = 1 ∷ 3 ∷ 2 ∷ 6 ∷ 4 ∷ 5 ∷ [];
      -- "Middles for 1, 3, 2, 6, 4, 5: k = 11, 1, 3, 5, 7, 9."
      middles = 11 ∷ 1 ∷ 3 ∷ 5 ∷ 7 ∷ 9 ∷ [];
      -- "Boundaries 1/3, 3/2, 2/6, 6/4, 4/5, 5/1: k = 0, 2, 4, 6, 8, 10."
      boundaries = 0 ∷ 2 ∷ 4 ∷ 6 ∷ 8 ∷ 10 ∷ [];
      -- "position plus or minus 1"
      widths = 1 ∷ 1 ∷ 1 ∷ 1 ∷ 1 ∷ 1 ∷ [];
    }

abbrev pub two : Layout
two =
    record {
      -- 02: "the clockwise order is 1, 3, 2, 0"
      order = 1 ∷ 3 ∷ 2 ∷ 0 ∷ [];
      -- 02: "with middles -60, 30, 120 and 210" degrees
      middles = 10 ∷ 1 ∷ 4 ∷ 7 ∷ [];
      -- 02: "the sectors run from -120 to 0, 0 to 60, 60 to 180 and 180 to 240 degrees"
      boundaries = 0 ∷ 2 ∷ 6 ∷ 8 ∷ [];
      -- 02: "1 for 60 degrees, 2 for 120"
      widths = 2 ∷ 1 ∷ 2 ∷ 1 ∷ [];
    }

-- 02: "Setting 25 chooses 2 or 3 sensors"
abbrev pub layout : Sensors → Layout
layout Three = three
layout Two = two

-- ---- what a layout says of a pattern

-- the pattern stands in the order
abbrev pub among : List ℕ → ℕ → Bool
among [] p = false
among (x ∷ rest) p = cond (p == x) true (among rest p)

-- what a list that is written in the order of the patterns has for one of them (0 where it is none of them)
abbrev pub under : List ℕ → List ℕ → ℕ → ℕ
under [] row p = 0
under (x ∷ order) [] p = 0
under (x ∷ order) (k ∷ row) p = cond (p == x) k (under order row p)

-- the order begun one pattern later: it goes round, "then 1"
abbrev pub rotated : List ℕ → List ℕ
rotated [] = []
rotated (x ∷ rest) = rest ++ (x ∷ [])

-- "Next or previous" of a pattern
abbrev pub next : Layout → ℕ → ℕ
next l p = under l.order (rotated l.order) p

abbrev pub previous : Layout → ℕ → ℕ
previous l p = under (rotated l.order) l.order p

-- a pattern's sector: the two patterns beside it, and its middle, boundary and width
abbrev pub sector_of : Layout → ℕ → Sector
sector_of l p =
    record {
      behind = previous l p;
      ahead = next l p;
      middle = under l.order l.middles p;
      boundary = under l.order l.boundaries p;
      width = under l.order l.widths p;
    }

-- where a pattern stands in the layout
unfoldable pub place_of : Layout → ℕ → Option Sector
place_of l p = cond (among l.order p) (Some (sector_of l p)) None
