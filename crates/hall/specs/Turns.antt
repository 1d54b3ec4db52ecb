-- Document 02, M-101: "That a full turn is six counts either way is proved once over both layouts." What a turn is; that it is so is
-- proved in proofs/Laws.antt.
use Rattle.std.specs.Prelude.{◌≡◌, ℕ, zero, suc, ◌+◌, List, [], ◌∷◌, length, ℤ, pos, negsuc, ◌+ℤ◌, neg_ℤ, Option, Some}
use Rattle.hall.specs.Layout.{Layout, layout, next, previous, sector_of}
use Rattle.hall.specs.Fate.{fate}
use Rattle.hall.specs.Angle.{boundary_with}
use Rattle.hall.specs.Sample.{sampled, plus, minus, number}
use Rattle.hall.specs.declared.Hall.{Hall}
use Rattle.hall.specs.declared.fate.Fate.{Fate}
use Rattle.hall.specs.declared.fate.Fate.TheVariants.{Dead, First, Same, Forward, Back, Stray}
use Rattle.hall.specs.declared.layout.Sensors.{Sensors}

-- ---- a sample's count as a signed width: forward the width of the sector left, back less the width of the sector entered, else none
abbrev pub signed_width : Layout → Fate → Option ℕ → ℕ → ℤ
signed_width l Dead kept p = pos 0
signed_width l First kept p = pos 0
signed_width l Same kept p = pos 0
signed_width l Forward kept p = pos (sector_of l (number kept)).width
signed_width l Back kept p = neg_ℤ (pos (sector_of l p).width)
signed_width l Stray kept p = pos 0

-- a position moved by a signed count, modulo 2^32
abbrev pub moved : ℕ → ℤ → ℕ
moved position (pos n) = plus n position
moved position (negsuc n) = minus (suc n) position

-- samples one after the other: the Hall part that they leave, and the sum of their widths
abbrev pub fed : Sensors → Hall → List ℕ → ℤ → Hall
fed s hall [] offset = hall
fed s hall (p ∷ later) offset = fed s (sampled s hall p offset).hall later offset

abbrev pub fed_width : Sensors → Hall → List ℕ → ℤ → ℤ
fed_width s hall [] offset = pos 0
fed_width s hall (p ∷ later) offset =
    signed_width (layout s) (fate (layout s) p hall.kept) hall.kept p
    +ℤ fed_width s (sampled s hall p offset).hall later offset

-- ---- steps, one after the other

-- the two ways round
pub data Way : Type 0 where
  clockwise counterclockwise : Way

-- the pattern that a step leads to
abbrev pub onward : Layout → Way → ℕ → ℕ
onward l clockwise p = next l p
onward l counterclockwise p = previous l p

-- n steps one way from a kept pattern: the pattern that they lead to, the counts that they cross, and the Hall part after a sample for
-- each
abbrev pub reached : Layout → Way → ℕ → ℕ → ℕ
reached l way zero p = p
reached l way (suc n) p = reached l way n (onward l way p)

abbrev pub width : Layout → Way → ℕ → ℕ
width l clockwise p = (sector_of l p).width
width l counterclockwise p = (sector_of l (previous l p)).width

abbrev pub crossed : Layout → Way → ℕ → ℕ → ℕ
crossed l way zero p = 0
crossed l way (suc n) p = width l way p + crossed l way n (onward l way p)

abbrev pub walked : Sensors → Way → ℕ → Hall → ℕ → ℤ → Hall
walked s way zero hall p offset = hall
walked s way (suc n) hall p offset =
    let there : ℕ = onward (layout s) way p in walked s way n (sampled s hall there offset).hall there offset

-- counts added one way and subtracted the other
abbrev pub counted : Way → ℕ → ℕ → ℕ
counted clockwise count position = plus count position
counted counterclockwise count position = minus count position

-- the angle of a step that leads to the pattern: the boundary behind it, seen in the step's own way
abbrev pub entered : Layout → Way → ℤ → ℕ → ℤ
entered l clockwise offset p = boundary_with l offset (previous l p)
entered l counterclockwise offset p = boundary_with l offset p

-- ---- a full turn: as many steps one way as there are sectors, from a kept pattern
abbrev pub turned : Sensors → Way → Hall → ℕ → ℤ → Hall
turned s way hall p offset = walked s way (length (layout s).order) hall p offset

pub record FullTurn (s : Sensors) (way : Way) (hall : Hall) (p : ℕ) (offset : ℤ) : Type 0 where
  -- "a full turn is six counts either way"
  pub six : (turned s way hall p offset).position ≡ counted way 6 hall.position
  -- pattern and angle are where they were: the angle is that of the step onto the pattern, so it stays where such a step had led there
  pub pattern : (turned s way hall p offset).kept ≡ Some p
  pub angle : (turned s way hall p offset).angle ≡ entered (layout s) way offset p
