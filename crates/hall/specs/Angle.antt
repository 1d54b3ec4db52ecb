-- Document 01, "Cycle": "The angle uses the twelve angles of the table below".
use Rattle.std.specs.Prelude.{ℕ, ◌-◌, ◌*◌, ◌/◌, ◌%◌, List, [], ◌∷◌, ℤ, pos, negsuc, ◌+ℤ◌, neg_ℤ}
use Rattle.std.specs.Int.{w16}
use Rattle.std.proofs.Common.{to_z}
use Rattle.hall.specs.Layout.{Layout, sector_of}

-- "k times 30 degrees is floor(65536k/12), read as signed 16 bits"; twelve times 30 degrees are a full turn
unfoldable pub twelfth : ℕ → ℤ
twelfth k = to_z w16 (65536 * (k % 12) / 12)

-- the paper's table of the same numbers, which the code has as a constant
abbrev pub table : List ℤ
table =
    pos 0 ∷ pos 5461 ∷ pos 10922 ∷ pos 16384 ∷ pos 21845 ∷ pos 27306 ∷
    neg_ℤ (pos 32768) ∷ neg_ℤ (pos 27307) ∷ neg_ℤ (pos 21846) ∷
    neg_ℤ (pos 16384) ∷ neg_ℤ (pos 10923) ∷ neg_ℤ (pos 5462) ∷ []

-- an integer modulo 2^16
abbrev pub modulo : ℤ → ℕ
modulo (pos n) = n % 65536
modulo (negsuc n) = 65535 - n % 65536

-- "HallAngleOffset is added, modulo 2^16"; the angle is "signed 16-bit"
unfoldable pub with_offset : ℤ → ℤ → ℤ
with_offset angle offset = to_z w16 (modulo (angle +ℤ offset))

-- "A first pattern gives its sector's middle, a step the boundary crossed", each with the offset
abbrev pub middle_with : Layout → ℤ → ℕ → ℤ
middle_with l offset pattern = with_offset (twelfth (sector_of l pattern).middle) offset

-- the boundary from the pattern's sector to the next one clockwise
abbrev pub boundary_with : Layout → ℤ → ℕ → ℤ
boundary_with l offset pattern = with_offset (twelfth (sector_of l pattern).boundary) offset
