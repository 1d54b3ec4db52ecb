-- Laws of the angle, over both layouts: what it depends on, the offset's sign, and that a full turn leaves it.
use Rattle.std.proofs.Common.{◌≡◌, ℕ, ◌^◌, ◌<◌, Bool, true, false, T, ℤ, Some}
use Rattle.std.proofs.Common.{pos, arith, to_z-of_z, w16, SFits, of_z}
use Rattle.std.proofs.lemmas.Int.{ints}
use mir.Facts.{sfits_to_z}
use Rattle.hall.specs.Layout.{layout, among}
use Rattle.hall.specs.Fate.{fate}
use Rattle.hall.specs.Angle.{twelfth, with_offset, modulo}
use Rattle.hall.specs.Sample.{sampled}
use Rattle.hall.specs.Turns.{Way, onward, turned}
use Rattle.hall.specs.declared.Hall.{Hall}
use Rattle.hall.specs.declared.fate.Fate.{Fate}
use Rattle.hall.specs.declared.fate.Fate.TheVariants.{Dead, First, Same, Forward, Back, Stray}
use Rattle.hall.specs.declared.layout.Sensors.{Sensors}
use Rattle.hall.proofs.Laws.{round, counted_small, step_position, step_kept, step_angle, full_turn}

-- The fates that give an angle.
abbrev pub gives_angle : Fate → Bool
gives_angle Dead = false
gives_angle First = true
gives_angle Same = false
gives_angle Forward = true
gives_angle Back = true
gives_angle Stray = false

-- The angle of a first pattern or a step depends on the pattern, the kept one and the offset, and on nothing else.
pub angle_fresh :
    (s : Sensors) (hall hall' : Hall) (p : ℕ) (offset : ℤ)
    → hall.kept ≡ hall'.kept
    → T (gives_angle (fate (layout s) p hall.kept))
    → (sampled s hall p offset).hall.angle ≡ (sampled s hall' p offset).hall.angle
unfolding sampled
angle_fresh s hall hall' p offset e gives = grind arith

-- a signed 16-bit number modulo 2^16 is its 16 bits
modulo_bits : (z : ℤ) → SFits w16 z → modulo z ≡ of_z w16 z
modulo_bits z fits = grind (arith, ints)

-- an offset of 0 leaves the angles of the table as they are
unturned : (k : ℕ) → with_offset (twelfth k) (pos 0) ≡ twelfth k
unfolding with_offset twelfth
unturned k = grind (arith, sfits_to_z, modulo_bits, to_z-of_z)

-- The offset's sign: the angle with offset o is the angle with offset 0 plus o, modulo 2^16.
pub offset_added :
    (s : Sensors) (hall : Hall) (p : ℕ) (offset : ℤ)
    → T (gives_angle (fate (layout s) p hall.kept))
    → (sampled s hall p offset).hall.angle ≡ with_offset (sampled s hall p (pos 0)).hall.angle offset
unfolding sampled
offset_added s hall p offset gives = grind (arith, unturned)

-- A full turn after a step the same way leaves the angle where the step had brought it.
pub angle_stays :
    (s : Sensors) (way : Way) (before : Hall) (p : ℕ) (offset : ℤ)
    → before.position < 2 ^ 32
    → T (among (layout s).order p)
    → before.kept ≡ Some p
    → (let there : ℕ = onward (layout s) way p in
    let hall : Hall = (sampled s before there offset).hall in
    (turned s way hall there offset).angle ≡ hall.angle)
angle_stays s way before p offset small stands kept =
    grind (arith, step_position, full_turn, counted_small, round, step_kept, step_angle)
