-- The Hall part stays within its bounds: each count is capped where it grows, and only a pattern of the clockwise order is kept.
use mathlib.Core.Path.{◌≡◌, refl}
use mathlib.Core.Bool.{Bool, false, not, ◌||◌, cond}
use Prim.Native.Nat.{ℕ, ◌^◌, ◌≤◌, ◌<◌}
use native.Mathlib.Omega.{arith}
use lib.Dec.{T, eqb}
use lib.IntN.{ℤ, pos, negsuc}
use mir.Syntax.{w16}
use mir.Val.{SFits}
use mir.Facts.{sfits_to_z, eqb_no}
use borrow.Author.Tests.{eq-eqb}
use Rattle.std.specs.Prelude.{Option, None}
use Rattle.numbers.specs.Count.{up}
use Rattle.hall.specs.Layout.{layout, among}
use Rattle.hall.specs.Fate.{fate, beside}
use Rattle.hall.specs.Angle.{with_offset, modulo}
use Rattle.hall.specs.Sample.{powered_up, rests, after, sampled, dead_sample, stray_sample}
use Rattle.hall.specs.declared.Hall.{Hall}
use Rattle.hall.specs.declared.fate.Fate.{Fate}
use Rattle.hall.specs.declared.fate.Fate.TheVariants.{Dead, First, Same, Forward, Back, Stray}
use Rattle.hall.specs.declared.layout.Sensors.{Sensors}
use Rattle.hall.specs.declared.layout.Sensors.TheVariants.{Three, Two}
use Rattle.drive.specs.Refusals.{highest_pattern}
use Rattle.theorems_reached.specs.Reached.{Known, HallWithin}
use Rattle.numbers.proofs.Tests.{by_test}

pub hall_power_up : (s : Sensors) → HallWithin s powered_up
hall_power_up s = grind arith

-- an integer modulo 2^16 has 16 bits, so the angle that it is read as fits
modulo_small : (z : ℤ) → modulo z < 2 ^ 16
modulo_small (pos n) = omega arith
modulo_small (negsuc n) = omega arith

angle_fits : (angle offset : ℤ) → SFits w16 (with_offset angle offset)
unfolding with_offset
angle_fits angle offset = grind (arith, sfits_to_z, modulo_small)

-- any other sample
rested_within :
    (s : Sensors) (hall : Hall) (f : Fate) (kept : Option ℕ) (dead stray : ℕ) (flagged : Bool)
    → HallWithin s hall
    → Known (layout s) kept
    → dead ≤ 2
    → (dead ≡ 2 → kept ≡ None)
    → (s ≡ Two → dead ≡ 0)
    → stray ≤ 2
    → HallWithin s (rests hall f kept dead stray flagged).hall
rested_within s hall f kept dead stray flagged within known dead-small forgotten never_dead stray-small = grind arith

-- ---- which patterns are dead

-- "0 or 7"; 02, M-101, of two sensors: "The dead-pattern test does not apply."
abbrev pub dead_pattern : Sensors → ℕ → Bool
dead_pattern Three p = eqb p 0 || eqb p 7
dead_pattern Two p = false

-- of the patterns that a cycle takes, those outside the layout's order are the dead ones: tested at all eight, and at all four
pub outside_the_order : (s : Sensors) (p : ℕ) → p ≤ highest_pattern s → not (dead_pattern s p) ≡ among (layout s).order p
outside_the_order Three p small = grind arith
outside_the_order Two p small = grind arith

-- a pattern of the layout is not dead
beside_alive : (behind p ahead : ℕ) (kept : Option ℕ) → beside behind p ahead kept ≡ Dead → ⊥
unfolding beside
beside_alive behind p ahead kept = grind arith

module _ (s : Sensors) (hall : Hall) (within : HallWithin s hall) where
  -- where some pattern is dead there are not two sensors
  dead_within : (s ≡ Two → ⊥) → HallWithin s (dead_sample hall).hall
  unfolding dead_sample
  dead_within not-two = grind (arith, rested_within, eq-eqb)

  stray_within : HallWithin s (stray_sample hall).hall
  unfolding stray_sample
  stray_within = grind (arith, rested_within, eqb_no)

  -- whatever else becomes of a pattern
  good_within :
      (pattern : ℕ) (offset : ℤ) (f : Fate)
      → T (among (layout s).order pattern)
      → (f ≡ Dead → ⊥)
      → HallWithin s (after (layout s) hall pattern offset f).hall
  good_within pattern offset Dead stands alive = absurd (alive refl)
  good_within pattern offset First stands alive = grind (arith, angle_fits)
  good_within pattern offset Same stands alive = grind arith
  good_within pattern offset Forward stands alive = grind (arith, angle_fits)
  good_within pattern offset Back stands alive = grind (arith, angle_fits)
  good_within pattern offset Stray stands alive = stray_within

  -- a pattern that a cycle takes
  pub sampled_within :
      (pattern : ℕ) (offset : ℤ)
      → pattern ≤ highest_pattern s
      → HallWithin s (sampled s hall pattern offset).hall
  unfolding sampled fate
  sampled_within pattern offset small =
      by_test (λ (f : Fate). HallWithin s (after (layout s) hall pattern offset f).hall) (among (layout s).order pattern)
      (λ stands. good_within pattern offset _ stands (beside_alive _ pattern _ hall.kept))
      (λ outside. dead_within (grind (arith, outside_the_order)))

-- a sample that leaves the dead streak at 2 sets flag 15
pub dead_flagged :
    (s : Sensors) (hall : Hall) (pattern : ℕ) (offset : ℤ)
    → (sampled s hall pattern offset).hall.dead_streak ≡ 2
    → T (sampled s hall pattern offset).flagged
unfolding sampled dead_sample stray_sample
dead_flagged s hall pattern offset = grind (arith, eq-eqb)

-- "0 or 7: dead streak up by one, at most 2"; any other leaves it at zero
pub dead_by_pattern :
    (s : Sensors) (hall : Hall) (p : ℕ) (offset : ℤ)
    → p ≤ highest_pattern s
    → (sampled s hall p offset).hall.dead_streak ≡ cond (dead_pattern s p) (up 2 hall.dead_streak) 0
unfolding sampled fate beside dead_sample stray_sample
dead_by_pattern s hall p offset small = grind (arith, outside_the_order)
