-- Laws of the steps, over both layouts and both ways round: a step and the step back, n steps, a full turn, and the count of a sample as a
-- signed width. What they rest on is one test of a layout, computed at each of its patterns.
use Rattle.std.proofs.Common.{◌≡◌, ℕ, zero, suc, ◌+◌, ◌^◌, ◌<◌, not, Some}
use Rattle.std.proofs.Common.{T, eqb, length, ℤ, refl, arith, eq-eqb}
use lib.Ieee.Bits.{is_true, is_false}
use Rattle.hall.specs.Layout.{Layout, three, layout, among}
use Rattle.hall.specs.Degrees.{meets}
use Rattle.hall.specs.Fate.{fate, beside}
use Rattle.hall.specs.Sample.{sampled, after}
use Rattle.hall.specs.Turns.{Way, clockwise, counterclockwise, onward, reached, width, crossed, walked, counted, entered, FullTurn}
use Rattle.hall.specs.declared.Hall.{Hall}
use Rattle.hall.specs.declared.fate.Fate.{Fate}
use Rattle.hall.specs.declared.fate.Fate.TheVariants.{Forward, Back}
use Rattle.hall.specs.declared.layout.Sensors.{Sensors}
use Rattle.hall.specs.declared.layout.Sensors.TheVariants.{Three, Two}

-- ---- the test

abbrev pub opposite : Way → Way
opposite clockwise = counterclockwise
opposite counterclockwise = clockwise

-- the fate of a step
abbrev pub stepping : Way → Fate
stepping clockwise = Forward
stepping counterclockwise = Back

-- A step leads to another pattern of the order, from which the step back leads here and the next step on does not; and as many steps as
-- there are sectors lead here, over six counts.
pub record Round (l : Layout) (way : Way) (p : ℕ) : Type 0 where
  pub stands : T (among l.order (onward l way p))
  pub back_here : onward l (opposite way) (onward l way p) ≡ p
  pub elsewhere : T (not (eqb p (onward l way p)))
  pub farther : T (not (eqb p (onward l way (onward l way p))))
  pub all_round : reached l way (length l.order) p ≡ p
  pub six : crossed l way (length l.order) p ≡ 6

pub round : (s : Sensors) (way : Way) (p : ℕ) → T (among (layout s).order p) → Round (layout s) way p
round Three clockwise p stands = grind arith
round Three counterclockwise p stands = grind arith
round Two way p stands = grind arith

-- "the sectors run from .. to .., with middles ..": so they do in either layout
pub sectors_meet : (s : Sensors) (p : ℕ) → T (among (layout s).order p) → T (meets (layout s) p)
sectors_meet Three = grind arith
sectors_meet Two = grind arith

-- ---- counts

pub uncounted : (way : Way) (count position : ℕ) → position < 2 ^ 32
    → counted (opposite way) count (counted way count position) ≡ position
uncounted way count position small = grind arith

pub counted_on : (way : Way) (a b position : ℕ) → counted way b (counted way a position) ≡ counted way (a + b) position
counted_on way a b position = grind arith

none_counted : (way : Way) (position : ℕ) → position < 2 ^ 32 → position ≡ counted way 0 position
none_counted way position small = grind arith

pub counted_small : (way : Way) (count position : ℕ) → counted way count position < 2 ^ 32
counted_small way count position = grind arith

-- ---- one step

-- a sample of a known fate
pub by_fate :
    (s : Sensors) (hall : Hall) (p : ℕ) (offset : ℤ) {f : Fate}
    → fate (layout s) p hall.kept ≡ f
    → sampled s hall p offset ≡ after (layout s) hall p offset f
unfolding sampled
by_fate s hall p offset e = grind arith

-- the pattern onward from the kept one is a step
step_fate : (l : Layout) (way : Way) (p : ℕ) → Round l way p → fate l (onward l way p) (Some p) ≡ stepping way
unfolding fate beside
step_fate l way p r = grind (arith, is_true, is_false, eq-eqb)

module _ (s : Sensors) (way : Way) (hall : Hall) (p : ℕ) (offset : ℤ) where
  abbrev l : Layout
  l = layout s

  abbrev there : ℕ
  there = onward l way p

  module _ (stands : T (among l.order p)) (kept : hall.kept ≡ Some p) where
    stepped : sampled s hall there offset ≡ after l hall there offset (stepping way)
    stepped = grind (arith, by_fate, step_fate, round)

    -- A step's count is the width of the sector that it leaves clockwise, or enters going back.
    pub step_position : (sampled s hall there offset).hall.position ≡ counted way (width l way p) hall.position
    step_position = grind (arith, stepped)

    pub step_kept : (sampled s hall there offset).hall.kept ≡ Some there
    step_kept = grind (arith, stepped)

    pub step_angle : (sampled s hall there offset).hall.angle ≡ entered l way offset there
    step_angle = grind (arith, stepped, round)

-- one boundary counts the same either way
same_width : (l : Layout) (way : Way) (p : ℕ) → Round l way p → width l (opposite way) (onward l way p) ≡ width l way p
same_width l way p r = grind (arith, r.back_here)

-- A step and the step back leave the position as it was, whichever way it was.
pub there_and_back :
    (s : Sensors) (way : Way) (hall : Hall) (p : ℕ) (offset offset' : ℤ)
    → hall.position < 2 ^ 32
    → T (among (layout s).order p)
    → hall.kept ≡ Some p
    → (sampled s (sampled s hall (onward (layout s) way p) offset).hall p offset').hall.position ≡ hall.position
there_and_back s way hall p offset offset' small stands kept =
    grind (arith, round s way p stands, step_position, step_kept, same_width, uncounted)

-- ---- n steps

module _ (s : Sensors) (way : Way) (offset : ℤ) where
  -- n steps are the counts that they cross.
  pub n_steps :
      (n : ℕ) (hall : Hall) (p : ℕ)
      → hall.position < 2 ^ 32
      → T (among (layout s).order p)
      → hall.kept ≡ Some p
      → (walked s way n hall p offset).position ≡ counted way (crossed (layout s) way n p) hall.position
  n_steps zero hall p small stands kept = grind (arith, none_counted)
  n_steps (suc n) hall p small stands kept =
      grind (arith, n_steps n, step_position s way hall p offset, step_kept s way hall p offset, round s way p, counted_small, counted_on)

  pub n_kept :
      (n : ℕ) (hall : Hall) (p : ℕ)
      → T (among (layout s).order p)
      → hall.kept ≡ Some p
      → (walked s way n hall p offset).kept ≡ Some (reached (layout s) way n p)
  n_kept zero hall p stands kept = kept
  n_kept (suc n) hall p stands kept = grind (arith, n_kept n, round s way p, step_kept)

  -- the last step gives the angle, whatever it was before
  pub n_angle :
      (n : ℕ) (hall : Hall) (p : ℕ)
      → T (among (layout s).order p)
      → hall.kept ≡ Some p
      → (walked s way (suc n) hall p offset).angle ≡ entered (layout s) way offset (reached (layout s) way (suc n) p)
  n_angle zero hall p stands kept = step_angle s way hall p offset stands kept
  n_angle (suc n) hall p stands kept = grind (arith, n_angle n, round s way p, step_kept)

-- with three sensors n steps are n counts
pub n_counts : (way : Way) (n p : ℕ) → T (among three.order p) → crossed three way n p ≡ n
n_counts way zero p stands = refl
n_counts clockwise (suc n) p stands = grind (arith, n_counts clockwise n)
n_counts counterclockwise (suc n) p stands = grind (arith, n_counts counterclockwise n)

-- "That a full turn is six counts either way is proved once over both layouts."
pub full_turn :
    (s : Sensors) (way : Way) (hall : Hall) (p : ℕ) (offset : ℤ)
    → hall.position < 2 ^ 32
    → T (among (layout s).order p)
    → hall.kept ≡ Some p
    → FullTurn s way hall p offset
full_turn Three way hall p offset small stands kept =
    grind (arith, round Three way p, n_steps Three way offset 6, n_kept Three way offset 6, n_angle Three way offset 5)
full_turn Two way hall p offset small stands kept =
    grind (arith, round Two way p, n_steps Two way offset 4, n_kept Two way offset 4, n_angle Two way offset 3)
