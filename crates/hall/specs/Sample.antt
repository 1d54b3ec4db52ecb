-- Document 01, "Cycle": what each group of a sample does to the Hall part of the state.
use Rattle.std.specs.Prelude.{ℕ, ◌+◌, ◌-◌, ◌%◌, ◌^◌, Bool, false, cond, ℤ, pos, nat_eq, Option, Some, None, unwrap_or}
use Rattle.numbers.specs.Count.{up}
use Rattle.hall.specs.Layout.{Layout, layout, sector_of}
use Rattle.hall.specs.Fate.{fate}
use Rattle.hall.specs.Angle.{middle_with, boundary_with}
use Rattle.hall.specs.declared.Hall.{Hall}
use Rattle.hall.specs.declared.Sampled.{Sampled}
use Rattle.hall.specs.declared.fate.Fate.{Fate}
use Rattle.hall.specs.declared.fate.Fate.TheVariants.{Dead, First, Same, Forward, Back, Stray}
use Rattle.hall.specs.declared.layout.Sensors.{Sensors}

-- "Power-up is IDLE, all zero." "Before any pattern [the angle] is 0, without offset."
abbrev pub powered_up : Hall
powered_up = record { kept = None; position = 0; angle = pos 0; dead_streak = 0; stray_streak = 0; still_count = 0 }

-- "position plus or minus" a count; "The position counter runs modulo 2^32."
abbrev pub plus : ℕ → ℕ → ℕ
plus count position = (position + count) % 2 ^ 32

abbrev pub minus : ℕ → ℕ → ℕ
minus count position = (position + (2 ^ 32 - count % 2 ^ 32)) % 2 ^ 32

-- a newly kept pattern: "both streaks zero"; "The still count is zero after a newly kept pattern"
abbrev pub keeps : Fate → ℕ → ℕ → ℤ → Sampled
keeps fate pattern position angle =
    record {
      hall =
          record {
            kept = Some pattern;
            position = position;
            angle = angle;
            dead_streak = 0;
            stray_streak = 0;
            still_count = 0;
          };
      fate = fate;
      flagged = false;
    }

-- any other sample: the still count "otherwise [..] grows to at most 4096"; "Otherwise the angle stays."
abbrev pub rests : Hall → Fate → Option ℕ → ℕ → ℕ → Bool → Sampled
rests hall fate kept dead stray flagged =
    record {
      hall =
          record {
            kept = kept;
            position = hall.position;
            angle = hall.angle;
            dead_streak = dead;
            stray_streak = stray;
            still_count = up 4096 hall.still_count;
          };
      fate = fate;
      flagged = flagged;
    }

-- the number of the kept pattern, asked for where one is kept
abbrev pub number : Option ℕ → ℕ
number kept = unwrap_or kept 0

-- "0 or 7: dead streak up by one, at most 2; stray streak zero. At 2, flag 15 is set and the kept pattern is forgotten."
unfoldable pub dead_sample : Hall → Sampled
dead_sample hall =
    let dead : ℕ = up 2 hall.dead_streak in
    let at2 : Bool = nat_eq dead 2 in
    rests hall Dead (cond at2 None hall.kept) dead 0 at2

-- "Another of 1..6: stray streak up, dead streak zero. At 3, flag 15 is set, the pattern is forgotten and the stray streak returns to
-- zero."; with two sensors another of the layout's patterns
unfoldable pub stray_sample : Hall → Sampled
stray_sample hall =
    let stray : ℕ = up 3 hall.stray_streak in
    let at3 : Bool = nat_eq stray 3 in
    rests hall Stray (cond at3 None hall.kept) 0 (cond at3 0 stray) at3

-- the five groups, two of them steps
abbrev pub after : Layout → Hall → ℕ → ℤ → Fate → Sampled
after l hall pattern offset Dead = dead_sample hall
-- "Any of 1..6 with none kept: kept; position unchanged; both streaks zero."
after l hall pattern offset First = keeps First pattern hall.position (middle_with l offset pattern)
-- "Same as kept: both streaks zero."
after l hall pattern offset Same = rests hall Same hall.kept 0 0 false
-- "Next or previous: kept; position plus or minus 1; both streaks zero.", amended by 02, M-101: "A clockwise step adds the width of the
-- sector left, a counter-clockwise one subtracts the width of the sector entered"
after l hall pattern offset Forward =
    let left : ℕ = number hall.kept in
    keeps Forward pattern (plus (sector_of l left).width hall.position) (boundary_with l offset left)
after l hall pattern offset Back =
    keeps Back pattern (minus (sector_of l pattern).width hall.position) (boundary_with l offset pattern)
after l hall pattern offset Stray = stray_sample hall

-- one sample: the next Hall part, the sample's fate, and whether flag 15 is set
unfoldable pub sampled : Sensors → Hall → ℕ → ℤ → Sampled
sampled sensors hall pattern offset =
    after (layout sensors) hall pattern offset (fate (layout sensors) pattern hall.kept)
