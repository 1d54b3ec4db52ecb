-- Document 01, "Bench cases (P: to be proved)": P1 to P10 as one table of tests. Each but P9 is a run of calls from power-up, so every
-- state in it is reached, and is judged by the answers; P9 is the definition of the target in mode 1.
use Rattle.std.specs.Prelude.{ℕ, Bool, false, ◌&&◌, List, [], ◌∷◌, ◌++◌, map, eqb, ℤ, pos, negsuc}
use Rattle.motor.specs.Reference.{target1}
use Rattle.hall.specs.Sample.{number}
use Rattle.drive.specs.AnyCall.{loads}
use Rattle.drive.specs.declared.answer.Answer.{Answer}
use Rattle.theorems_demands.specs.NamedCalls.{settings_with, loaded, shows, tick_with, high_at, ready, started, times, after, answered}

-- two integers are the same
abbrev pub same : ℤ → ℤ → Bool
same (pos a) (pos b) = eqb a b
same (pos a) (negsuc b) = false
same (negsuc a) (pos b) = false
same (negsuc a) (negsuc b) = eqb a b

-- the answer to the last of these patterns, after a load
abbrev pub fed : List ℕ → Answer
fed patterns = answered (loaded ∷ map shows patterns)

-- the answer to a tick in STOP, with gate kill, VdcRaw and VdcFilt as told
abbrev pub stopped : ℕ → ℕ → ℕ → Answer
stopped kill raw filtered = answered (loaded ∷ tick_with kill 0 0 0 raw filtered 0 0 ∷ [])

-- the answer to the n-th tick of a start, the start being the first
abbrev pub started_at : ℕ → Answer
started_at n = answered (ready loaded ++ started n)

-- the reference after n ticks in MOTORRUN, entered at speed 600, with the target 700
abbrev pub ramped : ℕ → ℤ
ramped n = (answered (ready loaded ++ started 4 ++ (high_at 600 ∷ times n (high_at 600)))).reference

-- a case of the bench: its number, and its test
pub record Case : Type 0 where
  pub case_number : ℕ
  pub holds : Bool

abbrev pub case : ℕ → Bool → Case
case n holds = record { case_number = n; holds = holds }

unfoldable pub bench : List Case
bench =
    -- "P1 patterns 1, 3, 2, 3: position 1, angle 10922."
    case 1 (eqb (fed (1 ∷ 3 ∷ 2 ∷ 3 ∷ [])).position 1 && same (fed (1 ∷ 3 ∷ 2 ∷ 3 ∷ [])).angle (pos 10922))
    -- "P2 from 0, patterns 3, 1: FFFFFFFF."
    ∷ case 2 (eqb (fed (3 ∷ [])).position 0 && eqb (fed (3 ∷ 1 ∷ [])).position 0xFFFFFFFF)
    -- "P3 patterns 1, 6, 6, 6: flag 15; a fourth 6 is kept, angle 27306."
    ∷ case 3
    (eqb (fed (1 ∷ 6 ∷ 6 ∷ [])).live 0 && eqb (fed (1 ∷ 6 ∷ 6 ∷ 6 ∷ [])).live 0x8000
    && eqb (number (after (loaded ∷ map shows (1 ∷ 6 ∷ 6 ∷ 6 ∷ 6 ∷ []))).hall.kept) 6
    && same (fed (1 ∷ 6 ∷ 6 ∷ 6 ∷ 6 ∷ [])).angle (pos 27306))
    -- "P4 1, 0, 1, 0: no flag; 1, 0, 0: flag."
    ∷ case 4 (eqb (fed (1 ∷ 0 ∷ 1 ∷ 0 ∷ [])).live 0 && eqb (fed (1 ∷ 0 ∷ 0 ∷ [])).live 0x8000)
    -- "P5 boundary -32768 with offset -1: 32767."
    ∷ case 5 (same (answered (loads (settings_with 0 65535) ∷ shows 6 ∷ shows 4 ∷ [])).angle (pos 32767))
    -- "P6 bits 0 and 1 live: gate 0; bit 1 alone: 3."
    ∷ case 6
    (eqb (stopped 1 3501 2623).live 0x0003 && eqb (stopped 1 3501 2623).gate 0
    && eqb (stopped 0 3501 2623).live 0x0002 && eqb (stopped 0 3501 2623).gate 3)
    -- "P7 VdcFilt equal to VdcOvLevel: no flag."
    ∷ case 7 (eqb (stopped 0 2623 3000).live 0 && eqb (stopped 0 2623 3001).live 0x0004)
    -- "P8 reference 600, target 700, rate 64: 601 after 32 ticks."
    ∷ case 8 (same (ramped 0) (pos 600) && same (ramped 31) (pos 600) && same (ramped 32) (pos 601))
    -- "P9 control 1424, CmdStart 400, gain 4096, MinSpd 600: target 1624."
    ∷ case 9 (eqb (target1 600 400 4096 1424) 1624)
    -- "P10 the settings above, offsets measured, armed: with command held at 1, three cycles between the first tick and the second, and
    -- no flag, MOTORRUN at the sixth tick, the start being the first."
    ∷ case 10
    (eqb (answered (ready loaded)).state 1 && eqb (started_at 0).state 3 && eqb (started_at 4).state 8 && eqb (started_at 5).state 4
    && eqb (started_at 5).live 0)
    ∷ []
