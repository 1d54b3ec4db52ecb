-- Document 01: a table of refusals, and "A number is given exactly when its row holds and none earlier in this order does."
use Rattle.std.specs.Prelude.{ℕ, Bool, not, cond, List, [], ◌∷◌, T, Result, Ok, Err}
use Rattle.verdicts.specs.declared.Refusal.{Refusal}
use Rattle.verdicts.specs.declared.Refusal.TheVariants.{Field, Setting, Idle, Running, Line, Record, Image, Block, Empty}

-- what a call is told: "number" and "place"
pub record Verdict : Type 0 where
  pub number : ℕ
  pub place : ℕ

-- a row of the table: number, place, and whether it holds
pub record Row : Type 0 where
  pub number : ℕ
  pub place : ℕ
  pub holds : Bool

abbrev pub row : ℕ → ℕ → Bool → Row
row number place holds = record { number = number; place = place; holds = holds }

abbrev pub accepted : Verdict
accepted = record { number = 0; place = 0 }

-- what a row gives
abbrev pub told : Row → Verdict
told r = record { number = r.number; place = r.place }

-- a row before what the later ones say
abbrev pub first : Row → Verdict → Verdict
first r later = cond r.holds (told r) later

-- the first row that holds, or "0 accepted"
abbrev pub verdict : List Row → Verdict
verdict [] = accepted
verdict (r ∷ rows) = first r (verdict rows)

-- "its row holds and none earlier in this order does"
pub data First : List Row → Row → Type 0 where
  here : {r : Row} {rows : List Row} → T r.holds → First (r ∷ rows) r
  later : {r q : Row} {rows : List Row} → T (not r.holds) → First rows q → First (r ∷ rows) q

-- the number that the tables of 01 and 02 have for each refusal of the code
abbrev pub number_of : Refusal → ℕ
number_of (Field place) = 1
number_of (Setting place) = 2
number_of Idle = 3
number_of Running = 4
number_of (Line place) = 5
number_of Record = 6
number_of Image = 7
number_of Block = 8
number_of Empty = 9

-- .. and its place
abbrev pub place_of : Refusal → ℕ
place_of (Field place) = place
place_of (Setting place) = place
place_of Idle = 0
place_of Running = 0
place_of (Line place) = place
place_of Record = 0
place_of Image = 0
place_of Block = 0
place_of Empty = 0

-- what a result tells: "0 accepted", or its refusal's number and place
abbrev pub verdict_of : Result (Unit {0}) Refusal → Verdict
verdict_of (Ok u) = accepted
verdict_of (Err refusal) = record { number = number_of refusal; place = place_of refusal }
