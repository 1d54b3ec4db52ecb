-- The code's counts, call after call, are those of the log as a whole: no log is so long that one stops.
use Prim.Native.Nat.{ℕ, suc, ◌/◌, ◌%◌, ◌≤◌, ◌<◌, ◌^◌}
use Prim.Native.Char.{code}
use native.Mathlib.Omega.{arith}
use mathlib.Core.Path.{◌≡◌, refl, sym, ◌∙◌}
use mathlib.Core.Bool.{Bool, true, false, not, ◌&&◌, ◌||◌, cond}
use mathlib.Core.List.{[], ◌∷◌}
use lib.Dec.{eqb, leb}
use lib.ListN.{length}
use mir.Facts.{leb_yes}
use borrow.Author.Tests.{eqb-true, eq-eqb, ne_eqb, leb-false}
use Rattle.numbers.proofs.Tests.{by_test}
use Rattle.faults.specs.Word.{bit}
use Rattle.drive.specs.Answer.{letter}
use Rattle.onlooker.specs.Past.{most}
use Rattle.onlooker.specs.Plug.{counted, plug_after}
use Rattle.theorems_demands.specs.FlagTwelve.{loads_now}
use Rattle.theorems_demands.specs.Stalled.{Log}
use Rattle.theorems_samples.specs.Plugs.{plug_of, since_load, says, count, bad_row, lit_by, Sixteen}
use Rattle.theorems_samples.specs.Plugs.{PlugIsTold}

-- no count is more than there are answers
count_small : (wanted : ℕ) (log : Log) → count wanted (since_load log) ≤ length log
unfolding since_load count
count_small wanted [] = omega arith
count_small wanted (e ∷ past) =
    let earlier = count_small wanted past in
    by_test (λ (l : Log). count wanted l ≤ suc (length past)) (loads_now e) (λ _. omega arith)
    (λ _. by_test (λ n. n ≤ suc (length past)) (says wanted e) (λ _. omega (arith, earlier)) (λ _. omega (arith, earlier)))

row_small : (log : Log) → bad_row (since_load log) ≤ length log
unfolding since_load bad_row
row_small [] = omega arith
row_small (e ∷ past) =
    let earlier = row_small past in
    by_test (λ (l : Log). bad_row l ≤ suc (length past)) (loads_now e) (λ _. omega arith)
    (λ _. by_test (λ n. n ≤ suc (length past)) (says (code ".") e) (λ _. omega (arith, earlier))
    (λ _. by_test (λ n. n ≤ suc (length past)) (says (code "D") e || says (code "X") e) (λ _. omega (arith, earlier))
    (λ _. omega arith)))

-- so none stops
counted_on : (test : Bool) (n c : ℕ) → n ≡ c → c < most → counted test n ≡ cond test (suc c) c
counted_on true n c same below = omega (arith, same, below)
counted_on false n c same below = same

-- a letter of a sample ends the row or makes it longer, and the full stop leaves it
row_by : (loaded : Bool) (letter n c : ℕ) → n ≡ c → c < most
    → cond (loaded || not (eqb letter (code "D")) && not (eqb letter (code "X")) && not (eqb letter (code "."))) 0
    (counted (eqb letter (code "D") || eqb letter (code "X")) n)
    ≡ cond loaded 0 (cond (eqb letter (code ".")) c (cond (eqb letter (code "D") || eqb letter (code "X")) (suc c) 0))
row_by true letter n c same below = refl
row_by false letter n c same below = go (eqb letter (code ".")) refl
  where
    bad : (dead stray : Bool) → cond (not dead && not stray && true) 0 (counted (dead || stray) n) ≡ cond (dead || stray) (suc c) 0
    bad true stray = counted_on true n c same below
    bad false true = counted_on true n c same below
    bad false false = refl

    go : (none : Bool) → eqb letter (code ".") ≡ none
        → cond (not (eqb letter (code "D")) && not (eqb letter (code "X")) && not none) 0
        (counted (eqb letter (code "D") || eqb letter (code "X")) n)
        ≡ cond none c (cond (eqb letter (code "D") || eqb letter (code "X")) (suc c) 0)
    go true e = rw (eqb-true letter (code ".") e) same
    go false e = bad (eqb letter (code "D")) (eqb letter (code "X"))

-- bit 15 of sixteen
highest_bit : (live : ℕ) → live < 2 ^ 16 → leb 32768 live ≡ bit 15 live
highest_bit live small = go (leb 32768 live) refl
  where
    go : (high : Bool) → leb 32768 live ≡ high → high ≡ bit 15 live
    go true e = sym (eq-eqb (live / 2 ^ 15 % 2) 1 (omega (arith, leb_yes {a = 32768} {b = live} (rw e tt))))
    go false e = sym (ne_eqb (live / 2 ^ 15 % 2) 1 (λ one. omega (arith, one, small, leb-false 32768 live e)))

-- Each number that the code keeps is the log's.
pub plug_is_told : PlugIsTold
unfolding plug_of plug_after since_load count bad_row lit_by Sixteen
plug_is_told [] few sixteen = record { dead = refl; stray = refl; row = refl; lit = refl; pattern = refl }
plug_is_told (e ∷ past) few sixteen =
    let before = plug_is_told past (omega (arith, few)) sixteen.1 in
    record {
      dead = counts (code "D") (plug_of past).dead before.dead;
      stray = counts (code "X") (plug_of past).stray before.stray;
      row = rows before.row;
      lit = highest_bit e.answer.live sixteen.0;
      pattern = rw (highest_bit e.answer.live sixteen.0, before.lit, before.pattern);
    }
  where
    counts : (wanted n : ℕ) → n ≡ count wanted (since_load past)
        → cond (loads_now e) 0 (counted (says wanted e) n) ≡ count wanted (cond (loads_now e) [] (e ∷ since_load past))
    counts wanted n same = go (loads_now e)
      where
        go : (loaded : Bool) → cond loaded 0 (counted (says wanted e) n) ≡ count wanted (cond loaded [] (e ∷ since_load past))
        go true = refl
        go false = counted_on (says wanted e) n (count wanted (since_load past)) same (omega (arith, few, count_small wanted past))

    rows : (plug_of past).row ≡ bad_row (since_load past)
        → (plug_of (e ∷ past)).row ≡ bad_row (cond (loads_now e) [] (e ∷ since_load past))
    rows same =
        row_by (loads_now e) (letter e.answer.judged) (plug_of past).row (bad_row (since_load past)) same
        (omega (arith, few, row_small past))
        ∙ go (loads_now e)
      where
        go : (loaded : Bool)
            → cond loaded 0 (bad_row (e ∷ since_load past)) ≡ bad_row (cond loaded [] (e ∷ since_load past))
        go true = refl
        go false = refl
