-- An image written out byte by byte from the request's words, so that definition, reader and writer are not only each other's inverse, but
-- the paper's. And images that break one of its sentences each. antt computes each.
use Prim.Native.Nat.{ℕ}
use mathlib.Core.Bool.{Bool, true, ◌&&◌, not, cond}
use mathlib.Core.Path.{◌≡◌, refl}
use mathlib.Core.List.{List, [], ◌∷◌, ◌++◌}
use lib.Dec.{eqb}
use lib.ListN.{take, drop, replicate, set}
use Rattle.numbers.specs.Bytes.{words}
use Rattle.images.specs.Image.{fifteen, Stored, empty, filled, pieces, image_of}
use Rattle.images.specs.Table.{keeps, ends, kept, tabled, well_formed}

-- five zeros
abbrev none : List ℕ
none = 0 ∷ 0 ∷ 0 ∷ 0 ∷ 0 ∷ []

-- Block 2 has 24 numbers, block 9 has 25. "First come 15 entries", 75 bytes; the body of block 2 begins at 75 and has 48 bytes; that of
-- block 9 follows "without gaps" at 123, and has 50. Of each body the first number is 258, "high byte first" 1 and 2; the others are 0.
abbrev written : List ℕ
written =
    none ++ none
    ++ (1 ∷ 0 ∷ 75 ∷ 0 ∷ 48 ∷ [])
    ++ none ++ none ++ none ++ none ++ none ++ none
    ++ (1 ∷ 0 ∷ 123 ∷ 0 ∷ 50 ∷ [])
    ++ none ++ none ++ none ++ none ++ none
    ++ (1 ∷ 2 ∷ replicate 46 0)
    ++ (1 ∷ 2 ∷ replicate 48 0)

abbrev in_blocks : ℕ → Stored
in_blocks k = cond (eqb k 2) (filled (258 ∷ replicate 23 0)) (cond (eqb k 9) (filled (258 ∷ replicate 24 0)) empty)

pub as_written : image_of fifteen in_blocks ≡ written
unfolding image_of pieces words
as_written = refl

-- "nothing else follows": with no block filled an image is its entries alone
abbrev good : List (List ℕ)
good = written ∷ replicate 75 0 ∷ []

-- Each breaks one thing. The entry of block 2 stands at 10 to 14, that of block 9 at 45 to 49.
abbrev bad : List (List ℕ)
bad =
    -- no byte; entries that are cut; a byte more than the entries
    [] ∷ replicate 74 0 ∷ replicate 76 0
    -- a byte more, and a byte less, behind the last body
    ∷ (written ++ (0 ∷ [])) ∷ take 172 written
    -- a gap of two bytes before the first body, and between the two, with the offsets that it makes
    ∷ (take 75 (set (set written 12 77) 47 125) ++ (0 ∷ 0 ∷ []) ++ drop 75 written)
    ∷ (take 123 (set written 47 125) ++ (0 ∷ 0 ∷ []) ++ drop 123 written)
    -- kind 2; an entry with a body and kind 0, and one without and kind 1
    ∷ set written 10 2 ∷ set written 10 255 ∷ set written 10 0 ∷ set written 0 1
    -- an empty entry with an offset, or with a length
    ∷ set written 1 1 ∷ set written 2 75 ∷ set written 3 1 ∷ set written 4 48
    -- an offset that is not where the body must begin: one more, one less, its bytes exchanged; the other body's
    ∷ set written 12 76 ∷ set written 12 74 ∷ set (set written 11 75) 12 0 ∷ set written 12 123 ∷ set written 47 75
    -- the two bodies exchanged: each length is right, and so is their sum
    ∷ set (set (set (set written 12 125) 14 48) 47 75) 49 50
    -- lengths 0, 46, 49 and 52, and 48 with its bytes exchanged
    ∷ set written 14 0 ∷ set written 14 46 ∷ set written 14 49 ∷ set written 14 52 ∷ set (set written 13 48) 14 0
    -- fourteen entries, sixteen
    ∷ drop 5 written ∷ (none ++ written)
    ∷ []

abbrev every : (List ℕ → Bool) → List (List ℕ) → Bool
every test [] = true
every test (image ∷ images) = test image && every test images

pub good_are_taken : every (well_formed fifteen) good ≡ true
unfolding well_formed tabled kept keeps ends
good_are_taken = refl

pub bad_are_not : every (λ (image : List ℕ). not (well_formed fifteen image)) bad ≡ true
unfolding well_formed tabled kept keeps ends
bad_are_not = refl
