-- The blocks of W: where they begin, how many bytes they have, and that bytes which come later change nothing of those that are there.
use native.Mathlib.Nat.{eq-or-lt_of_le}
use borrow.Author.Tests.{lt-ltb}
use Rattle.std.proofs.Math.Bool.{or-true}
use mathlib.Core.Bool.{true}
use mathlib.Core.Logic.{⊎_elim}
use mathlib.Core.Path.{◌≡◌, ◌∙◌, ap, refl, sym}
use mathlib.Core.List.{List, [], ◌∷◌, ◌++◌}
use Prim.Native.Nat.{ℕ, zero, suc, ◌+◌, ◌*◌, ◌≤◌, ◌<◌}
use native.Mathlib.Omega.{arith}
use lib.Dec.{T, ltb, ltb→lt, nltb→le}
use lib.ListN.{length, get_or-eq_default}
use Rattle.std.specs.Prelude.{cond, drop, Result, Ok, Err}
use Rattle.streams.specs.declared.Missing.{Missing}
use Rattle.streams.specs.declared.Missing.TheVariants.{Unknown}
use Rattle.numbers.specs.Bytes.{byte, numbers}
use Rattle.numbers.proofs.Bytes.{byte_kept, numbers_kept, numbers_drop}
use Rattle.numbers.proofs.Tests.{decide, or_cases, or_left, or_right}
use Rattle.blocks.specs.Table.{Given, head_size, following, block_size, sizes_of, place_of, bad_kind, block_at, blocks_of}

-- numbers from a place on are the first of what is left from there
pub numbers_left : (count place : ℕ) (bytes : List ℕ) → numbers count 0 (drop place bytes) ≡ numbers count place bytes
numbers_left count place bytes =
    let same : place + 0 ≡ place = omega arith in
    sym (numbers_drop count 0 place bytes) ∙ ap (λ (at : ℕ). numbers count at bytes) same

pub at_least : (bytes : List ℕ) (k : ℕ) → 4 + 2 * k ≤ place_of bytes k
unfolding place_of
at_least bytes zero = omega arith
at_least bytes (suc k) = omega (arith, at_least bytes k)

pub at_most : (bytes : List ℕ) (k : ℕ) → place_of bytes k ≤ 4 + 52 * k
unfolding place_of
at_most bytes zero = omega arith
at_most bytes (suc k) = omega (arith, at_most bytes k)

sizes_more : (blocks : List Given) (b : Given) → sizes_of (blocks ++ (b ∷ [])) ≡ sizes_of blocks + block_size b.count
unfolding sizes_of
sizes_more [] b = omega arith
sizes_more (first ∷ blocks) b = omega (arith, sizes_more blocks b)

-- the blocks end where the next would begin
pub sizes_are : (bytes : List ℕ) (k : ℕ) → head_size + sizes_of (blocks_of bytes k) ≡ place_of bytes k
unfolding place_of blocks_of block_at sizes_of
sizes_are bytes zero = refl
sizes_are bytes (suc k) =
    rw (sizes_more (blocks_of bytes k) (block_at bytes (place_of bytes k))) (omega (arith, sizes_are bytes k))

-- one of a bad kind is enough
pub one_bad : (bytes : List ℕ) (k n : ℕ) → k < n → 1 < byte (place_of bytes k) bytes → bad_kind bytes n ≡ true
unfolding bad_kind
one_bad bytes k zero below bad = absurd (omega arith)
one_bad bytes k (suc n) below bad =
    ⊎_elim (λ same. rw (← same, lt-ltb 1 (byte (place_of bytes k) bytes) bad, or-true))
    (λ less. rw (one_bad bytes k n less bad))
    (eq-or-lt_of_le (omega arith))

-- so the code may stop at the first of them
pub stopped : {A : Type 0} (value : A) (bytes : List ℕ) (k place : ℕ) → k < 15 → place ≡ place_of bytes k → 1 < byte place bytes
    → ◌≡◌ {A = Result A Missing} (Err Unknown) (cond (bad_kind bytes 15) (Err Unknown) (Ok value))
stopped value bytes k place below is bad = rw (one_bad bytes k 15 below (rw is at bad))

-- the bytes `b` come behind `a`
module _ (a b : List ℕ) where
  pub place_kept : (k : ℕ) → place_of a k ≤ length a → place_of (a ++ b) k ≡ place_of a k
  unfolding place_of
  place_kept zero inside = refl
  place_kept (suc k) inside = rw (place_kept k (omega arith), byte_kept a b (place_of a k + 1) (omega arith))

  -- a bad kind stays bad: its byte is there, and so are those of the blocks before it
  here_bad : (k : ℕ) → T (ltb 1 (byte (place_of a k) a)) → T (ltb 1 (byte (place_of (a ++ b) k) (a ++ b)))
  here_bad k bad =
      let inside : place_of a k < length a =
      decide (ltb (place_of a k) (length a)) (λ yes. ltb→lt (place_of a k) (length a) yes)
      (λ no.
      absurd (omega (
        arith,
        ltb→lt 1 (byte (place_of a k) a) bad,
        get_or-eq_default a 0 (nltb→le (place_of a k) (length a) no),
      )))
      in
      rw (place_kept k (omega arith), byte_kept a b (place_of a k) inside) bad

  pub still_bad : (k : ℕ) → T (bad_kind a k) → T (bad_kind (a ++ b) k)
  unfolding bad_kind
  still_bad zero bad = bad
  still_bad (suc k) bad =
      or_cases (bad_kind a k) (ltb 1 (byte (place_of a k) a)) bad
      (λ before. or_left (bad_kind (a ++ b) k) (ltb 1 (byte (place_of (a ++ b) k) (a ++ b))) (still_bad k before))
      (λ here. or_right (bad_kind (a ++ b) k) (ltb 1 (byte (place_of (a ++ b) k) (a ++ b))) (here_bad k here))

  -- where all of a block is there, so are its kind and its numbers
  pub kinds_kept : (k : ℕ) → place_of a k ≤ length a → bad_kind (a ++ b) k ≡ bad_kind a k
  unfolding bad_kind place_of
  kinds_kept zero inside = refl
  kinds_kept (suc k) inside =
      rw (kinds_kept k (omega arith), place_kept k (omega arith), byte_kept a b (place_of a k) (omega arith))

  block_kept : (place : ℕ) → place + block_size (byte (place + 1) a) ≤ length a → block_at (a ++ b) place ≡ block_at a place
  unfolding block_at
  block_kept place inside =
      rw (
        byte_kept a b place (omega arith),
        byte_kept a b (place + 1) (omega arith),
        numbers_kept a b (following (byte (place + 1) a)) (place + 2) (omega arith),
      )

  pub blocks_kept : (k : ℕ) → place_of a k ≤ length a → blocks_of (a ++ b) k ≡ blocks_of a k
  unfolding blocks_of place_of
  blocks_kept zero inside = refl
  blocks_kept (suc k) inside =
      rw (blocks_kept k (omega arith), place_kept k (omega arith), block_kept (place_of a k) inside)
