-- Numbers in bytes, one after the other: how many they are, where each stands, and that reading and writing are inverse.
use mathlib.Core.Path.{◌≡◌, refl, sym, ap, ◌∙◌}
use mathlib.Core.List.{List, [], ◌∷◌, ◌++◌}
use Prim.Native.Nat.{ℕ, zero, suc, ◌+◌, ◌*◌, ◌/◌, ◌%◌, ◌≤◌, ◌<◌, min}
use native.Mathlib.Nat.{div-add-mod'}
use native.Mathlib.Omega.{arith}
use lib.Dec.{ltb, ltb→lt}
use lib.ListN.{length, get_or, take, drop, length-take, get_or-append, get_or-eq_default}
use lib.Seq.{take-suc, take-append_seam, get_or-take, get_or-drop}
use lib.Ieee.Bits.{is_false}
use borrow.Author.Tests.{ltb-false}
use Rattle.numbers.proofs.Tests.{decide}
use Rattle.numbers.specs.Bytes.{byte, number, numbers, word, words}

pub length-numbers : (count at : ℕ) (bytes : List ℕ) → length (numbers count at bytes) ≡ count
unfolding numbers
length-numbers zero at bytes = refl
length-numbers (suc count) at bytes = ap suc (length-numbers count (at + 2) bytes)

-- the k-th number stands 2k bytes after the first
pub number_at : (count at : ℕ) (bytes : List ℕ) (k : ℕ) → k < count
    → number (at + 2 * k) bytes ≡ get_or (numbers count at bytes) k 0
unfolding numbers
number_at zero at bytes k below = elim below [ ]
number_at (suc count) at bytes zero below = ap (λ (place : ℕ). number place bytes) (omega arith)
number_at (suc count) at bytes (suc k) below =
    ap (λ (place : ℕ). number place bytes) (omega arith) ∙ number_at count (at + 2) bytes k (omega arith)

-- numbers that begin further on begin in what is left
pub numbers_drop : (count at k : ℕ) (bytes : List ℕ) → numbers count (k + at) bytes ≡ numbers count at (drop k bytes)
unfolding numbers
numbers_drop zero at k bytes = refl
numbers_drop (suc count) at k bytes =
    let next : k + at + 1 ≡ k + (at + 1) = omega arith in
    let later : k + at + 2 ≡ k + (at + 2) = omega arith in
    rw (next, later, numbers_drop count (at + 2) k bytes, get_or-drop, get_or-drop)

-- and ask for no byte behind their last
pub numbers_take : (count at n : ℕ) (bytes : List ℕ) → at + 2 * count ≤ n
    → numbers count at (take n bytes) ≡ numbers count at bytes
unfolding numbers
numbers_take zero at n bytes room = refl
numbers_take (suc count) at n bytes room =
    rw (
      get_or-take n bytes at 0 (omega arith),
      get_or-take n bytes (at + 1) 0 (omega arith),
      numbers_take count (at + 2) n bytes (omega arith),
    )

-- the first of more numbers
pub take-numbers : (count more at : ℕ) (bytes : List ℕ) → count ≤ more
    → take count (numbers more at bytes) ≡ numbers count at bytes
unfolding numbers
take-numbers zero more at bytes fewer = refl
take-numbers (suc count) zero at bytes fewer = absurd (omega arith)
take-numbers (suc count) (suc more) at bytes fewer =
    ap (λ (l : List ℕ). number at bytes ∷ l) (take-numbers count more (at + 2) bytes (omega arith))

-- past the end stands 0, so a place there may as well be the last one that a width can tell
pub number_capped : (at most : ℕ) (bytes : List ℕ) → length bytes ≤ most → number (min at most) bytes ≡ number at bytes
number_capped at most bytes short =
    decide (ltb most at)
    (λ far.
    let past : most < at = ltb→lt most at far in
    let end : min at most ≡ most = omega arith in
    rw (
      end,
      get_or-eq_default bytes 0 {n = most} short,
      get_or-eq_default bytes 0 {n = most + 1} (omega arith),
      get_or-eq_default bytes 0 {n = at} (omega arith),
      get_or-eq_default bytes 0 {n = at + 1} (omega arith),
    ))
    (λ near.
    let same : min at most ≡ at = omega (arith, ltb-false most at (is_false (ltb most at) near)) in
    ap (λ (place : ℕ). number place bytes) same)

-- bytes that come behind change nothing of those that are there
module _ (a b : List ℕ) where
  pub byte_kept : (i : ℕ) → i < length a → byte i (a ++ b) ≡ byte i a
  byte_kept i inside = get_or-append a b 0 i inside

  pub number_kept : (at : ℕ) → at + 1 < length a → number at (a ++ b) ≡ number at a
  number_kept at inside = rw (byte_kept at (omega arith), byte_kept (at + 1) inside)

  pub numbers_kept : (count at : ℕ) → at + 2 * count ≤ length a → numbers count at (a ++ b) ≡ numbers count at a
  numbers_kept count at inside =
      sym (numbers_take count at (length a) (a ++ b) inside) ∙ ap (numbers count at) (take-append_seam a b)

pub length-words : (list : List ℕ) → length (words list) ≡ 2 * length list
unfolding words
length-words [] = refl
length-words (n ∷ list) = omega (arith, length-words list)

-- one number more
pub words_more : (list : List ℕ) (n : ℕ) → words (list ++ (n ∷ [])) ≡ words list ++ word n
unfolding words
words_more [] n = refl
words_more (m ∷ list) n = ap (λ (l : List ℕ). m / 256 ∷ m % 256 ∷ l) (words_more list n)

-- the words of the first numbers, and of one more
pub words_next : (list : List ℕ) (i : ℕ) → i < length list
    → words (take (suc i) list) ≡ words (take i list) ++ word (get_or list i 0)
words_next list i inside = rw (take-suc list i 0 inside) (words_more (take i list) (get_or list i 0))

-- a number is the one that its two bytes are
pub word_number : (n : ℕ) → n / 256 * 256 + n % 256 ≡ n
word_number n = div-add-mod' n 256

-- "Writing then reading"
pub numbers_words : (list more : List ℕ) → numbers (length list) 0 (words list ++ more) ≡ list
unfolding numbers words
numbers_words [] more = refl
numbers_words (n ∷ list) more =
    rw (numbers_drop (length list) 0 2 (n / 256 ∷ n % 256 ∷ words list ++ more), numbers_words list more, word_number n)

-- each number of the list is a byte
abbrev pub Bytes : List ℕ → Type 0
Bytes bytes = (i : ℕ) → byte i bytes < 256

-- so is each of a part of them
pub bytes_take : (n : ℕ) (bytes : List ℕ) → Bytes bytes → Bytes (take n bytes)
bytes_take n bytes small i =
    decide (ltb i n) (λ inside. rw (get_or-take n bytes i 0 (ltb→lt i n inside)) (small i))
    (λ past.
    let none : length (take n bytes) ≤ i = omega (arith, length-take n bytes, ltb-false i n (is_false (ltb i n) past)) in
    rw (get_or-eq_default (take n bytes) 0 none) (omega arith))

pub bytes_drop : (n : ℕ) (bytes : List ℕ) → Bytes bytes → Bytes (drop n bytes)
bytes_drop n bytes small i = rw get_or-drop (small (n + i))

pub bytes_append : (a b : List ℕ) → Bytes a → Bytes b → Bytes (a ++ b)
bytes_append [] b of-a of-b i = of-b i
bytes_append (x ∷ a) b of-a of-b zero = of-a 0
bytes_append (x ∷ a) b of-a of-b (suc i) = bytes_append a b (λ i. of-a (suc i)) of-b i

-- and reading, then writing
pub words_numbers : (count : ℕ) (bytes : List ℕ) → length bytes ≡ 2 * count → Bytes bytes
    → words (numbers count 0 bytes) ≡ bytes
unfolding numbers words
words_numbers zero [] long small = refl
words_numbers zero (a ∷ bytes) long small = absurd (omega arith)
words_numbers (suc count) [] long small = absurd (omega arith)
words_numbers (suc count) (a ∷ []) long small = absurd (omega arith)
words_numbers (suc count) (a ∷ b ∷ bytes) long small =
    let high : (a * 256 + b) / 256 ≡ a = omega (arith, small 1) in
    let low : (a * 256 + b) % 256 ≡ b = omega (arith, small 1) in
    rw (
      numbers_drop count 0 2 (a ∷ b ∷ bytes),
      words_numbers count bytes (omega arith) (λ i. small (suc (suc i))),
      high,
      low,
    )
