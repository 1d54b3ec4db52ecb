-- More on chains of writers: a writer behind another, and where one ends; and what the loops of the writer put.
use Prim.Native.Nat.{ℕ, ◌+◌, ◌≤◌, ◌<◌}
use native.Mathlib.Numerals.{add-one}
use mathlib.Core.Path.{◌≡◌, refl, sym}
use native.Mathlib.Omega.{arith}
use mathlib.Core.List.{List, [], ◌++◌}
use lib.ListN.{length, get_or, take}
use lib.Seq.{take_all}
use Rattle.text.specs.Put.{behind, written}
use Rattle.text.proofs.Chains.{Puts, chained, nothing_put, and_then, length-written}
use Rattle.numbers.specs.Bytes.{word, words}
use Rattle.numbers.proofs.Bytes.{words_next}
use Rattle.images.specs.Image.{fifteen, pieces, body_of, bodies, entry_of, entries, start_of}
use Rattle.images.specs.Writes.{Block, no_block, stored_of, stored_in}
use Rattle.images.proofs.Lengths.{start_next}

pub then : {at next last : ℕ} {a b lent middle after : List ℕ} → Puts at a lent next middle → Puts next b middle last after
    → Puts at (a ++ b) lent last after
then {b = b} first second = and_then b first (second.place, second.out)

-- a writer tells a place within the lent bytes
pub within : {at : ℕ} {bytes lent : List ℕ} {next : ℕ} {after : List ℕ} → Puts at bytes lent next after → next ≤ length after
unfolding behind
within {at} {bytes} {lent} put = rw (put.place, put.out, length-written at bytes lent) (omega arith)

-- nothing yet: before an empty text the place is the one that was handed over, and the bytes stand
module _ (at : ℕ) (lent : List ℕ) (inside : at ≤ length lent) where
  pub behind_nothing : behind at [] lent ≡ at
  behind_nothing = sym (nothing_put inside).place

  pub written_nothing : written at [] lent ≡ lent
  written_nothing = sym (nothing_put inside).out

pub no_bodies : (blocks : List Block) → bodies (stored_in blocks) 0 ≡ []
unfolding pieces
no_bodies blocks = refl

pub no_entries : (blocks : List Block) → entries fifteen (stored_in blocks) 0 ≡ []
unfolding pieces
no_entries blocks = refl

pub no_words : words [] ≡ []
unfolding words
no_words = refl

-- one more
module _ (blocks : List Block) (k : ℕ) where
  pub bodies_next : bodies (stored_in blocks) (k + 1) ≡ bodies (stored_in blocks) k ++ body_of (stored_of (get_or blocks k no_block))
  unfolding pieces
  bodies_next = rw add-one

  pub entries_next : entries fifteen (stored_in blocks) (k + 1)
      ≡ entries fifteen (stored_in blocks) k
      ++ entry_of (stored_of (get_or blocks k no_block)) (start_of fifteen (stored_in blocks) k)
  unfolding pieces
  entries_next = rw add-one

  pub next_start : start_of fifteen (stored_in blocks) (k + 1)
      ≡ start_of fifteen (stored_in blocks) k + length (body_of (stored_of (get_or blocks k no_block)))
  next_start = rw (add-one, start_next fifteen (stored_in blocks) k)

pub next_word : (numbers : List ℕ) (i : ℕ) → i < length numbers
    → words (take (i + 1) numbers) ≡ words (take i numbers) ++ word (get_or numbers i 0)
next_word numbers i inside = rw add-one (words_next numbers i inside)

pub ruleset chain = (
  chained,
  within,
  behind_nothing,
  written_nothing,
  no_bodies,
  no_entries,
  no_words,
  bodies_next,
  entries_next,
  next_start,
  next_word,
  take_all,
)
