-- The image that blocks have is well-formed, and the blocks that it has are these: "Writing then reading returns each block".
use Prim.Native.Nat.{ℕ, zero, suc, ◌+◌, ◌/◌, ◌≤◌, ◌<◌}
use native.Mathlib.Nat.{eq-or-lt_of_le, add-zero}
use native.Mathlib.Omega.{arith}
use mathlib.Core.Bool.{true, false}
use mathlib.Core.Logic.{⊎_elim}
use mathlib.Core.Path.{◌≡◌, refl, sym, ap, ◌∙◌}
use mathlib.Core.List.{List, [], ◌∷◌, ◌++◌, append_assoc, append-nil}
use lib.ListN.{length, take, drop, length-append, get_or-append}
use lib.Seq.{get_or-append-add, take_at, drop_at}
use borrow.Author.Tests.{eq-eqb, le-leb}
use Rattle.numbers.specs.Bytes.{byte, number, words}
use Rattle.numbers.proofs.Bytes.{word_number, length-words, numbers_words}
use Rattle.images.specs.Image.{Form, front, Stored, empty, filled, Blocks, Allowed, pieces, body_of, bodies, entry_at, start_of}
use Rattle.images.specs.Image.{entry_of, entries, image_of}
use Rattle.images.specs.Table.{kind_at, offset_at, length_at, keeps, begins, ends, kept, tabled, well_formed, is_filled, start_at, body_at}
use Rattle.images.specs.Table.{numbers_in, blocks_in}
use Rattle.images.proofs.Lengths.{length-entry, length-entries, length-image, start_next, Size, none, some, size}

-- the pieces from k on
pieces_at : (piece : ℕ → List ℕ) (n k : ℕ) → k < n
    → (rest : List ℕ) × (pieces piece n ≡ pieces piece k ++ (piece k ++ rest))
unfolding pieces
pieces_at piece zero k below = absurd (omega arith)
pieces_at piece (suc n) k below =
    ⊎_elim
    (λ same. ([], rw same (ap (λ (l : List ℕ). pieces piece n ++ l) (sym (append-nil (piece n))))))
    (λ less. let more = pieces_at piece n k less in (more.0 ++ piece n, rw more.1 (simp append_assoc)))
    (eq-or-lt_of_le (omega arith))

-- a byte of a part in the middle
middle : (p q r : List ℕ) (a j : ℕ) → length p ≡ a → j < length q → byte (a + j) (p ++ (q ++ r)) ≡ byte j q
middle p q r a j long inside = rw (← long, get_or-append-add, get_or-append q r 0 j inside)

-- the numbers of a body that was written
pub numbers_back : (list : List ℕ) → numbers_in (words list) ≡ list
numbers_back list =
    let half : length (words list) / 2 ≡ length list = omega (arith, length-words list) in
    rw half (rw append-nil at (numbers_words list []))

begins_so : (head rest : List ℕ) → begins head (head ++ rest) ≡ true
begins_so [] rest = refl
begins_so (b ∷ head) rest = rw (eq-eqb b b refl, begins_so head rest)

module _ (form : Form) (blocks : Blocks) where
  abbrev image : List ℕ
  image = image_of form blocks

  abbrev at : ℕ → ℕ
  at k = entry_at (front form) k

  abbrev entry_written : ℕ → List ℕ
  entry_written k = entry_of (blocks k) (start_of form blocks k)

  module _ (k : ℕ) (below : k < form.blocks) where
    -- byte j of entry k
    entry_byte : (j : ℕ) → j < 5 → byte (at k + j) image ≡ byte j (entry_written k)
    unfolding image_of
    entry_byte j inside =
        let split = pieces_at entry_written form.blocks k below in
        let whole : image ≡ (form.head ++ entries form blocks k) ++ (entry_written k ++ (split.0 ++ bodies blocks form.blocks)) =
        rw split.1 (simp append_assoc) in
        rw whole
        (middle (form.head ++ entries form blocks k) (entry_written k) _ (at k) j
        (rw (length-append, length-entries form blocks k))
        (rw (length-entry (blocks k) (start_of form blocks k)) inside))

    -- the body of block k
    body_there : take (length (body_of (blocks k))) (drop (start_of form blocks k) image) ≡ body_of (blocks k)
    unfolding image_of
    body_there =
        let split = pieces_at (λ (i : ℕ). body_of (blocks i)) form.blocks k below in
        let before = form.head ++ (entries form blocks form.blocks ++ bodies blocks k) in
        let whole : image ≡ before ++ (body_of (blocks k) ++ split.0) = rw split.1 (simp append_assoc) in
        rw (
          whole,
          drop_at before (body_of (blocks k) ++ split.0) (start_of form blocks k)
              (simp (length-append, length-entries form blocks form.blocks) (omega arith)),
        )
        (take_at (body_of (blocks k)) split.0 (length (body_of (blocks k))) refl)

    kind : kind_at image (at k) ≡ byte 0 (entry_written k)
    kind = rw add-zero at (entry_byte 0 (omega arith))

    offset : offset_at image (at k) ≡ number 1 (entry_written k)
    offset =
        let second : at k + 1 + 1 ≡ at k + 2 = omega arith in
        rw (second, entry_byte 1 (omega arith), entry_byte 2 (omega arith))

    long : length_at image (at k) ≡ number 3 (entry_written k)
    long =
        let second : at k + 3 + 1 ≡ at k + 4 = omega arith in
        rw (second, entry_byte 3 (omega arith), entry_byte 4 (omega arith))

    long_is : length_at image (at k) ≡ length (body_of (blocks k))
    long_is = long ∙ of (blocks k)
      where
        of : (s : Stored) → number 3 (entry_of s (start_of form blocks k)) ≡ length (body_of s)
        of empty = refl
        of (filled list) = word_number (length (words list))

  ends_are : (k : ℕ) → k ≤ form.blocks → ends (front form) form.blocks image k ≡ start_of form blocks k
  unfolding ends pieces
  ends_are zero within = omega arith
  ends_are (suc k) within = rw (start_next form blocks k, ends_are k (omega arith), long_is k (omega arith))

  module _ (right : Allowed form blocks) where
    keeps_rule : (k : ℕ) → k < form.blocks → keeps image (at k) (start_of form blocks k) ≡ true
    unfolding keeps
    keeps_rule k below = by (blocks k) (size (blocks k) (right k below)) refl
      where
        by : (s : Stored) → Size s → blocks k ≡ s → keeps image (at k) (start_of form blocks k) ≡ true
        by empty none is = rw (kind k below, long k below, offset k below, is)
        by (filled list) (some two positive most) is =
            let start = word_number (start_of form blocks k) in
            let bytes = word_number (length (words list)) in
            rw (kind k below, long k below, offset k below, is, start, bytes, eq-eqb (start_of form blocks k) _ refl, two)

    all_kept : (k : ℕ) → k ≤ form.blocks → kept (front form) form.blocks image k ≡ true
    unfolding kept
    all_kept zero within = refl
    all_kept (suc k) within = rw (all_kept k (omega arith), ends_are k (omega arith), keeps_rule k (omega arith))

    begun : begins form.head image ≡ true
    unfolding image_of
    begun = begins_so form.head _

    pub well_formed_lem : well_formed form image ≡ true
    unfolding well_formed tabled
    well_formed_lem =
        rw (
          begun,
          all_kept form.blocks (omega arith),
          ends_are form.blocks (omega arith),
          length-image form blocks,
          le-leb (at form.blocks) (start_of form blocks form.blocks) (omega arith),
          eq-eqb (start_of form blocks form.blocks) _ refl,
        )

  -- what an entry says of its block
  pub body_is : (k : ℕ) → k < form.blocks → (list : List ℕ) → blocks k ≡ filled list
      → body_at (front form) image k ≡ words list
  body_is k below list is =
      let start : start_at (front form) image k ≡ start_of form blocks k =
      offset k below ∙ rw is (word_number (start_of form blocks k)) in
      rw (long_is k below, start, body_there k below, is)

  pub filled_is : (k : ℕ) → k < form.blocks → (list : List ℕ) → blocks k ≡ filled list
      → is_filled (front form) image k ≡ true
  filled_is k below list is = rw (kind k below, is)

  pub empty_is : (k : ℕ) → k < form.blocks → blocks k ≡ empty → is_filled (front form) image k ≡ false
  empty_is k below is = rw (kind k below, is)

  pub read_back : (k : ℕ) → k < form.blocks → blocks_in form image k ≡ blocks k
  unfolding blocks_in
  read_back k below = by (blocks k) refl
    where
      by : (s : Stored) → blocks k ≡ s → blocks_in form image k ≡ blocks k
      by empty is = rw (empty_is k below is, is)
      by (filled list) is = rw (filled_is k below list is, body_is k below list is, numbers_back list, is)
