-- The two meanings of an image are inverse, whatever its form: "Writing then reading returns each block, and two images with equal blocks
-- are equal", and what the reader takes is exactly what the writer can make.
use Prim.Native.Nat.{ℕ, zero, suc, ◌≤◌, ◌<◌}
use native.Mathlib.Omega.{arith}
use mathlib.Core.Bool.{true}
use mathlib.Core.Logic.{◌↔◌}
use mathlib.Core.Path.{◌≡◌, refl, sym, ap, ◌∙◌}
use mathlib.Core.List.{List}
use borrow.Author.Tests.{lt-leb}
use Rattle.numbers.proofs.Bytes.{Bytes}
use Rattle.images.specs.Image.{Form, Stored, empty, filled, Blocks, Allowed, pieces, body_of, bodies, entries, image_of}
use Rattle.images.specs.Table.{well_formed, blocks_in}
use Rattle.images.specs.Reads.{number_of, found_of, found, part}
use Rattle.images.proofs.Written as Written
use Rattle.images.proofs.Read as Read

-- "Writing then reading returns each block": the image that blocks have is well-formed, and its blocks are these
pub written_then_read :
    (form : Form) (blocks : Blocks)
    → Allowed form blocks
    → (well_formed form (image_of form blocks) ≡ true)
    × ((k : ℕ) → k < form.blocks → blocks_in form (image_of form blocks) k ≡ blocks k)
written_then_read form blocks right = (Written.well_formed_lem form blocks right, Written.read_back form blocks)

-- what is read, then written: a well-formed image is the one that its blocks have
pub read_then_written :
    (form : Form) (image : List ℕ)
    → Bytes image
    → well_formed form image ≡ true
    → Allowed form (blocks_in form image) × (image ≡ image_of form (blocks_in form image))
read_then_written form image small formed = (Read.blocks_allowed form image formed small, Read.image_is form image formed small)

-- what the reader takes is exactly what the writer can make
pub taken_is_made :
    (form : Form) (image : List ℕ)
    → Bytes image
    → (well_formed form image ≡ true) ↔ ((blocks : Blocks) × Allowed form blocks × (image ≡ image_of form blocks))
taken_is_made form image small = (
  λ formed. let made = read_then_written form image small formed in (blocks_in form image, made.0, made.1),
  λ made. rw made.2 (written_then_read form made.0 made.1).0,
)

-- the image depends on no block from the form's number of blocks on
pieces_same : (f g : ℕ → List ℕ) (n : ℕ) → ((k : ℕ) → k < n → f k ≡ g k) → pieces f n ≡ pieces g n
unfolding pieces
pieces_same f g zero same = refl
pieces_same f g (suc n) same = rw (pieces_same f g n (λ k below. same k (omega arith)), same n (omega arith))

pub same_blocks_same_image :
    (form : Form) (a b : Blocks)
    → ((k : ℕ) → k < form.blocks → a k ≡ b k)
    → image_of form a ≡ image_of form b
unfolding image_of
same_blocks_same_image form a b same =
    let bodies-same : (k : ℕ) → k ≤ form.blocks → bodies a k ≡ bodies b k =
    λ k within. pieces_same _ _ k (λ i below. ap body_of (same i (omega arith))) in
    let entries-same : entries form a form.blocks ≡ entries form b form.blocks =
    pieces_same _ _ form.blocks (λ k below. rw (same k below, bodies-same k (omega arith))) in
    rw (entries-same, bodies-same form.blocks (omega arith))

-- "two images with equal blocks are equal"
pub equal_blocks_equal_images :
    (form : Form) (i j : List ℕ)
    → Bytes i
    → Bytes j
    → well_formed form i ≡ true
    → well_formed form j ≡ true
    → ((k : ℕ) → k < form.blocks → blocks_in form i k ≡ blocks_in form j k)
    → i ≡ j
equal_blocks_equal_images form i j small-i small-j formed-i formed-j same =
    (read_then_written form i small-i formed-i).1
    ∙ same_blocks_same_image form (blocks_in form i) (blocks_in form j) same
    ∙ sym (read_then_written form j small-j formed-j).1

-- and so of what the reader gives back: of a filled block the bytes that were written, of an empty one 9 and an empty part
pub reader_returns :
    (form : Form) (blocks : Blocks)
    → Allowed form blocks
    → (k : ℕ) → k < form.blocks
    → ((found form (image_of form blocks) k).number ≡ number_of (blocks k)) × (part form (image_of form blocks) k ≡ body_of (blocks k))
unfolding found_of
reader_returns form blocks right k below = by (blocks k) refl
  where
    by : (s : Stored) → blocks k ≡ s
        → ((found form (image_of form blocks) k).number ≡ number_of (blocks k))
        × (part form (image_of form blocks) k ≡ body_of (blocks k))
    by empty is =
        let formed = Written.well_formed_lem form blocks right in
        let inside = lt-leb form.blocks k below in
        let kind = Written.empty_is form blocks k below is in
        (rw (formed, inside, kind, is), rw (formed, inside, kind, is))
    by (filled list) is =
        let formed = Written.well_formed_lem form blocks right in
        let inside = lt-leb form.blocks k below in
        let kind = Written.filled_is form blocks k below list is in
        (rw (formed, inside, kind, is), rw (formed, inside, kind, Written.body_is form blocks k below list is, is))
