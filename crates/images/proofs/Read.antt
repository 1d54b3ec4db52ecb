-- A well-formed image is the image that its blocks have.
use Prim.Native.Nat.{ℕ, zero, suc, ◌+◌, ◌*◌, ◌/◌, ◌%◌, ◌≤◌, ◌<◌}
use native.Mathlib.Numerals.{add-one}
use native.Mathlib.Omega.{arith}
use mathlib.Core.Bool.{Bool, true, false, ◌||◌}
use mathlib.Core.Path.{◌≡◌, refl, sym, ap, ◌∙◌}
use mathlib.Core.List.{List, [], ◌∷◌, ◌++◌, append_assoc, append-nil}
use lib.Dec.{T, eqb}
use lib.ListN.{length, take, drop, length-take, length-drop}
use lib.Seq.{take-add, take_all, drop-cons}
use borrow.Author.Tests.{eqb-true}
use Rattle.numbers.specs.Bytes.{byte, numbers, words}
use Rattle.numbers.proofs.Bytes.{Bytes, bytes_take, bytes_drop, words_numbers, length-numbers}
use Rattle.images.specs.Image.{Form, front, filled, Blocks, Allowed, allowed, pieces, body_of, bodies, entry_at, start_of, entry_of}
use Rattle.images.specs.Image.{entries, image_of}
use Rattle.images.specs.Table.{kind_at, offset_at, length_at, begins, ends, well_formed, blocks_in}
use Rattle.images.proofs.Table.{both, Entry, zeros, body, ends_rise, Tabled, tabled_gives}
use Rattle.images.proofs.Lengths.{start_next}

five : (l : List ℕ) (at : ℕ) → at + 5 ≤ length l
    → take 5 (drop at l) ≡ byte at l ∷ byte (at + 1) l ∷ byte (at + 1 + 1) l ∷ byte (at + 3) l ∷ byte (at + 3 + 1) l ∷ []
five l at room =
    let e₂ : at + 1 + 1 ≡ suc (suc at) = omega arith in
    let e₃ : at + 3 ≡ suc (suc (suc at)) = omega arith in
    let e₄ : at + 3 + 1 ≡ suc (suc (suc (suc at))) = omega arith in
    rw (
      e₂,
      e₄,
      e₃,
      add-one,
      drop-cons l at 0 (omega arith),
      drop-cons l (suc at) 0 (omega arith),
      drop-cons l (suc (suc at)) 0 (omega arith),
      drop-cons l (suc (suc (suc at))) 0 (omega arith),
      drop-cons l (suc (suc (suc (suc at)))) 0 (omega arith),
    )

begun_head : (head image : List ℕ) → begins head image ≡ true → take (length head) image ≡ head
begun_head [] image h = refl
begun_head (b ∷ head) [] h = let z : ◌≡◌ {A = ℕ} 0 1 = cc in absurd (omega arith)
begun_head (b ∷ head) (x ∷ image) h =
    let two = both (eqb b x) (begins head image) h in rw (begun_head head image two.1, eqb-true b x two.0)

-- 48 or 50 bytes are 24 or 25 numbers
data Half (size : ℕ) : Type 0 where
  half : (count : ℕ) → size ≡ 2 * count → (eqb count 24 || eqb count 25) ≡ true → Half size

halved : (size : ℕ) → (eqb size 48 || eqb size 50) ≡ true → Half size
halved size two = by (eqb size 48) (eqb size 50) refl refl two
  where
    by : (a b : Bool) → eqb size 48 ≡ a → eqb size 50 ≡ b → (a || b) ≡ true → Half size
    by true b p q h = half 24 (eqb-true size 48 p) refl
    by false true p q h = half 25 (eqb-true size 50 q) refl
    by false false p q h = let z : ◌≡◌ {A = ℕ} 0 1 = cc in absurd (omega arith)

module _ (form : Form) (image : List ℕ) (h : well_formed form image ≡ true) (small : Bytes image) where
  abbrev before : ℕ
  before = front form

  abbrev n : ℕ
  n = form.blocks

  abbrev at : ℕ → ℕ
  at k = entry_at before k

  abbrev read : Blocks
  read = blocks_in form image

  head_is : take before image ≡ form.head
  unfolding well_formed
  head_is = begun_head form.head image (both (begins form.head image) _ h).0

  t : Tabled before n image
  unfolding well_formed
  t = tabled_gives before n image (both (begins form.head image) _ h).1

  -- the body of block k, filled or empty, is what stands where the bodies before it end
  abbrev span : ℕ → List ℕ
  span k = take (length_at image (at k)) (drop (ends before n image k) image)

  length-span : (k : ℕ) → k < n → length (span k) ≡ length_at image (at k)
  unfolding ends
  length-span k below =
      let upto : suc k ≤ n = below in
      simp (length-take, length-drop) (omega (arith, ends_rise before n image n (suc k) upto, t.whole))

  bytes_of : (k : ℕ) → Bytes (span k)
  bytes_of k =
      bytes_take (length_at image (at k)) (drop (ends before n image k) image) (bytes_drop (ends before n image k) image small)

  -- what the entry of block k tells of it
  record OfEntry (k : ℕ) : Type 0 where
    right : T (allowed (read k))
    body_is : body_of (read k) ≡ span k
    entry_is : take 5 (drop (at k) image) ≡ entry_of (read k) (ends before n image k)

  module _ (k : ℕ) (below : k < n) where
    abbrev e : ℕ
    e = ends before n image k

    bytes_are :
        take 5 (drop (at k) image)
        ≡ byte (at k) image ∷ byte (at k + 1) image ∷ byte (at k + 1 + 1) image
        ∷ byte (at k + 3) image ∷ byte (at k + 3 + 1) image ∷ []
    bytes_are = five image (at k) (omega (arith, t.room))

    of_zeros : kind_at image (at k) ≡ 0 → offset_at image (at k) ≡ 0 → length_at image (at k) ≡ 0 → OfEntry k
    unfolding blocks_in
    of_zeros kind offset long =
        let o₁ : byte (at k + 1) image ≡ 0 = omega (arith, offset) in
        let o₂ : byte (at k + 1 + 1) image ≡ 0 = omega (arith, offset) in
        let l₁ : byte (at k + 3) image ≡ 0 = omega (arith, long) in
        let l₂ : byte (at k + 3 + 1) image ≡ 0 = omega (arith, long) in
        record { right = rw kind tt; body_is = rw (kind, long); entry_is = bytes_are ∙ rw (kind, o₂, o₁, l₂, l₁) }

    of_half :
        (count : ℕ) → length_at image (at k) ≡ 2 * count → (eqb count 24 || eqb count 25) ≡ true
        → kind_at image (at k) ≡ 1
        → offset_at image (at k) ≡ e
        → OfEntry k
    unfolding blocks_in
    of_half count twice counted kind offset =
        let length-is : length (span k) ≡ 2 * count = length-span k below ∙ twice in
        let half_is : length (span k) / 2 ≡ count = omega arith in
        let back : words (numbers count 0 (span k)) ≡ span k = words_numbers count (span k) length-is (bytes_of k) in
        let read_is : read k ≡ filled (numbers count 0 (span k)) = rw (kind, offset, half_is) in
        let o₁ : e / 256 ≡ byte (at k + 1) image = omega (arith, offset, small (at k + 1 + 1)) in
        let o₂ : e % 256 ≡ byte (at k + 1 + 1) image = omega (arith, offset, small (at k + 1 + 1)) in
        let l₁ : length (span k) / 256 ≡ byte (at k + 3) image = omega (arith, length-span k below, small (at k + 3 + 1)) in
        let l₂ : length (span k) % 256 ≡ byte (at k + 3 + 1) image = omega (arith, length-span k below, small (at k + 3 + 1)) in
        record {
          right = rw (read_is, length-numbers count 0 (span k), counted) tt;
          body_is = rw read_is back;
          entry_is = bytes_are ∙ rw (read_is, back, kind, o₁, o₂, l₁, l₂);
        }

    of_entry : OfEntry k
    of_entry = by (t.entries k below)
      where
        by : Entry image (at k) e → OfEntry k
        by (zeros kind offset long) = of_zeros kind offset long
        by (body kind offset two) = with (halved (length_at image (at k)) two)
          where
            with : Half (length_at image (at k)) → OfEntry k
            with (half count twice counted) = of_half count twice counted kind offset

  ends_are : (k : ℕ) → k ≤ n → ends before n image k ≡ start_of form read k
  unfolding ends pieces
  ends_are zero within = omega arith
  ends_are (suc k) within =
      rw (start_next form read k, ends_are k (omega arith), (of_entry k (omega arith)).body_is, length-span k (omega arith))

  bodies_are : (k : ℕ) → k ≤ n → take (ends before n image k) image ≡ take (at n) image ++ bodies read k
  unfolding ends pieces
  bodies_are zero within = sym (append-nil _)
  bodies_are (suc k) within = rw (take-add, bodies_are k (omega arith), (of_entry k (omega arith)).body_is) (simp append_assoc)

  entries_are : (k : ℕ) → k ≤ n → take (at k) image ≡ take before image ++ entries form read k
  unfolding pieces
  entries_are zero within = let none : at 0 ≡ before = omega arith in rw none (sym (append-nil _))
  entries_are (suc k) within =
      let more : at (suc k) ≡ at k + 5 = omega arith in
      rw (more, take-add, entries_are k (omega arith), (of_entry k (omega arith)).entry_is, ends_are k (omega arith)) (simp append_assoc)

  pub blocks_allowed : Allowed form read
  blocks_allowed k below = (of_entry k below).right

  pub image_is : image ≡ image_of form read
  unfolding image_of
  image_is =
      sym (take_all (ends before n image n) image (omega (arith, t.whole)))
      ∙ bodies_are n (omega arith)
      ∙ ap (λ (l : List ℕ). l ++ bodies read n)
      (entries_are n (omega arith) ∙ ap (λ (l : List ℕ). l ++ entries form read n) head_is)
      ∙ append_assoc form.head (entries form read n) (bodies read n)
