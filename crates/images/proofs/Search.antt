-- What the search for a block tells: a number is that of the first row that holds, and a part that is found lies inside the image.
use Prim.Native.Nat.{ℕ, ◌+◌, ◌/◌, ◌≤◌, ◌<◌}
use native.Mathlib.Omega.{arith}
use mathlib.Core.Path.{◌≡◌, refl}
use mathlib.Core.Bool.{Bool, true, false, not, ◌&&◌, ◌||◌}
use mathlib.Core.List.{List}
use lib.Dec.{eqb, leb, eqb→eq}
use lib.ListN.{length, length-take, length-drop}
use borrow.Author.Tests.{eqb-true, leb-true, leb-false}
use Rattle.numbers.proofs.Tests.{or_cases}
use Rattle.std.specs.Prelude.{Result, Ok, Err, IfOk, ◌-◌}
use Rattle.std.specs.Result.{result_unwrap_or}
use Rattle.std.specs.declared.ops.Range.{Range}
use Rattle.verdicts.specs.declared.Refusal.{Refusal}
use Rattle.std.proofs.lemmas.Bool.{not-false}
use Rattle.images.specs.Image.{Form, front, entry_at}
use Rattle.images.specs.Table.{begins, kind_at, ends, tabled, well_formed, is_filled, start_at, size_at}
use Rattle.images.specs.Reads.{found_of, found_by, found, part}
use Rattle.images.proofs.Table.{both, Entry, zeros, body, tabled_gives, inside}

-- what it is to be found: the four ways
pub data Way (formed : Bool) (before blocks : ℕ) (image : List ℕ) (block : ℕ) : Type 0 where
  malformed : formed ≡ false → found_of formed before blocks image block ≡ record { number = 7; start = 0; size = 0 }
      → Way formed before blocks image block
  above : formed ≡ true → blocks ≤ block → found_of formed before blocks image block ≡ record { number = 8; start = 0; size = 0 }
      → Way formed before blocks image block
  empty : formed ≡ true → block < blocks → is_filled before image block ≡ false
      → found_of formed before blocks image block ≡ record { number = 9; start = 0; size = 0 }
      → Way formed before blocks image block
  there : formed ≡ true → block < blocks → is_filled before image block ≡ true
      → found_of formed before blocks image block
      ≡ record { number = 0; start = start_at before image block; size = size_at before image block }
      → Way formed before blocks image block

pub way : (formed : Bool) (before blocks : ℕ) (image : List ℕ) (block : ℕ) → Way formed before blocks image block
unfolding found_of
way formed before blocks image block = by formed (leb blocks block) (is_filled before image block) refl refl refl
  where
    by : (f a e : Bool) → formed ≡ f → leb blocks block ≡ a → is_filled before image block ≡ e
        → Way formed before blocks image block
    by false a e p q r = malformed p (rw p)
    by true true e p q r = above p (leb-true blocks block q) (rw (p, q))
    by true false false p q r = empty p (leb-false blocks block q) r (rw (p, q, r))
    by true false true p q r = there p (leb-false blocks block q) r (rw (p, q, r))

-- "the part of the caller's image": it lies inside
pub found_inside :
    (begun : Bool) (before blocks : ℕ) (image : List ℕ) (block : ℕ)
    → (found_of (begun && tabled before blocks image) before blocks image block).start
    + (found_of (begun && tabled before blocks image) before blocks image block).size
    ≤ length image
found_inside begun before blocks image block = by (way (begun && tabled before blocks image) before blocks image block)
  where
    by : Way (begun && tabled before blocks image) before blocks image block
        → (found_of (begun && tabled before blocks image) before blocks image block).start
        + (found_of (begun && tabled before blocks image) before blocks image block).size
        ≤ length image
    by (malformed formed is) = rw is (omega arith)
    by (above formed high is) = rw is (omega arith)
    by (empty formed below none is) = rw is (omega arith)
    by (there formed below full is) =
        let t = tabled_gives before blocks image (both begun _ formed).1 in
        rw is (inside before blocks image t block below (eqb-true _ _ full))

-- and so of a block that no row of the reader refuses
pub passed_inside :
    (begun : Bool) (before blocks : ℕ) (image : List ℕ) (block : ℕ)
    → not (begun && tabled before blocks image) ≡ false
    → leb blocks block ≡ false
    → not (is_filled before image block) ≡ false
    → start_at before image block + size_at before image block ≤ length image
unfolding found_of
passed_inside begun before blocks image block formed below full =
    rw (not-false _ formed, below, not-false _ full) at (found_inside begun before blocks image block)

-- the part that the code takes: what is found, and of a refused search the empty part at the first byte
pub record Taken (r : Result (Range ℕ) Refusal) (place : Range ℕ) (whole : ℕ) : Type 0 where
  pub rises : place.start ≤ place.end
  pub within : place.end ≤ whole
  pub start : (found_by r).start ≡ place.start
  pub size : (found_by r).size ≡ place.end - place.start

pub taken :
    (r : Result (Range ℕ) Refusal) (whole : ℕ)
    → IfOk r (λ place. (place.start ≤ place.end) × (place.end ≤ whole))
    → Taken r (result_unwrap_or r (record { start = 0; end = 0 })) whole
taken (Ok place) whole inside = record { rises = inside.0; within = inside.1; start = refl; size = refl }
taken (Err refusal) whole inside = record { rises = omega arith; within = omega arith; start = refl; size = refl }

-- what is known of a block that is found: its entry says where it lies, inside the image, and it has 48 or 50 bytes
pub record Located (form : Form) (image : List ℕ) (block : ℕ) : Type 0 where
  pub start : (found form image block).start ≡ start_at (front form) image block
  pub size : (found form image block).size ≡ size_at (front form) image block
  pub two : (eqb (size_at (front form) image block) 48 || eqb (size_at (front form) image block) 50) ≡ true
  pub within : start_at (front form) image block + size_at (front form) image block ≤ length image

pub located : (form : Form) (image : List ℕ) (block : ℕ) → (found form image block).number ≡ 0 → Located form image block
unfolding well_formed
located form image block none = by (way (well_formed form image) (front form) form.blocks image block)
  where
    of_entry : Entry image (entry_at (front form) block) (ends (front form) form.blocks image block)
        → kind_at image (entry_at (front form) block) ≡ 1
        → (eqb (size_at (front form) image block) 48 || eqb (size_at (front form) image block) 50) ≡ true
    of_entry (zeros kind offset size) full = absurd (omega (arith, kind, full))
    of_entry (body kind offset two) full = two

    by : Way (well_formed form image) (front form) form.blocks image block → Located form image block
    by (malformed formed is) = let z : ◌≡◌ {A = ℕ} 7 0 = rw is at none in absurd (omega arith)
    by (above formed high is) = let z : ◌≡◌ {A = ℕ} 8 0 = rw is at none in absurd (omega arith)
    by (empty formed below vacant is) = let z : ◌≡◌ {A = ℕ} 9 0 = rw is at none in absurd (omega arith)
    by (there formed below full is) =
        let t = tabled_gives (front form) form.blocks image (both (begins form.head image) _ formed).1 in
        record {
          start = rw is;
          size = rw is;
          two = of_entry (t.entries block below) (eqb-true _ _ full);
          within = inside (front form) form.blocks image t block below (eqb-true _ _ full);
        }

-- the part that holds it is as long as its entry says
pub length_part : (form : Form) (image : List ℕ) (block : ℕ) → Located form image block
    → length (part form image block) ≡ size_at (front form) image block
length_part form image block at =
    let room = at.within in rw (at.start, at.size) (simp (length-take, length-drop) (omega arith))

-- a block that is found has 24 or 25 numbers
pub found_counts :
    (form : Form) (image : List ℕ) (block : ℕ)
    → (found form image block).number ≡ 0
    → (eqb (length (part form image block) / 2) 24 || eqb (length (part form image block) / 2) 25) ≡ true
found_counts form image block none =
    let at = located form image block none in
    let size = size_at (front form) image block in
    rw (length_part form image block at)
    (or_cases (eqb size 48) (eqb size 50) (rw at.two tt) (λ e. rw (eqb→eq size 48 e)) (λ e. rw (eqb→eq size 50 e)))
