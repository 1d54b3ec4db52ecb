-- How long entries, bodies and images are.
use Prim.Native.Nat.{ℕ, zero, suc, ◌+◌, ◌*◌, ◌≤◌, ◌<◌}
use native.Mathlib.Nat.{mul-suc}
use native.Mathlib.Omega.{arith}
use mathlib.Core.Bool.{true, ◌||◌}
use mathlib.Core.Path.{◌≡◌, refl}
use mathlib.Core.List.{List}
use lib.Dec.{T, eqb, eqb→eq}
use lib.ListN.{length, length-append}
use Rattle.numbers.specs.Bytes.{words}
use Rattle.numbers.proofs.Bytes.{length-words}
use Rattle.numbers.proofs.Tests.{or_cases}
use Rattle.images.specs.Image.{Form, Stored, empty, filled, Blocks, allowed, body_of, start_of, entry_of, entries, image_of, pieces}

pub length-entry : (s : Stored) (start : ℕ) → length (entry_of s start) ≡ 5
length-entry empty start = refl
length-entry (filled numbers) start = refl

-- pieces of one length
pub length-even : (piece : ℕ → List ℕ) (size : ℕ) → ((i : ℕ) → length (piece i) ≡ size) → (k : ℕ)
    → length (pieces piece k) ≡ size * k
unfolding pieces
length-even piece size same zero = omega arith
length-even piece size same (suc k) = rw (length-append, same k, length-even piece size same k, mul-suc)

pub length-entries : (form : Form) (blocks : Blocks) (k : ℕ) → length (entries form blocks k) ≡ 5 * k
length-entries form blocks = length-even _ 5 (λ i. length-entry (blocks i) (start_of form blocks i))

-- an image ends where its last body does
pub length-image : (form : Form) (blocks : Blocks) → length (image_of form blocks) ≡ start_of form blocks form.blocks
unfolding image_of
length-image form blocks =
    rw (length-append, length-append, length-entries form blocks form.blocks) (omega arith)

-- a body more
pub start_next : (form : Form) (blocks : Blocks) (k : ℕ)
    → start_of form blocks (suc k) ≡ start_of form blocks k + length (body_of (blocks k))
unfolding pieces
start_next form blocks k = rw length-append (omega arith)

-- "24 or 25 numbers" are 48 or 50 bytes
pub data Size : Stored → Type 0 where
  none : Size empty
  some : {numbers : List ℕ} → (eqb (length (words numbers)) 48 || eqb (length (words numbers)) 50) ≡ true
      → 0 < length (words numbers)
      → length (words numbers) ≤ 50
      → Size (filled numbers)

pub size : (s : Stored) → T (allowed s) → Size s
size empty t = none
size (filled numbers) t =
    or_cases (eqb (length numbers) 24) (eqb (length numbers) 25) t
    (λ short.
    let long : length (words numbers) ≡ 48 = omega (arith, length-words numbers, eqb→eq (length numbers) 24 short) in
    some {numbers = numbers} (rw long) (omega arith) (omega arith))
    (λ more.
    let long : length (words numbers) ≡ 50 = omega (arith, length-words numbers, eqb→eq (length numbers) 25 more) in
    some {numbers = numbers} (rw long) (omega arith) (omega arith))
