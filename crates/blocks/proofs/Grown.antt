-- What stands at the front of bytes stands there, too, when more have come behind them, unless it was no byte or a part of a record: the
-- tests ask the letter, the head, the blocks that are there and the length alone, and a record is read off its own bytes.
use mathlib.Core.Path.{◌≡◌, refl}
use mathlib.Core.Bool.{Bool, true, false, cond}
use mathlib.Core.List.{List, [], ◌∷◌, ◌++◌}
use Prim.Native.Nat.{ℕ, ◌+◌, ◌≤◌}
use Prim.Native.Char.{code}
use native.Mathlib.Omega.{arith}
use lib.Dec.{eqb, ltb}
use lib.Ieee.Bits.{is_true}
use lib.ListN.{length, take, drop, length-append, length-drop}
use lib.Seq.{drop-append-le, take-append-le, length-take-le}
use borrow.Author.Tests.{ltb-true, ltb-false, le-ltb, ne_eqb}
use Rattle.numbers.specs.Bytes.{byte, number}
use Rattle.streams.specs.Run.{Front, end, unknown, short, whole}
use Rattle.streams.proofs.Grown as streams
use Rattle.streams.proofs.Grown.{no_byte, no_record, a_part, a_record}
use Rattle.blocks.specs.Table.{Record, reads, chooses, writes, most_bytes, head_size, chooses_size, size_of}
use Rattle.blocks.specs.Table.{place_of, bad_kind, blocks_of, reads_front, chooses_front, writes_front, front}
use Rattle.blocks.specs.Blockline.{most_held}
use Rattle.numbers.proofs.Bytes.{byte_kept, number_kept}
use Rattle.blocks.proofs.Places.{at_most, sizes_are, place_kept, still_bad, kinds_kept, blocks_kept}

-- the record is read off the bytes
abbrev pub ReadOff : List ℕ → Record → Type 0
ReadOff bytes (reads block image) = (image ≡ take (length image) (drop head_size bytes)) × (length image ≤ most_bytes)
ReadOff bytes (chooses count) = Unit {0}
ReadOff bytes (writes lent holds blocks) = (blocks ≡ blocks_of bytes 15) × (lent ≤ most_bytes)

-- what stands at the front of the bytes `a`, and what stands there when more have come
abbrev pub Grown : List ℕ → Front Record → Front Record → Type 0
Grown a f g = streams.Grown size_of ReadOff most_held a f g

module _ (a b : List ℕ) where
  -- so many bytes are there or not
  enough : (size : ℕ) {f g : Front Record} → size ≤ most_held + 1 → (size ≤ length a → Grown a f g)
      → Grown a (cond (ltb (length a) size) short f) (cond (ltb (length (a ++ b)) size) short g)
  enough size {f} {g} most all = go (ltb (length a) size) refl
    where
      go : (few : Bool) → ltb (length a) size ≡ few
          → Grown a (cond few short f) (cond (ltb (length (a ++ b)) size) short g)
      go true e = a_part (omega (arith, ltb-true (length a) size e))
      go false e =
          let there : size ≤ length a = ltb-false (length a) size e in
          rw (le-ltb (length (a ++ b)) size (omega (arith, length-append a b))) (all there)

  -- a length or a number of lent bytes is bad or not
  sized : (size : ℕ) {f g : Front Record} → (size ≤ most_bytes → Grown a f g)
      → Grown a (cond (ltb most_bytes size) unknown f) (cond (ltb most_bytes size) unknown g)
  sized size {f} {g} right = go (ltb most_bytes size) refl
    where
      go : (bad : Bool) → ltb most_bytes size ≡ bad → Grown a (cond bad unknown f) (cond bad unknown g)
      go true e = no_record
      go false e = right (ltb-false most_bytes size e)

  reads_grown : Grown a (reads_front a) (reads_front (a ++ b))
  unfolding reads_front
  reads_grown =
      enough head_size (omega arith)
      (λ head. rw (number_kept a b 2 (omega arith), byte_kept a b 1 (omega arith), drop-append-le head_size a b head)
      (sized (number 2 a)
      (λ right. enough (head_size + number 2 a) (omega arith)
      (λ all.
      let inside : number 2 a ≤ length (drop head_size a) = omega (arith, length-drop head_size a) in
      let long = length-take-le (number 2 a) (drop head_size a) inside in
      rw (take-append-le (number 2 a) (drop head_size a) b inside)
      (a_record (reads (byte 1 a) (take (number 2 a) (drop head_size a))) (rw long (refl, right)) (rw long all))))))

  chooses_grown : Grown a (chooses_front a) (chooses_front (a ++ b))
  unfolding chooses_front
  chooses_grown =
      enough chooses_size (omega arith) (λ all. rw (number_kept a b 1 (omega arith)) (a_record (chooses (number 1 a)) tt all))

  -- the blocks: bad ones stay so, and those that are all there stay as they are
  blocks_grown : (lent holds : ℕ) → lent ≤ most_bytes
      → Grown a (cond (bad_kind a 15) unknown (cond (ltb (length a) (place_of a 15)) short (whole (writes lent holds (blocks_of a 15)))))
      (cond (bad_kind (a ++ b) 15) unknown
      (cond (ltb (length (a ++ b)) (place_of (a ++ b) 15)) short (whole (writes lent holds (blocks_of (a ++ b) 15)))))
  blocks_grown lent holds right = go (bad_kind a 15) refl (ltb (length a) (place_of a 15)) refl
    where
      go : (bad : Bool) → bad_kind a 15 ≡ bad → (few : Bool) → ltb (length a) (place_of a 15) ≡ few
          → Grown a (cond bad unknown (cond few short (whole (writes lent holds (blocks_of a 15)))))
          (cond (bad_kind (a ++ b) 15) unknown
          (cond (ltb (length (a ++ b)) (place_of (a ++ b) 15)) short (whole (writes lent holds (blocks_of (a ++ b) 15)))))
      go true e few f = rw (is_true (bad_kind (a ++ b) 15) (still_bad a b 15 (rw e tt))) no_record
      go false e true f = a_part (omega (arith, at_most a 15, ltb-true (length a) (place_of a 15) f))
      go false e false f =
          let all : place_of a 15 ≤ length a = ltb-false (length a) (place_of a 15) f in
          rw (
            kinds_kept a b 15 all,
            e,
            place_kept a b 15 all,
            blocks_kept a b 15 all,
            le-ltb (length (a ++ b)) (place_of a 15) (omega (arith, length-append a b)),
          )
          (a_record (writes lent holds (blocks_of a 15)) (refl, right) (rw (sizes_are a 15) all))

  writes_grown : Grown a (writes_front a) (writes_front (a ++ b))
  unfolding writes_front
  writes_grown =
      enough head_size (omega arith)
      (λ head. rw (number_kept a b 1 (omega arith), byte_kept a b 3 (omega arith))
      (sized (number 1 a) (blocks_grown (number 1 a) (byte 3 a))))

  both : (test : Bool) {f g f' g' : Front Record} → Grown a f f' → Grown a g g'
      → Grown a (cond test f g) (cond test f' g')
  both true p q = p
  both false p q = q

  letters : (letter : ℕ)
      → Grown a
      (cond (eqb letter (code "R")) (reads_front a)
      (cond (eqb letter (code "A")) (chooses_front a) (cond (eqb letter (code "W")) (writes_front a) unknown)))
      (cond (eqb letter (code "R")) (reads_front (a ++ b))
      (cond (eqb letter (code "A")) (chooses_front (a ++ b)) (cond (eqb letter (code "W")) (writes_front (a ++ b)) unknown)))
  letters letter =
      both (eqb letter (code "R")) reads_grown
      (both (eqb letter (code "A")) chooses_grown (both (eqb letter (code "W")) writes_grown no_record))

some : (x : ℕ) (l : List ℕ) → eqb (length (x ∷ l)) 0 ≡ false
some x l = ne_eqb (length (x ∷ l)) 0 (λ none. omega (arith, none))

pub no_front : front [] ≡ end
unfolding front
no_front = refl

pub grown : (a b : List ℕ) → Grown a (front a) (front (a ++ b))
unfolding front
grown [] b = no_byte refl
grown (x ∷ l) b = rw (some x l, some x (l ++ b)) (letters (x ∷ l) b x)
