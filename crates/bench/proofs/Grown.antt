-- What stands at the front of bytes stands there, too, when more have come behind them, unless it was no byte or a part of a record: N
-- asks its letter, its count and the length alone, B its letter and its length, and the others are read as `shiftline` reads them.
use mathlib.Core.Path.{◌≡◌, refl}
use mathlib.Core.Bool.{Bool, true, false, cond}
use mathlib.Core.List.{List, [], ◌∷◌, ◌++◌}
use Prim.Native.Nat.{ℕ, ◌+◌, ◌-◌, ◌≤◌, max}
use Prim.Native.Char.{code}
use native.Mathlib.Omega.{arith}
use lib.Dec.{eqb, ltb}
use lib.ListN.{length, take, drop, length-append, length-drop}
use lib.Seq.{take-append-le, drop-append-le, length-take-le}
use borrow.Author.Tests.{ltb-true, ltb-false, le-ltb}
use Rattle.numbers.specs.Bytes.{byte, number, numbers}
use Rattle.drive.specs.AnyCall.{Call}
use Rattle.records.specs.Front as shiftline
use Rattle.records.proofs.MoreBytes as shiftline-grown
use Rattle.numbers.proofs.Bytes.{length-numbers, byte_kept, numbers_kept}
use Rattle.streams.specs.Run.{Front, end, unknown, short, whole}
use Rattle.streams.proofs.Grown as streams
use Rattle.streams.proofs.Grown.{no_byte, no_record, a_part, a_record}
use Rattle.bench.specs.Table.{Record, as_in_shiftline, numbered, imaged, numbered_size, imaged_size, longest_image, size_of}
use Rattle.bench.specs.Table.{as_shiftline, numbered_front, imaged_front, front}
use Rattle.bench.specs.Benchline.{most_held}

-- the record is read off the bytes
abbrev pub ReadOff : List ℕ → Record → Type 0
ReadOff bytes (as_in_shiftline call) = shiftline-grown.ReadOff bytes call
ReadOff bytes (numbered given) = given ≡ numbers (byte 1 bytes) 2 bytes
ReadOff bytes (imaged block image) = image ≡ take (length image) (drop 4 bytes)

-- how many bytes a part of a record can have, by its count or by the longest image
abbrev pub most_of : List ℕ → ℕ
most_of bytes = max most_held (numbered_size (byte 1 bytes) - 1)

-- what stands at the front of the bytes `a`, and what stands there when more have come
abbrev pub Grown : List ℕ → Front Record → Front Record → Type 0
Grown a f g = streams.Grown size_of ReadOff (most_of a) a f g

as_before : (a : List ℕ) (f g : Front Call) → shiftline-grown.Grown a f g → Grown a (as_shiftline f) (as_shiftline g)
as_before a end g (no_byte none) = no_byte none
as_before a unknown unknown no_record = no_record
as_before a unknown end below = elim below [ ]
as_before a unknown short below = elim below [ ]
as_before a unknown (whole _) below = elim below [ ]
as_before a short g (a_part few) = a_part (omega arith)
as_before a (whole _) (whole _) (a_record call off all) = a_record (as_in_shiftline call) off all
as_before a (whole _) end below = elim below [ ]
as_before a (whole _) unknown below = elim below [ ]
as_before a (whole _) short below = elim below [ ]

module _ (a b : List ℕ) where
  numbered_grown : (few : Bool) → ltb (length a) (numbered_size (byte 1 a)) ≡ few
      → Grown a (numbered_front a) (numbered_front (a ++ b))
  numbered_grown true e = rw e (a_part (omega (arith, ltb-true (length a) (numbered_size (byte 1 a)) e)))
  numbered_grown false e =
      let all : numbered_size (byte 1 a) ≤ length a = ltb-false (length a) (numbered_size (byte 1 a)) e in
      let enough : numbered_size (byte 1 a) ≤ length (a ++ b) = omega (arith, all, length-append a b) in
      let size : size_of (numbered (numbers (byte 1 a) 2 a)) ≤ length a = rw (length-numbers (byte 1 a) 2 a) all in
      rw (
        e,
        byte_kept a b 1 (omega (arith, all)),
        le-ltb (length (a ++ b)) (numbered_size (byte 1 a)) enough,
        numbers_kept a b (byte 1 a) 2 all,
      )
      (a_record (numbered (numbers (byte 1 a) 2 a)) refl size)

  imaged_grown : (few long cut : Bool)
      → ltb (length a) 4 ≡ few
      → ltb longest_image (number 2 a) ≡ long
      → ltb (length a) (imaged_size (number 2 a)) ≡ cut
      → Grown a (imaged_front a) (imaged_front (a ++ b))
  imaged_grown true long cut e f g = rw e (a_part (omega (arith, ltb-true (length a) 4 e)))
  imaged_grown false true cut e f g =
      let four : 4 ≤ length a = ltb-false (length a) 4 e in
      let more : 4 ≤ length (a ++ b) = omega (arith, length-append a b) in
      rw (e, f, le-ltb (length (a ++ b)) 4 more, byte_kept a b 2 (omega arith), byte_kept a b (2 + 1) (omega arith), f) no_record
  imaged_grown false false true e f g =
      rw (e, f, g)
      (a_part (omega (arith, ltb-true (length a) (imaged_size (number 2 a)) g, ltb-false longest_image (number 2 a) f)))
  imaged_grown false false false e f g =
      let four : 4 ≤ length a = ltb-false (length a) 4 e in
      let all : imaged_size (number 2 a) ≤ length a = ltb-false (length a) (imaged_size (number 2 a)) g in
      let more : 4 ≤ length (a ++ b) = omega (arith, length-append a b) in
      let enough : imaged_size (number 2 a) ≤ length (a ++ b) = omega (arith, length-append a b) in
      let inside : number 2 a ≤ length (drop 4 a) = omega (arith, length-drop 4 a) in
      let long : length (take (number 2 a) (drop 4 a)) ≡ number 2 a = length-take-le (number 2 a) (drop 4 a) inside in
      rw (
        e,
        f,
        g,
        le-ltb (length (a ++ b)) 4 more,
        byte_kept a b 2 (omega arith),
        byte_kept a b (2 + 1) (omega arith),
        f,
        le-ltb (length (a ++ b)) (imaged_size (number 2 a)) enough,
        byte_kept a b 1 (omega arith),
        drop-append-le 4 a b four,
        take-append-le (number 2 a) (drop 4 a) b inside,
      )
      (a_record (imaged (byte 1 a) (take (number 2 a) (drop 4 a))) (rw long) (rw long all))

  by_letter : (n b' : Bool)
      → Grown a (cond n (numbered_front a) (cond b' (imaged_front a) (as_shiftline (shiftline.front a))))
      (cond n (numbered_front (a ++ b)) (cond b' (imaged_front (a ++ b)) (as_shiftline (shiftline.front (a ++ b)))))
  by_letter true b' = numbered_grown (ltb (length a) (numbered_size (byte 1 a))) refl
  by_letter false true =
      imaged_grown (ltb (length a) 4) (ltb longest_image (number 2 a)) (ltb (length a) (imaged_size (number 2 a))) refl refl refl
  by_letter false false = as_before a (shiftline.front a) (shiftline.front (a ++ b)) (shiftline-grown.grown a b)

pub no_front : front [] ≡ end
unfolding front shiftline.front
no_front = refl

pub grown : (a b : List ℕ) → Grown a (front a) (front (a ++ b))
unfolding front
grown [] b = rw no_front (no_byte refl)
grown (x ∷ l) b = by_letter (x ∷ l) b (eqb x (code "N")) (eqb x (code "B"))
