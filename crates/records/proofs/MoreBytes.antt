-- What stands at the front of bytes stands there, too, when more have come behind them, unless it was no byte or a part of a record:
-- the tests ask the letter and the length alone, and a record is read off its own bytes.
use mathlib.Core.Path.{◌≡◌, refl, ap}
use mathlib.Core.Bool.{Bool, true, false, cond}
use mathlib.Core.List.{List, ◌++◌}
use Prim.Native.Nat.{ℕ, ◌+◌, ◌≤◌, ◌<◌}
use Prim.Native.Char.{code}
use native.Mathlib.Omega.{arith}
use lib.Dec.{T, eqb, ltb, ltb→lt}
use lib.ListN.{length, length-append}
use borrow.Author.Tests.{ltb-true, ltb-false, le-ltb, ne_eqb, eqb-true, eqb-false}
use Rattle.settings.specs.Settings.{setting_count, all_settings}
use Rattle.drive.specs.AnyCall.{Call, loads, cycles, ticks, block_loads}
use Rattle.numbers.proofs.Bytes.{byte_kept, number_kept, numbers_kept}
use Rattle.numbers.specs.Bytes.{byte, number, numbers}
use Rattle.records.specs.Decoded.{load_size, counts, settings_of, cycle_size, cycle_of, tick_size, tick_of}
use Rattle.streams.specs.Run.{Front, short, whole}
use Rattle.streams.proofs.Grown as streams
use Rattle.streams.proofs.Grown.{no_byte, no_record, a_part, a_record}
use Rattle.records.specs.Front.{size_of, held, begun, front, longest}
use Rattle.records.specs.Run.{most_held}
use Rattle.records.proofs.Sizes.{length-settings, size_of_load, load_at_most}

-- the record is read off the bytes
abbrev pub ReadOff : List ℕ → Call → Type 0
ReadOff bytes (loads numbers) = (counts (length numbers) ≡ true) × (numbers ≡ settings_of (length numbers) bytes)
ReadOff bytes (cycles fields) = fields ≡ cycle_of bytes
ReadOff bytes (ticks fields) = fields ≡ tick_of bytes
ReadOff bytes (block_loads image block) = ⊥

-- what stands at the front of the bytes `a`, and what stands there when more have come
abbrev pub Grown : List ℕ → Front Call → Front Call → Type 0
Grown a f g = streams.Grown size_of ReadOff most_held a f g

both : {a : List ℕ} (test : Bool) {f g f' g' : Front Call}
    → Grown a f f' → Grown a g g' → Grown a (cond test f g) (cond test f' g')
both true p q = p
both false p q = q

module _ (a b : List ℕ) where
  settings_kept : (count : ℕ) → load_size count ≤ length a → settings_of count (a ++ b) ≡ settings_of count a
  unfolding settings_of
  settings_kept count all = numbers_kept a b count 1 (omega arith)

  -- within the first bytes of a record
  module _ (size : ℕ) (all : size ≤ length a) where
    byte_in : (i : ℕ) → T (ltb i size) → byte i (a ++ b) ≡ byte i a
    byte_in i inside = byte_kept a b i (omega (arith, ltb→lt i size inside))

    number_in : (at : ℕ) → T (ltb (at + 1) size) → number at (a ++ b) ≡ number at a
    number_in at inside = number_kept a b at (omega (arith, ltb→lt (at + 1) size inside))

  cycle_kept : cycle_size ≤ length a → cycle_of (a ++ b) ≡ cycle_of a
  unfolding cycle_of
  cycle_kept all =
      let n = number_in cycle_size all in
      rw (byte_in cycle_size all 1 tt, n 2 tt, n 4 tt)

  tick_kept : tick_size ≤ length a → tick_of (a ++ b) ≡ tick_of a
  unfolding tick_of
  tick_kept all =
      let b = byte_in tick_size all in
      let n = number_in tick_size all in
      rw (b 1 tt, b 2 tt, b 3 tt, n 4 tt, n 6 tt, n 8 tt, n 10 tt, n 12 tt, n 14 tt, n 16 tt, n 18 tt)

  held_grown : (size : ℕ) (r s : Call) → size_of r ≡ size → size ≤ longest → ReadOff a r → (size ≤ length a → s ≡ r)
      → Grown a (held size (length a) r) (held size (length (a ++ b)) s)
  held_grown size r s is at_most off same = go (ltb (length a) size) refl
    where
      go : (few : Bool) → ltb (length a) size ≡ few → Grown a (cond few short (whole r)) (held size (length (a ++ b)) s)
      go true e = a_part (omega (arith, at_most, ltb-true (length a) size e))
      go false e =
          let all : size ≤ length a = ltb-false (length a) size e in
          rw (same all, le-ltb (length (a ++ b)) size (omega (arith, all, length-append a b)))
          (a_record r off (omega (arith, is, all)))

  load_grown : (count : ℕ) → counts count ≡ true
      → Grown a (held (load_size count) (length a) (loads (settings_of count a)))
      (held (load_size count) (length (a ++ b)) (loads (settings_of count (a ++ b))))
  load_grown count known =
      held_grown (load_size count) (loads (settings_of count a)) _ (size_of_load count a known) (load_at_most count known)
      (rw (length-settings count a) (known, refl))
      (λ all. ap loads (settings_kept count all))

  letters : Grown a (begun (byte 0 a) (length a) a) (begun (byte 0 a) (length (a ++ b)) (a ++ b))
  letters =
      both (eqb (byte 0 a) (code "L")) (load_grown setting_count refl)
      (both (eqb (byte 0 a) (code "M")) (load_grown all_settings refl)
      (both (eqb (byte 0 a) (code "C"))
      (held_grown cycle_size (cycles (cycle_of a)) _ refl (omega arith) refl (λ all. ap cycles (cycle_kept all)))
      (both (eqb (byte 0 a) (code "T"))
      (held_grown tick_size (ticks (tick_of a)) _ refl (omega arith) refl (λ all. ap ticks (tick_kept all))) no_record)))

  begun_grown : (none : Bool) → eqb (length a) 0 ≡ none → Grown a (front a) (front (a ++ b))
  unfolding front
  begun_grown true e = rw e (no_byte (eqb-true (length a) 0 e))
  begun_grown false e =
      let some : 0 < length a = omega (arith, eqb-false (length a) 0 e) in
      rw (e, ne_eqb (length (a ++ b)) 0 (λ none. omega (arith, none, length-append a b)), byte_kept a b 0 some) letters

  pub grown : Grown a (front a) (front (a ++ b))
  grown = begun_grown (eqb (length a) 0) refl
