-- What the reader's answer says of the bytes that it read: by what stands at their front.
use Rattle.std.specs.Prelude.{Result, Ok, Err}
use mathlib.Core.Path.{◌≡◌, refl, sym, subst, ap, ◌∙◌}
use mathlib.Core.List.{List, []}
use Prim.Native.Nat.{ℕ, ◌≤◌}
use lib.ListN.{length, take, drop}
use Rattle.drive.specs.AnyCall.{Call, loads, cycles, ticks, block_loads, asked}
use Rattle.numbers.specs.Bytes.{byte, numbers}
use Rattle.numbers.proofs.Bytes.{length-numbers}
use Rattle.records.specs.Front as shiftline
use Rattle.records.specs.declared.Record.{Record as Read}
use Rattle.streams.specs.declared.Missing.{Missing}
use Rattle.streams.specs.declared.Missing.TheVariants.{End, Unknown, Short}
use Rattle.records.proofs.MoreBytes.{ReadOff}
use Rattle.records.proofs.WhatIsFound.{Means, all_25, itself}
use Rattle.streams.specs.Run.{Front, end, unknown, short, whole}
use Rattle.streams.proofs.Grown.{no_byte, no_record, a_part, a_record}
use Rattle.bench.specs.Table.{Record, as_in_shiftline, numbered, imaged, numbered_size, imaged_size, front, found}
use Rattle.bench.specs.declared.find.Found.{Found}
use Rattle.bench.specs.declared.find.Found.TheVariants.{Shiftline, Numbered, Imaged}
use Rattle.bench.proofs.Grown.{Grown, grown}

-- a record of `shiftline`, read off the bytes
pub record Listed (bytes : List ℕ) (read : Read) : Type 0 where
  pub call : Call
  pub is : front bytes ≡ whole (as_in_shiftline call)
  pub means : Means call (asked read.call)
  pub size_is : read.size ≡ shiftline.size_of call
  pub off : ReadOff bytes call
  pub inside : read.size ≤ length bytes

-- a load of so many numbers
pub record Counted (bytes : List ℕ) (count : ℕ) : Type 0 where
  pub is : front bytes ≡ whole (numbered (numbers count 2 bytes))
  pub size_is : length (numbers count 2 bytes) ≡ count
  pub inside : numbered_size count ≤ length bytes

-- a block load from an image of so many bytes
pub record Pictured (bytes : List ℕ) (block size : ℕ) : Type 0 where
  pub is : front bytes ≡ whole (imaged block (take size (drop 4 bytes)))
  pub size_is : length (take size (drop 4 bytes)) ≡ size
  pub inside : imaged_size size ≤ length bytes

abbrev pub Meaning : List ℕ → Result Found Missing → Type 0
Meaning bytes (Err End) = front bytes ≡ end
Meaning bytes (Err Unknown) = front bytes ≡ unknown
Meaning bytes (Err Short) = front bytes ≡ short
Meaning bytes (Ok (Shiftline read)) = Listed bytes read
Meaning bytes (Ok (Numbered count)) = Counted bytes count
Meaning bytes (Ok (Imaged block size)) = Pictured bytes block size

counted : (bytes given : List ℕ) → given ≡ numbers (byte 1 bytes) 2 bytes → numbered_size (length given) ≤ length bytes
    → front bytes ≡ whole (numbered given)
    → Counted bytes (length given)
counted bytes given off all is =
    let many : length given ≡ byte 1 bytes = ap length off ∙ length-numbers (byte 1 bytes) 2 bytes in
    record {
      is = is ∙ ap (λ (l : List ℕ). whole (numbered l)) (off ∙ rw many);
      size_is = length-numbers (length given) 2 bytes;
      inside = all;
    }

pub meaning : (bytes : List ℕ) (said : Result Found Missing) → said ≡ found (front bytes) → Meaning bytes said
meaning bytes said e = subst (Meaning bytes) (sym e) (go (front bytes) (grown bytes []) refl)
  where
    go : (f : Front Record) {g : Front Record} → Grown bytes f g → front bytes ≡ f → Meaning bytes (found f)
    go end (no_byte _) is = is
    go unknown no_record is = is
    go short (a_part _) is = is
    go (whole _) (a_record (as_in_shiftline (loads given)) (known, off) all) is =
        record { call = loads given; is = is; means = all_25 given known; size_is = refl; off = (known, off); inside = all }
    go (whole _) (a_record (as_in_shiftline (cycles fields)) off all) is =
        record { call = cycles fields; is = is; means = itself (cycles fields); size_is = refl; off = off; inside = all }
    go (whole _) (a_record (as_in_shiftline (ticks fields)) off all) is =
        record { call = ticks fields; is = is; means = itself (ticks fields); size_is = refl; off = off; inside = all }
    go (whole _) (a_record (as_in_shiftline (block_loads image block)) none _) is = absurd none
    go (whole _) (a_record (numbered given) off all) is = counted bytes given off all is
    go (whole _) (a_record (imaged block image) off all) is =
        record { is = is ∙ ap (λ (l : List ℕ). whole (imaged block l)) off; size_is = ap length (sym off); inside = all }
