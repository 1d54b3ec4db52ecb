-- `blockline` is a program of records, so that what `streams` shows of them holds of it.
use mathlib.Core.Path.{◌≡◌}
use mathlib.Core.List.{List, [], ◌∷◌}
use Prim.Native.Nat.{ℕ, ◌+◌, ◌*◌, ◌≤◌, ◌<◌}
use native.Mathlib.Omega.{arith}
use lib.ListN.{length}
use Rattle.streams.specs.Run.{end, whole}
use Rattle.streams.specs.Stream.{Lawful, Held, Roomy}
use Rattle.streams.proofs.Grown.{none, few, within, read_off, still_unknown, still_whole}
use Rattle.std.specs.Prelude.{map}
use Rattle.blocks.specs.Table.{handed, Record, reads, chooses, writes, head_size, size_of, sizes_of, front}
use Rattle.blocks.specs.Line.{line_for, line_room}
use Rattle.blocks.specs.Blockline.{blockline, input_size, output_size, most_held}
use Rattle.blocks.proofs.Places.{at_least, sizes_are}
use Rattle.blocks.proofs.Grown.{ReadOff, no_front, grown}
use Rattle.blocks.proofs.Lengths.{reads_length, chooses_length, writes_length, refusal_fits}

a_byte : (r : Record) → 0 < size_of r
a_byte (reads block image) = omega arith
a_byte (chooses count) = omega arith
a_byte (writes lent holds blocks) = omega arith

empty : (bytes : List ℕ) → length bytes ≡ 0 → front bytes ≡ end
empty [] none = no_front
empty (x ∷ bytes) none = absurd (omega (arith, none))

-- So many bytes of line at most for each byte of a record: none has a longer line for its bytes than W whose counts are all 0, of 34 bytes.
abbrev line_rate : ℕ
line_rate = 1267

-- the line of a record that is read off the bytes has room, and no more bytes than the rate allows
fitting : (bytes : List ℕ) (r : Record) → ReadOff bytes r
    → (length (line_for r) ≤ line_room) × (length (line_for r) ≤ line_rate * size_of r)
fitting bytes (reads block image) (off, most) =
    let long = reads_length block image in
    (omega arith, omega arith)
fitting bytes (chooses count) off = (omega (arith, chooses_length count), omega (arith, chooses_length count))
fitting bytes (writes lent holds blocks) (off, most) =
    let long = writes_length lent holds (map handed blocks) in
    let size : 34 ≤ head_size + sizes_of blocks = rw (off, sizes_are bytes 15) (at_least bytes 15) in
    (omega arith, omega arith)

pub fits : (bytes : List ℕ) (r : Record) → front bytes ≡ whole r
    → (length (line_for r) ≤ line_room) × (length (line_for r) ≤ line_rate * size_of r)
fits bytes r is = fitting bytes r (read_off blockline ReadOff (λ _. most_held) grown bytes r is)

pub lawful : Lawful blockline
lawful =
    record {
      most = line_rate;
      per = 1;
      some = omega arith;
      most_fit = omega arith;
      a_byte = a_byte;
      fits = λ s bytes r is. (fits bytes r is).0;
      at_rate = λ s bytes r is. omega (arith, (fits bytes r is).1);
      refusal_fits = λ s. refusal_fits;
      empty = empty;
      none = none blockline ReadOff (λ _. most_held) grown;
      within = within blockline ReadOff (λ _. most_held) grown;
      still_unknown = still_unknown blockline ReadOff (λ _. most_held) grown;
      still_whole = still_whole blockline ReadOff (λ _. most_held) grown;
    }

-- the lines of everything that the input can hold have room
pub roomy : Roomy blockline lawful output_size input_size
unfolding lawful
roomy = let all : line_rate * input_size + 1 * line_room ≤ 1 * output_size = omega arith in all

-- of any list: a length that is too large is told at once
abbrev pub held : Held blockline most_held
held =
    record {
      Sound = λ _. Unit {0};
      sound_drop = λ n bytes sound. tt;
      sound_append = λ a b of-a of-b. tt;
      part = λ bytes sound is. few blockline ReadOff (λ _. most_held) grown bytes is;
    }
