-- `benchline` is a program of records, so that what `streams` shows of them holds of it.
use mathlib.Core.Path.{◌≡◌}
use mathlib.Core.List.{List, [], ◌∷◌}
use Prim.Native.Nat.{ℕ, ◌+◌, ◌*◌, ◌≤◌, ◌<◌}
use native.Mathlib.Omega.{arith}
use lib.ListN.{length}
use Rattle.numbers.proofs.Bytes.{Bytes, bytes_drop, bytes_append}
use Rattle.drive.specs.AnyCall.{reply}
use Rattle.records.proofs.Sizes.{at_least_shortest}
use Rattle.streams.specs.Run.{end}
use Rattle.streams.specs.Stream.{Lawful, Held, Roomy}
use Rattle.streams.proofs.Stream.{by_the_shortest}
use Rattle.streams.proofs.Grown.{none, few, within, still_unknown, still_whole}
use Rattle.bench.specs.Table.{Record, as_in_shiftline, numbered, imaged, call_of, size_of, front}
use Rattle.bench.specs.Line.{line_room}
use Rattle.bench.specs.Benchline.{benchline, input_size, output_size, most_held}
use Rattle.bench.proofs.Grown.{ReadOff, most_of, no_front, grown}
use Rattle.bench.proofs.Lengths.{line_fits, refusal_fits}

a_byte : (r : Record) → 0 < size_of r
a_byte (as_in_shiftline call) = omega (arith, at_least_shortest call)
a_byte (numbered given) = omega arith
a_byte (imaged block image) = omega arith

empty : (bytes : List ℕ) → length bytes ≡ 0 → front bytes ≡ end
empty [] none = no_front
empty (x ∷ bytes) none = absurd (omega (arith, none))

pub lawful : Lawful benchline
lawful =
    record {
      most = line_room;
      per = 1;
      some = omega arith;
      most_fit = omega arith;
      a_byte = a_byte;
      fits = λ d bytes r is. line_fits (reply d (call_of r)).answer;
      at_rate = λ d bytes r is. by_the_shortest 1 line_room (a_byte r) (line_fits (reply d (call_of r)).answer);
      refusal_fits = λ d. refusal_fits;
      empty = empty;
      none = none benchline ReadOff most_of grown;
      within = within benchline ReadOff most_of grown;
      still_unknown = still_unknown benchline ReadOff most_of grown;
      still_whole = still_whole benchline ReadOff most_of grown;
    }

-- the lines of everything that the input can hold have room, were each byte a record
pub roomy : Roomy benchline lawful output_size input_size
unfolding lawful
roomy = let all : line_room * input_size + 1 * line_room ≤ 1 * output_size = omega arith in all

abbrev pub held : Held benchline most_held
held =
    record {
      Sound = Bytes;
      sound_drop = bytes_drop;
      sound_append = bytes_append;
      part = λ bytes sound is. omega (arith, few benchline ReadOff most_of grown bytes is, sound 1);
    }
