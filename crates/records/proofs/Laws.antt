-- `shiftline` is a program of records, so that what `streams` shows of them holds of it.
use mathlib.Core.Path.{◌≡◌, refl}
use mathlib.Core.List.{List, [], ◌∷◌}
use Prim.Native.Nat.{ℕ, ◌+◌, ◌*◌, ◌≤◌}
use native.Mathlib.Omega.{arith}
use lib.ListN.{length}
use Rattle.drive.specs.Answer.{reply as shown}
use Rattle.drive.specs.AnyCall.{Call, reply}
use Rattle.drive.specs.declared.Drive.{Drive}
use Rattle.report.specs.Refusals.{line_length}
use Rattle.report.proofs.Fields.{length-line}
use Rattle.streams.specs.Run.{end}
use Rattle.streams.specs.Stream.{Lawful, Held, Roomy}
use Rattle.streams.proofs.Stream.{by_the_shortest}
use Rattle.streams.proofs.Grown.{none, few, within, still_unknown, still_whole}
use Rattle.records.specs.Front.{shortest, front}
use Rattle.records.specs.Run.{shiftline, input_size, output_size, most_held}
use Rattle.records.proofs.MoreBytes.{ReadOff, grown}
use Rattle.records.proofs.Sizes.{at_least_shortest}

empty : (bytes : List ℕ) → length bytes ≡ 0 → front bytes ≡ end
unfolding front
empty [] is = refl
empty (x ∷ bytes) is = absurd (omega (arith, is))

line_fits : (d : Drive) (r : Call) → length (shiftline.line d r) ≤ line_length
line_fits d r = omega (arith, length-line (reply d r).answer)

pub lawful : Lawful shiftline
lawful =
    record {
      most = line_length;
      per = shortest;
      some = omega arith;
      most_fit = omega arith;
      a_byte = λ r. omega (arith, at_least_shortest r);
      fits = λ d bytes r is. line_fits d r;
      at_rate = λ d bytes r is. by_the_shortest shortest line_length (at_least_shortest r) (line_fits d r);
      refusal_fits = λ d. omega (arith, length-line (shown 6 0 d).answer);
      empty = empty;
      none = none shiftline ReadOff (λ _. most_held) grown;
      within = within shiftline ReadOff (λ _. most_held) grown;
      still_unknown = still_unknown shiftline ReadOff (λ _. most_held) grown;
      still_whole = still_whole shiftline ReadOff (λ _. most_held) grown;
    }

-- the lines of everything that the input can hold have room
pub roomy : Roomy shiftline lawful output_size input_size
unfolding lawful
roomy = let all : line_length * input_size + shortest * line_length ≤ shortest * output_size = omega arith in all

-- of any list: no count in a record says how much follows
abbrev pub held : Held shiftline most_held
held =
    record {
      Sound = λ _. Unit {0};
      sound_drop = λ n bytes sound. tt;
      sound_append = λ a b of-a of-b. tt;
      part = λ bytes sound is. few shiftline ReadOff (λ _. most_held) grown bytes is;
    }
