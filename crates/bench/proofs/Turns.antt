-- What a run with fuel for one record comes to, by what the reader's answer says.
use Prim.Native.Nat.{ℕ, ◌≤◌, ◌<◌}
use mathlib.Core.Path.{◌≡◌, refl, sym, ap, ◌∙◌}
use mathlib.Core.Bool.{Bool, true, false}
use mathlib.Core.List.{List}
use lib.ListN.{length, take, drop}
use Rattle.std.specs.Prelude.{Ok, Err}
use Rattle.drive.specs.AnyCall.{asked, reply}
use Rattle.drive.specs.Blocks.{block_load}
use Rattle.drive.specs.Calls.{load}
use Rattle.drive.specs.declared.Drive.{Drive}
use Rattle.drive.specs.declared.answer.Reply.{Reply}
use Rattle.numbers.specs.Bytes.{numbers}
use Rattle.records.proofs.WhatIsFound.{replied_alike}
use Rattle.records.specs.declared.Record.{Record as Read}
use Rattle.records.specs.declared.Missing.TheVariants.{End, Unknown, Short}
use Rattle.streams.specs.Run.{whole, Outcome, rest, lined, refused, runs}
use Rattle.streams.proofs.ByFront.{at_tight, one_front, one_whole}
use Rattle.bench.specs.Table.{Record, as_in_shiftline, numbered, imaged, call_of, size_of, numbered_size, imaged_size, front, found}
use Rattle.bench.specs.Line.{motor_line, line_room}
use Rattle.bench.specs.Benchline.{benchline}
use Rattle.bench.specs.declared.find.Found.TheVariants.{Shiftline, Numbered, Imaged}
use Rattle.bench.proofs.Laws.{lawful}
use Rattle.bench.proofs.Meaning.{meaning}

-- the line of a reply, for so many bytes
abbrev replied : Reply → ℕ → Outcome Drive
replied said size = lined (motor_line said.answer) said.drive size false

module _ (closed : Bool) (room : ℕ) (bytes : List ℕ) (d : Drive) where
  pub tight : room < line_room → runs benchline 1 closed room bytes d ≡ rest d
  tight small = at_tight benchline 0 closed room bytes d small

  module _ (wide : line_room ≤ room) where
    pub at_end : Err End ≡ found (front bytes) → runs benchline 1 closed room bytes d ≡ rest d
    at_end known = one_front benchline closed room bytes d wide (meaning bytes (Err End) known)

    pub at_unknown : Err Unknown ≡ found (front bytes) → runs benchline 1 closed room bytes d ≡ refused benchline d
    at_unknown known = one_front benchline closed room bytes d wide (meaning bytes (Err Unknown) known)

    -- a part of a record is refused where no more comes
    pub at_short : Err Short ≡ found (front bytes) → closed ≡ false → runs benchline 1 closed room bytes d ≡ rest d
    at_short known more = rw (one_front benchline closed room bytes d wide (meaning bytes (Err Short) known), more)

    pub at_cut : Err Short ≡ found (front bytes) → closed ≡ true → runs benchline 1 closed room bytes d ≡ refused benchline d
    at_cut known shut = rw (one_front benchline closed room bytes d wide (meaning bytes (Err Short) known), shut)

    wholly : (r : Record) → front bytes ≡ whole r → {said : Reply} → said ≡ reply d (call_of r) → {size : ℕ} → size ≡ size_of r
        → runs benchline 1 closed room bytes d ≡ replied said size
    wholly r is same long = one_whole benchline closed room bytes d wide r is ∙ rw (same, long)

    pub at_shiftline : (read : Read) → Ok (Shiftline read) ≡ found (front bytes)
        → runs benchline 1 closed room bytes d ≡ replied (reply d (asked read.call)) read.size
    at_shiftline read known =
        let there = meaning bytes (Ok (Shiftline read)) known in
        wholly (as_in_shiftline there.call) there.is (replied_alike d there.means) there.size_is

    pub at_numbered : (count : ℕ) → Ok (Numbered count) ≡ found (front bytes)
        → runs benchline 1 closed room bytes d ≡ replied (load d (numbers count 2 bytes)) (numbered_size count)
    at_numbered count known =
        let there = meaning bytes (Ok (Numbered count)) known in
        wholly (numbered (numbers count 2 bytes)) there.is refl (ap numbered_size (sym there.size_is))

    pub at_imaged : (block size : ℕ) → Ok (Imaged block size) ≡ found (front bytes)
        → runs benchline 1 closed room bytes d ≡ replied (block_load d (take size (drop 4 bytes)) block) (imaged_size size)
    at_imaged block size known =
        let there = meaning bytes (Ok (Imaged block size)) known in
        wholly (imaged block (take size (drop 4 bytes))) there.is refl (ap imaged_size (sym there.size_is))

-- the image of a block load is all there
pub image_inside : (bytes : List ℕ) (block size : ℕ) → Ok (Imaged block size) ≡ found (front bytes) → imaged_size size ≤ length bytes
image_inside bytes block size known = (meaning bytes (Ok (Imaged block size)) known).inside

pub ruleset turns = (tight, at_end, at_unknown, at_short, at_cut, at_shiftline, at_numbered, at_imaged, image_inside, lawful)
