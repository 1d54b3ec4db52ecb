-- Document 02, M-102: "A block load call reads a block and loads its body".
use Rattle.std.specs.Prelude.{ℕ, true, cond, ◌&&◌, List, ◌++◌}
use Rattle.faults.specs.Word.{flag, ◌or◌}
use Rattle.states.specs.States.{is}
use Rattle.settings.specs.Settings.{meant}
use Rattle.verdicts.specs.Table.{Row, verdict}
use Rattle.images.specs.Image.{fifteen}
use Rattle.images.specs.Table.{numbers_in}
use Rattle.images.specs.Reads.{read_rows, is_read, part}
use Rattle.drive.specs.Refusals.{load_rows}
use Rattle.drive.specs.Calls.{becomes, loaded, settle}
use Rattle.drive.specs.declared.Drive.{Drive}
use Rattle.drive.specs.declared.answer.Reply.{Reply}

-- the numbers of the body that the reader gives back
abbrev pub block_numbers : (image : List ℕ) (block : ℕ) → List ℕ
block_numbers image block = numbers_in (part fifteen image block)

-- "Refusals: 7 image malformed, then 8 block above 14, then 9 block empty, then load's own."
abbrev pub block_rows : Drive → (image : List ℕ) (block : ℕ) → List Row
block_rows d image block = read_rows fifteen image block ++ load_rows d (block_numbers image block)

-- ".. also sets flag 12": nothing else of the state changes
abbrev pub marked : Drive → Drive
marked d =
    becomes d d.state d.hall (d.flags or flag 12 true) d.cycles d.ticks d.offsets d.run d.armed d.retries

-- The state that a refusal leaves. "A body that it finds and load's own rules refuse in IDLE also sets flag 12 ..; this amends demand 1 and
-- the rule that a refusal changes nothing."
abbrev pub left_by_block : Drive → (image : List ℕ) (block : ℕ) → Drive
left_by_block d image block = cond (is_read fifteen image block && is 0 d.state) (marked d) d

unfoldable pub block_load : Drive → (image : List ℕ) (block : ℕ) → Reply
block_load d image block =
    settle (verdict (block_rows d image block)) (loaded (meant (block_numbers image block))) (left_by_block d image block)
