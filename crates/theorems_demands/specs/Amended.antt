-- Demand 1: "Bad input is refused with the number and place in document 01; the drive state and any lent bytes then stand as before."
-- Document 02, M-102: "A body that it finds and load's own rules refuse in IDLE also sets flag 12 ..; this amends demand 1 and the rule
-- that a refusal changes nothing."
use Rattle.std.specs.Prelude.{Bool, true, false, ◌&&◌, List}
use Rattle.verdicts.specs.Table.{Row}
use Rattle.states.specs.States.{is}
use Rattle.images.specs.Image.{fifteen}
use Rattle.images.specs.Reads.{is_read}
use Rattle.drive.specs.Refusals.{load_rows, cycle_rows, tick_rows}
use Rattle.drive.specs.Blocks.{block_rows}
use Rattle.drive.specs.AnyCall.{Call, loads, cycles, ticks, block_loads}
use Rattle.drive.specs.declared.Drive.{Drive}

-- the table of refusals of a call
abbrev pub rows : Drive → Call → List Row
rows d (loads numbers) = load_rows d numbers
rows d (cycles fields) = cycle_rows d fields
rows d (ticks fields) = tick_rows d fields
rows d (block_loads image block) = block_rows d image block

-- the one place where a refusal changes something: a block load finds the body, in IDLE
abbrev pub amended : Drive → Call → Bool
amended d (loads numbers) = false
amended d (cycles fields) = false
amended d (ticks fields) = false
amended d (block_loads image block) = is_read fifteen image block && is 0 d.state

abbrev pub is_block_load : Call → Bool
is_block_load (loads numbers) = false
is_block_load (cycles fields) = false
is_block_load (ticks fields) = false
is_block_load (block_loads image block) = true
