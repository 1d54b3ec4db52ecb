-- Documents 01 and 02: any call that changes the state, and what it replies. How "sequences hand each call the state that the call before
-- left" stands in `theorems_history`.
use Rattle.std.specs.Prelude.{ℕ, List}
use Rattle.drive.specs.Calls.{load, cycle}
use Rattle.drive.specs.Blocks.{block_load}
use Rattle.drive.specs.Ticks.{tick}
use Rattle.drive.specs.declared.Drive.{Drive}
use Rattle.drive.specs.declared.call.Call.{Call as Asked}
use Rattle.drive.specs.declared.call.Call.TheVariants as code
use Rattle.fields.specs.declared.Cycle.{Cycle}
use Rattle.fields.specs.declared.Tick.{Tick}
use Rattle.drive.specs.declared.answer.Reply.{Reply}

-- "Three calls change the state": each with whatever it is told. 02, M-102, brings a fourth, "A block load call": of this image, this block
pub data Call : Type 0 where
  loads : List ℕ → Call
  cycles : Cycle → Call
  ticks : Tick → Call
  block_loads : (image : List ℕ) (block : ℕ) → Call

abbrev pub reply : Drive → Call → Reply
reply d (loads numbers) = load d numbers
reply d (cycles fields) = cycle d fields
reply d (ticks fields) = tick d fields
reply d (block_loads image block) = block_load d image block

-- the call that the code names: three of the four, since a block load lends an image
abbrev pub asked : Asked → Call
asked (code.Load settings) = loads settings
asked (code.Cycle fields) = cycles fields
asked (code.Tick fields) = ticks fields
