-- Wrong drives about block loads, caught as those of WrongDrives.antt are: "demand 3 counts it as a load".
use mathlib.Core.Path.{◌≡◌, refl}
use mathlib.Core.Bool.{true, cond}
use mathlib.Core.List.{List, [], ◌∷◌, ◌++◌}
use Prim.Native.Nat.{ℕ, suc}
use lib.Dec.{eqb}
use Rattle.states.specs.States.{is}
use Rattle.settings.specs.Settings.{meant}
use Rattle.images.specs.Image.{fifteen, Stored, empty, filled, image_of}
use Rattle.drive.specs.Answer.{reply as replied}
use Rattle.drive.specs.Calls.{becomes, loaded as freshly}
use Rattle.drive.specs.Blocks.{block_numbers}
use Rattle.drive.specs.AnyCall.{Call, loads, cycles, ticks, block_loads, reply}
use Rattle.drive.specs.declared.Drive.{Drive}
use Rattle.drive.specs.declared.answer.Reply.{Reply}
use Rattle.theorems_history.proofs.Judges.{judges}
use Rattle.theorems_demands.specs.NamedCalls.{settings_with, loaded, shows, tick_with, high, over, ready, times}
use Rattle.theorems_demands.proofs.Computes.{computes}
use Rattle.theorems_demands.proofs.WrongDrives.{Replies, Row, running, all_caught}

-- FAULT left by a block load
abbrev leaves_by_a_block_load : Replies
leaves_by_a_block_load d (loads numbers) = reply d (loads numbers)
leaves_by_a_block_load d (cycles fields) = reply d (cycles fields)
leaves_by_a_block_load d (ticks fields) = reply d (ticks fields)
leaves_by_a_block_load d (block_loads image block) =
    cond (is 5 d.state) (replied 0 0 (freshly (meant (block_numbers image block)))) (reply d (block_loads image block))

-- a block load that leaves the arming
abbrev stays_armed : Replies
stays_armed d (loads numbers) = reply d (loads numbers)
stays_armed d (cycles fields) = reply d (cycles fields)
stays_armed d (ticks fields) = reply d (ticks fields)
stays_armed d (block_loads image block) =
    let r : Reply = reply d (block_loads image block) in
    let next : Drive = r.drive in
    replied r.answer.number r.answer.place
    (becomes next next.state next.hall next.flags 0 0 next.offsets next.run d.armed 0)

-- and one that loads the block behind the one that was asked for
abbrev loads_the_next_block : Replies
loads_the_next_block d (loads numbers) = reply d (loads numbers)
loads_the_next_block d (cycles fields) = reply d (cycles fields)
loads_the_next_block d (ticks fields) = reply d (ticks fields)
loads_the_next_block d (block_loads image block) = reply d (block_loads image (suc block))

-- ---- the runs

-- an image of two blocks: in block 3 the settings of mode 1, in block 4 those of mode 0
abbrev in_blocks : ℕ → Stored
in_blocks k = cond (eqb k 3) (filled (settings_with 1 0)) (cond (eqb k 4) (filled (settings_with 0 0)) empty)

abbrev loaded_block : ℕ → Call
loaded_block block = block_loads (image_of fifteen in_blocks) block

-- load, measure the offsets with the command high, and a tick more
abbrev never_low : List Call
never_low = high ∷ times 64 (shows 1) ++ (high ∷ high ∷ [])

-- in mode 0 a start; in mode 1, where the control level counts, a low
abbrev command_alone : Call
command_alone = tick_with 0 0 1 0 2623 2623 0 700

abbrev rows : List Row
rows =
    (leaves_by_a_block_load, running ++ (over ∷ loaded_block 4 ∷ [])) ∷
    -- "A command already high after load .. taken as a start": of a block load
    (stays_armed, ready loaded ++ (loaded_block 4 ∷ never_low)) ∷
    -- the settings of another block
    (loads_the_next_block, ready (loaded_block 3) ++ (command_alone ∷ [])) ∷
    []

pub each_is_caught : all_caught rows ≡ true
unfolding judges computes
each_is_caught = refl
