-- To unfold `computes` is to unfold every definition of the drive, so that a call on written-out values computes; and so do an image and
-- what the onlooker reads off it. And how a list of cases is computed.
use mathlib.Core.Bool.{Bool, true, ◌&&◌}
use mathlib.Core.List.{List, [], ◌∷◌}
use Rattle.numbers.specs.Bytes
use Rattle.images.specs.Image
use Rattle.images.specs.Table
use Rattle.images.specs.Reads as Reading
use Rattle.onlooker.specs.Words
use Rattle.drive.specs.Blocks
use Rattle.hall.specs.Fate
use Rattle.hall.specs.Angle
use Rattle.hall.specs.Sample
use Rattle.motor.specs.Reference
use Rattle.drive.specs.Answer
use Rattle.drive.specs.Causes
use Rattle.motor.specs.Counts
use Rattle.moves.specs.Moves
use Rattle.settings.specs.Settings
use Rattle.settings.specs.Rules
use Rattle.drive.specs.Calls
use Rattle.drive.specs.Ticks

unfoldable pub computes : Unit {0}
unfolding Fate.fate Fate.beside Angle.twelfth Angle.with_offset Sample.sampled Sample.dead_sample Sample.stray_sample
    Reference.toward Reference.target0 Reference.target_of Answer.answer_telling Causes.causes Counts.watched Moves.move_of
    Settings.meant Rules.setting_rows Calls.load Calls.cycle Ticks.tick Calls.cycled Ticks.ticked
    Bytes.numbers Bytes.words Image.pieces Image.image_of Table.keeps Table.ends Table.kept Table.tabled Table.well_formed
    Reading.found_of Blocks.block_load Words.numbers_from Words.stored
computes = tt

-- a test that passes for each of a list; the kit's `all` does not compute here
abbrev pub each : {A : Type 0} → (A → Bool) → List A → Bool
each test [] = true
each test (x ∷ rest) = test x && each test rest
