-- Document 01: the tables of refusals of load, cycle and tick.
use Rattle.std.specs.Prelude.{ℕ, not, ◌||◌, List, ◌∷◌, length, ◌==◌}
use Rattle.verdicts.specs.Table.{Row, row}
use Rattle.settings.specs.Settings.{setting_count, all_settings, meant}
use Rattle.settings.specs.Rules.{setting_rows}
use Rattle.states.specs.States.{is}
use Rattle.fields.specs.Fields.{cycle_fields, tick_fields}
use Rattle.fields.specs.declared.Cycle.{Cycle}
use Rattle.fields.specs.declared.Tick.{Tick}
use Rattle.hall.specs.declared.layout.Sensors.{Sensors}
use Rattle.hall.specs.declared.layout.Sensors.TheVariants.{Three, Two}
use Rattle.drive.specs.declared.Drive.{Drive}

-- "Hall pattern 0..7"; 02, M-101: "pattern above 3 with two sensors is 1"
abbrev pub highest_pattern : Sensors → ℕ
highest_pattern Three = 7
highest_pattern Two = 3

-- rows 3, "cycle or tick in IDLE", and 1, "cycle or tick field out of range"; "3 before 1"
abbrev pub cycle_rows : Drive → Cycle → List Row
cycle_rows d c = row 3 0 (is 0 d.state) ∷ cycle_fields (highest_pattern d.sensors) c

abbrev pub tick_rows : Drive → Tick → List Row
tick_rows d t = row 3 0 (is 0 d.state) ∷ tick_fields t

-- rows 4, "load outside IDLE and STOP", and 2, "settings not 24 numbers" and "a setting breaks its rule"; "4 before 2"; "of two rows
-- with one number, the upper first"; 02, M-101: "lengths other than 24 and 25 are 2 at place 0"
abbrev pub load_rows : Drive → List ℕ → List Row
load_rows d numbers =
    row 4 0 (not (is 0 d.state || is 1 d.state))
    ∷ row 2 0 (not (length numbers == setting_count || length numbers == all_settings))
    ∷ setting_rows (meant numbers)
