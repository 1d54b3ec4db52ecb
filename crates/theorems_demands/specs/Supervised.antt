-- Demand 3 of this drive. The words of its calls and answers are the onlooker's (`onlooker` specs/Words.antt).
use Rattle.std.specs.Prelude.{List}
use Rattle.theorems_history.specs.Log.{log}
use Rattle.theorems_history.specs.Onlooker.{notes}
use Rattle.theorems_history.specs.History.{Demand3}
use Rattle.theorems_reached.specs.Machine.{machine}
use Rattle.drive.specs.AnyCall.{Call}
use Rattle.onlooker.specs.Words.{words}

-- Demand 3 of this drive: "Take any sequence of calls from power-up." The machine is made of the calls as the definitions give them; that
-- the functions give exactly these replies is what they promise (`ensures r ≡ ..` of `Drive::power_up`, `load`, `cycle`, `tick` and
-- `load_block`).
abbrev pub DriveDemand3 : Type 0
DriveDemand3 = (calls : List Call) → Demand3 (notes words (log machine calls))
