-- Document 01, "Causes": which flags of the fault word are live.
use Rattle.std.specs.Prelude.{ℕ, true, List}
use Rattle.faults.specs.Word.{flag, ◌or◌, live}
use Rattle.settings.specs.Settings.{FaultEnable}

-- "0 and 1 are always live"; 02, M-102: "flag 12, always live"
abbrev pub always_live : ℕ
always_live = flag 0 true or flag 1 true or flag 12 true

-- "A flag is live if its FaultEnable bit is 1"
abbrev pub alive : List ℕ → ℕ → ℕ
alive s flags = live always_live (FaultEnable s) flags
