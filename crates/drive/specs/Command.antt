-- Document 01, "Command": "Mode 0: low is command 0, high is command 1. Mode 1: low is control at most CmdStop, high is control at
-- least CmdStart."
use Rattle.std.specs.Prelude.{ℕ, Bool, cond, List, ◌==◌, nat_le}
use Rattle.settings.specs.Settings.{mode1, CmdStart, CmdStop}
use Rattle.fields.specs.declared.Tick.{Tick}

abbrev pub low : List ℕ → Tick → Bool
low s t = cond (mode1 s) (nat_le t.control (CmdStop s)) (t.command == 0)

abbrev pub high : List ℕ → Tick → Bool
high s t = cond (mode1 s) (nat_le (CmdStart s) t.control) (t.command == 1)
