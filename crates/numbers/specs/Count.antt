-- Counts that grow to a limit and stay there.
use Rattle.std.specs.Prelude.{ℕ, ◌+◌, min}

-- up by one, at most `most`
abbrev pub up : ℕ → ℕ → ℕ
up most count = min (count + 1) most
