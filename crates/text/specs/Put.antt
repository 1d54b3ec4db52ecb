-- What a writer leaves in the bytes that it is lent, and the place that it tells.
use Rattle.std.specs.Prelude.{ℕ, ◌+◌, min, List, ◌++◌, length, take, drop}

-- the place behind bytes that are put from a place on: no further than the end of the lent ones
unfoldable pub behind : ℕ → List ℕ → List ℕ → ℕ
behind at bytes lent = min (at + length bytes) (length lent)

-- the bytes from that place on, before and behind them what was lent; what does not fit is cut off
unfoldable pub written : ℕ → List ℕ → List ℕ → List ℕ
written at bytes lent = take (length lent) (take at lent ++ bytes ++ drop (at + length bytes) lent)
