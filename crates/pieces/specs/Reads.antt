-- What a read may leave in a buffer and tell.
use Rattle.std.specs.Prelude.{ℕ, ◌-◌, ◌≤◌, ◌≡◌, IfSome, Option, List, length, take}

-- The bytes that were held stay as they are, and no more come than there is room behind them. No contract says how many bytes come, nor
-- which, nor whether a read fails; one that fails tells none.
pub record Reads (held : ℕ) (before after : List ℕ) (piece : Option ℕ) : Type 0 where
  pub front : take held after ≡ take held before
  pub within : IfSome piece (λ brought. brought ≤ length before - held)
