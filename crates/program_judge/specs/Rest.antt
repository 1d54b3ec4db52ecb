-- What the program holds after a run over the fronts of its two buffers, and what a read leaves as it was.
use Rattle.std.specs.Prelude.{ℕ, ◌-◌, ◌≤◌, ◌≡◌, ◌||◌, eqb, List, take, drop}
use Rattle.judge.specs.Run.{run}
use Rattle.judge.specs.declared.Ran.{Ran}
use Rattle.program_judge.specs.declared.Stream.{Stream}
use Rattle.program_judge.specs.declared.Held.{Held}

-- what is left of a stream of which so many bytes are taken: the other bytes, at the front of the buffer
pub record Left (taken : ℕ) (before after : List ℕ) (old new : Stream) : Type 0 where
  pub held : new.held ≡ old.held - taken
  pub over : new.over ≡ old.over
  pub bytes : take new.held after ≡ take new.held (drop taken before)

-- the run over what is held of the records and of the lines
abbrev pub ran : List ℕ → List ℕ → Held → Ran
ran input lines held = run held.records.over (take held.records.held input) held.lines.over (take held.lines.held lines) held.judge

-- the judge that the run left, and what it left of each stream
pub record Rest (input input_after lines lines_after : List ℕ) (old new : Held) : Type 0 where
  pub judge : new.judge ≡ (ran input lines old).judge
  pub wants : new.wants ≡ (ran input lines old).wants
  pub records : Left (ran input lines old).taken input input_after old.records new.records
  pub printed : Left (ran input lines old).lines lines lines_after old.lines new.lines

-- a read judges nothing
abbrev pub Kept : Held → Held → Type 0
Kept old new = new.judge ≡ old.judge

-- of a stream that is read it keeps what was held, and one that brings nothing is its end
pub record Grown (old new : Stream) : Type 0 where
  pub held : old.held ≤ new.held
  pub over : new.over ≡ (old.over || eqb new.held old.held)
