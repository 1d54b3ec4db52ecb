-- What a program of records holds after a run over the front of its buffer, and whether it reads on.
use Rattle.std.specs.Prelude.{ℕ, ◌+◌, ◌-◌, Bool, true, false, ◌&&◌, not, ◌≡◌, List, eqb, take, drop}
use Rattle.streams.specs.Run.{Program, Outcome, run}
use Rattle.pieces.specs.declared.serving.Held.{Held}

module _ {S R : Type 0} (p : Program S R) where
  -- the run over the first `filled` bytes of the buffer
  abbrev pub ran : Bool → ℕ → ℕ → List ℕ → S → Outcome S
  ran closed room filled buffer state = run p closed room (take filled buffer) state

  -- the state that the run left and, at the front of the buffer, the bytes that it did not take; a refusal "ends the run", and so does the
  -- end of the input. No contract says whether the lines were written: `written` is what the OS told of it.
  pub record Rest (closed : Bool) (room filled : ℕ) (before after : List ℕ) (state : S) (held : Held S) : Type 0 where
    pub left : held.state ≡ (ran closed room filled before state).state
    pub count : held.count ≡ filled - (ran closed room filled before state).taken
    pub bytes : take held.count after ≡ take held.count (drop (ran closed room filled before state).taken before)
    pub written : Bool
    pub going : held.going ≡ (written && not (ran closed room filled before state).ended && not closed)

  -- One read of the program, behind the bytes that it holds and a run over all of them. No contract says how many bytes
  -- come, nor which; where none come, the input is closed. A read that fails ends the program.
  pub data ReadOn (room : ℕ) (before after : List ℕ) (old new : Held S) : Type 0 where
    failed : new.state ≡ old.state → new.count ≡ old.count → new.going ≡ false → ReadOn room before after old new
    answered : (brought : ℕ) (read : List ℕ) → take old.count read ≡ take old.count before
        → Rest (eqb brought 0) room (old.count + brought) read after old.state new
        → ReadOn room before after old new

  -- So many reads, one after the other, from what the program holds before the first; none follows where there is to be no next one.
  pub data Served (room : ℕ) (first : List ℕ) (start : Held S) : ℕ → List ℕ → Held S → Type 0 where
    none : Served room first start 0 first start
    more : {n : ℕ} {before after : List ℕ} {old new : Held S} → Served room first start n before old
        → old.going ≡ true
        → ReadOn room before after old new
        → Served room first start (n + 1) after new
