-- The bytes come in pieces, as a pipe cuts them: what a program of records makes of them.
use Rattle.std.specs.Prelude.{ℕ, ◌+◌, ◌*◌, ◌≤◌, ◌<◌, ◌≡◌, Bool, true, false, cond, List, [], ◌∷◌, ◌++◌, length, drop}
use Rattle.streams.specs.Run.{end, unknown, short, whole, Program, Outcome, run}

-- What makes a program one of records: each takes a byte at least, is read off its own bytes alone, and has room for its line; and a line
-- has `most` bytes at most for each `per` bytes of its record.
pub record Lawful {S R : Type 0} (p : Program S R) : Type 0 where
  pub most : ℕ
  pub per : ℕ
  pub some : 0 < per
  pub most_fit : most ≤ per * p.line_room
  pub a_byte : (r : R) → 0 < p.size_of r
  pub fits : (s : S) (bytes : List ℕ) (r : R) → p.front bytes ≡ whole r → length (p.line s r) ≤ p.line_room
  pub at_rate : (s : S) (bytes : List ℕ) (r : R) → p.front bytes ≡ whole r → per * length (p.line s r) ≤ most * p.size_of r
  pub refusal_fits : (s : S) → length (p.refusal s) ≤ p.line_room
  pub empty : (bytes : List ℕ) → length bytes ≡ 0 → p.front bytes ≡ end
  pub none : (bytes : List ℕ) → p.front bytes ≡ end → length bytes ≡ 0
  pub within : (bytes : List ℕ) (r : R) → p.front bytes ≡ whole r → p.size_of r ≤ length bytes
  pub still_unknown : (a b : List ℕ) → p.front a ≡ unknown → p.front (a ++ b) ≡ unknown
  pub still_whole : (a b : List ℕ) (r : R) → p.front a ≡ whole r → p.front (a ++ b) ≡ whole r

-- A part of a record has so many bytes at most. It may say so only of lists whose numbers are bytes, since a byte can count what follows.
pub record Held {S R : Type 0} (p : Program S R) (most_held : ℕ) : Type 1 where
  pub Sound : List ℕ → Type 0
  pub sound_drop : (n : ℕ) (bytes : List ℕ) → Sound bytes → Sound (drop n bytes)
  pub sound_append : (a b : List ℕ) → Sound a → Sound b → Sound (a ++ b)
  pub part : (bytes : List ℕ) → Sound bytes → p.front bytes ≡ short → length bytes ≤ most_held

-- the buffers of a program: so many bytes of records, and so many of lines
module _ {S R : Type 0} (p : Program S R) (input_size output_size : ℕ) where
  -- the run over the bytes of the buffer, where more may come; and what it leaves for the next
  abbrev pub open_run : List ℕ → S → Outcome S
  open_run bytes s = run p false output_size bytes s

  abbrev pub left : List ℕ → S → List ℕ
  left bytes s = drop (open_run bytes s).taken bytes

  -- The lines of a stream that comes in these pieces: each is put behind what is held, and answered, until a refusal ends the run; at
  -- the end of the input what is held is all there is.
  unfoldable pub stream : List (List ℕ) → List ℕ → S → List ℕ
  stream [] held s = (run p true output_size held s).lines
  stream (piece ∷ later) held s =
      let bytes : List ℕ = held ++ piece in
      cond (open_run bytes s).ended (open_run bytes s).lines
      ((open_run bytes s).lines ++ stream later (left bytes s) (open_run bytes s).state)

  -- a piece is what one read brings: no more than the buffer has room for behind what is held; once the run has ended none is read
  unfoldable pub Fit : List (List ℕ) → List ℕ → S → Type 0
  Fit [] held s = length held ≤ input_size
  Fit (piece ∷ later) held s =
      (length (held ++ piece) ≤ input_size)
      × ((open_run (held ++ piece) s).ended ≡ false → Fit later (left (held ++ piece) s) (open_run (held ++ piece) s).state)

module _ {S R : Type 0} (p : Program S R) where
  -- the run over all the bytes, with room enough and to spare; and its lines, where no more bytes come
  abbrev pub answers : Bool → List ℕ → S → Outcome S
  answers closed bytes s = run p closed (p.line_room * (length bytes + 1)) bytes s

  abbrev pub in_one : List ℕ → S → List ℕ
  in_one bytes s = (answers true bytes s).lines

  -- room for the lines of all records that so many bytes can hold, and for one line more
  abbrev pub Roomy : Lawful p → ℕ → ℕ → Type 0
  Roomy law room count = law.most * count + law.per * p.line_room ≤ law.per * room

-- each piece is of this kind
unfoldable pub Each : (List ℕ → Type 0) → List (List ℕ) → Type 0
Each Kind [] = Unit {0}
Each Kind (piece ∷ later) = Kind piece × Each Kind later
