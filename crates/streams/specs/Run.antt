-- A run over the records that have arrived, whatever the records are and whatever a program prints of them.
use Rattle.std.specs.Prelude.{ℕ, zero, suc, ◌+◌, ◌-◌, Bool, true, false, cond, List, [], ◌++◌, ltb, length, drop}
use Rattle.streams.specs.declared.Ran.{Ran}

-- what stands at the front of the bytes: no byte; bytes that begin no record; a record whose last bytes are missing; a whole record
pub data Front (R : Type 0) : Type 0 where
  end : Front R
  unknown : Front R
  short : Front R
  whole : R → Front R

-- A program of records: what stands at the front of bytes, how many bytes a record has, the state that it leaves, its line, the line of
-- what is no record, and the room that every line has enough of.
pub record Program (S R : Type 0) : Type 0 where
  pub front : List ℕ → Front R
  pub size_of : R → ℕ
  pub next : S → R → S
  pub line : S → R → List ℕ
  pub refusal : S → List ℕ
  pub line_room : ℕ

-- what a run comes to: the lines that it writes, the state that it leaves, how many bytes it takes, and whether a refusal ended it
pub record Outcome (S : Type 0) : Type 0 where
  pub lines : List ℕ
  pub state : S
  pub taken : ℕ
  pub ended : Bool

-- nothing is taken and nothing written
abbrev pub rest : {S : Type 0} → S → Outcome S
rest s = record { lines = []; state = s; taken = 0; ended = false }

-- a line for so many bytes
abbrev pub lined : {S : Type 0} → List ℕ → S → ℕ → Bool → Outcome S
lined line s taken ended = record { lines = line; state = s; taken = taken; ended = ended }

-- these lines for so many bytes, and then whatever comes after
abbrev pub onto : {S : Type 0} → List ℕ → ℕ → Outcome S → Outcome S
onto lines taken later =
    record {
      lines = lines ++ later.lines;
      state = later.state;
      taken = taken + later.taken;
      ended = later.ended;
    }

-- the lines, and after them what the lent bytes held
abbrev pub output_after : {S : Type 0} → Outcome S → List ℕ → List ℕ
output_after o lent = o.lines ++ drop (length o.lines) lent

-- what the caller is handed of a run
abbrev pub ran_of : {S : Type 0} → Outcome S → Ran S
ran_of o = record { state = o.state; taken = o.taken; written = length o.lines; ended = o.ended }

module _ {S R : Type 0} (p : Program S R) where
  -- the line of what is no record leaves the state as it is, and ends the run
  abbrev pub refused : S → Outcome S
  refused s = lined (p.refusal s) s 0 true

  -- Input that ends between records adds no line. A short record is refused only where the input is closed: more bytes may come.
  -- One line for each record, after it; and then on with the state that it left.
  abbrev pub follow : Bool → S → Front R → (R → Outcome S) → Outcome S
  follow closed s end onward = rest s
  follow closed s unknown onward = refused s
  follow closed s short onward = cond closed (refused s) (rest s)
  follow closed s (whole r) onward = onto (p.line s r) (p.size_of r) (onward r)

  -- The run over `bytes` where the output has `room` bytes. Each record takes a byte at least, so the length of `bytes` is fuel enough.
  unfoldable pub runs : ℕ → Bool → ℕ → List ℕ → S → Outcome S
  runs zero closed room bytes s = rest s
  runs (suc fuel) closed room bytes s =
      cond (ltb room p.line_room) (rest s)
      (follow closed s (p.front bytes)
      (λ (r : R). runs fuel closed (room - length (p.line s r)) (drop (p.size_of r) bytes) (p.next s r)))

  abbrev pub run : Bool → ℕ → List ℕ → S → Outcome S
  run closed room bytes s = runs (length bytes) closed room bytes s
