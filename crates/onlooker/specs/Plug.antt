-- Document 02, M-105: "Fitters chasing a loose plug want to see the sample's fate." What the answers tell of the plug: their letters,
-- counted from the last accepted load on, and the pattern that lit bit 15. What that is of a whole log: `theorems_samples` Plugs.antt.
use Rattle.std.specs.Prelude.{ℕ, Bool, false, not, ◌&&◌, ◌||◌, cond, eqb, leb}
use Prim.Native.Char.{code}
use Rattle.numbers.specs.Count.{up}
use Rattle.drive.specs.Answer.{letter}
use Rattle.drive.specs.declared.answer.Answer.{Answer}
use Rattle.onlooker.specs.Past.{most}
use Rattle.onlooker.specs.declared.plug.Plug.{Plug}

-- before the first call
abbrev pub firm : Plug
firm = record { dead = 0; stray = 0; row = 0; lit = false; pattern = 0 }

abbrev pub counted : Bool → ℕ → ℕ
counted test count = cond test (up most count) count

-- With a call more, which was an accepted load or not, and brought this pattern, if it was a cycle: "D" and "X" are counted, as far as 64
-- bits go; each letter of another sample ends the row of them, and so does a load; the full stop tells of no sample. Bit 15 is lit by the
-- first call that shows it; while it is, the pattern is that call's.
unfoldable pub plug_after : Plug → Bool → ℕ → Answer → Plug
plug_after before loaded pattern answer =
    let dead : Bool = eqb (letter answer.judged) (code "D") in
    let stray : Bool = eqb (letter answer.judged) (code "X") in
    let none : Bool = eqb (letter answer.judged) (code ".") in
    let lit : Bool = leb 32768 answer.live in
    record {
      dead = cond loaded 0 (counted dead before.dead);
      stray = cond loaded 0 (counted stray before.stray);
      row = cond (loaded || not dead && not stray && not none) 0 (counted (dead || stray) before.row);
      lit = lit;
      pattern = cond (lit && not before.lit) pattern before.pattern;
    }
