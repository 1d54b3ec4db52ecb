-- What a run with fuel for one record comes to, by what the reader's answer says.
use Prim.Native.Nat.{ℕ, ◌≤◌, ◌<◌}
use mathlib.Core.Path.{◌≡◌, sym, ap, ◌∙◌}
use mathlib.Core.Bool.{Bool, true, false}
use mathlib.Core.List.{List}
use lib.ListN.{length}
use Rattle.std.specs.Prelude.{Ok, Err}
use Rattle.text.proofs.Chains.{behind_front, written_front}
use Rattle.streams.specs.Run.{Outcome, rest, lined, refused, runs}
use Rattle.streams.proofs.ByFront.{at_tight, one_front, one_whole}
use Rattle.blocks.specs.Table.{front, found}
use Rattle.blocks.specs.Line.{line_at, line_room}
use Rattle.blocks.specs.Blockline.{State, blockline}
use Rattle.blocks.specs.declared.find.Record.{Record as Read}
use Rattle.streams.specs.declared.Missing.TheVariants.{End, Unknown, Short}
use Rattle.blocks.proofs.Laws.{fits}
use Rattle.blocks.proofs.Meaning.{wholly, missing}

alike : {a b : List ℕ} {m n : ℕ} → a ≡ b → m ≡ n → ◌≡◌ {A = Outcome State} (lined a tt m false) (lined b tt n false)
alike p q = rw (p, q)

module _ (closed : Bool) (room : ℕ) (bytes : List ℕ) where
  pub tight : room < line_room → runs blockline 1 closed room bytes tt ≡ rest tt
  tight small = at_tight blockline 0 closed room bytes tt small

  module _ (wide : line_room ≤ room) where
    pub at_end : Err End ≡ found (front bytes) → runs blockline 1 closed room bytes tt ≡ rest tt
    at_end known = one_front blockline closed room bytes tt wide (missing bytes End known)

    pub at_unknown : Err Unknown ≡ found (front bytes) → runs blockline 1 closed room bytes tt ≡ refused blockline tt
    at_unknown known = one_front blockline closed room bytes tt wide (missing bytes Unknown known)

    pub at_short : Err Short ≡ found (front bytes) → closed ≡ false → runs blockline 1 closed room bytes tt ≡ rest tt
    at_short known more = rw (one_front blockline closed room bytes tt wide (missing bytes Short known), more)

    pub at_cut : Err Short ≡ found (front bytes) → closed ≡ true → runs blockline 1 closed room bytes tt ≡ refused blockline tt
    at_cut known shut = rw (one_front blockline closed room bytes tt wide (missing bytes Short known), shut)

    pub at_whole : (read : Read) → Ok read ≡ found (front bytes)
        → runs blockline 1 closed room bytes tt ≡ lined (line_at (front bytes)) tt read.size false
    at_whole read known =
        let w = wholly bytes read known in
        one_whole blockline closed room bytes tt wide w.stands w.is ∙ alike (sym (ap line_at w.is)) (sym w.long)

-- and the line of a whole record fits
pub line_fits : (bytes : List ℕ) (read : Read) → Ok read ≡ found (front bytes) → length (line_at (front bytes)) ≤ line_room
line_fits bytes read known = let w = wholly bytes read known in rw w.is (fits bytes w.stands w.is).0

pub ruleset turns = (tight, at_end, at_unknown, at_short, at_cut, at_whole, line_fits, behind_front, written_front)
