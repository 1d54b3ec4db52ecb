-- Each field of a line stands at its place, whatever the line shows: behind the name all is as far from it as the paper says.
use Prim.Native.Nat.{ℕ, suc, ◌+◌, ◌≤◌, ◌<◌}
use native.Mathlib.Omega.{arith}
use mathlib.Core.Path.{◌≡◌, ap, ◌∙◌}
use mathlib.Core.Bool.{Bool}
use mathlib.Core.List.{List, [], ◌∷◌, ◌++◌, append_assoc}
use Prim.Native.String.{String}
use Prim.Native.Char.{code}
use lib.Dec.{eqb, eqb→eq}
use lib.IntN.{nat_abs}
use lib.ListN.{get_or, take, drop, get_or-append}
use lib.Seq.{drop-append-add, get_or-append-add, take_at}
use Rattle.numbers.proofs.Table.{at}
use Rattle.drive.specs.Answer.{letter}
use Rattle.drive.specs.declared.answer.Answer.{Answer}
use Rattle.text.specs.Text.{text}
use Rattle.report.specs.Text.{padded, sign, digits, signed}
use Rattle.report.specs.Line.{names, name, line}
use Rattle.report.proofs.Fields.{length-name}
use Rattle.lines.specs.Values.{state_of}
use Rattle.lines.specs.Fields.{part, byte}

-- what stands behind the name, from a place on and at a place
drop-name : (state k : ℕ) (rest : List ℕ) → drop (12 + k) (name state ++ rest) ≡ drop k rest
drop-name state k rest = rw length-name at (drop-append-add (name state) rest k)

byte_behind : (state k : ℕ) (rest : List ℕ) → get_or (name state ++ rest) (12 + k) 0 ≡ get_or rest k 0
byte_behind state k rest = rw length-name at (get_or-append-add (name state) rest k 0)

byte_of_name : (state k : ℕ) (rest : List ℕ) → k < 12 → get_or (name state ++ rest) k 0 ≡ get_or (name state) k 0
byte_of_name state k rest inside = get_or-append (name state) rest 0 k (rw length-name inside)

-- the ten names, one after the other
right : ℕ → String → Bool
right state word = let bytes : List ℕ = padded 12 (text word) in eqb (state_of (get_or bytes 0 0) (get_or bytes 1 0)) state

name_back : (state : ℕ) → state ≤ 9 → state_of (get_or (name state) 0 0) (get_or (name state) 1 0) ≡ state
unfolding right
name_back state known =
    eqb→eq (state_of (get_or (name state) 0 0) (get_or (name state) 1 0)) state (at right names "" tt state (omega arith))

-- all that stands behind the name
abbrev behind : Answer → List ℕ
behind answer =
    text " "
    ++ digits 10 1 answer.gate
    ++ text " "
    ++ digits 16 4 answer.live
    ++ text " "
    ++ signed answer.reference
    ++ text " "
    ++ digits 16 8 answer.position
    ++ text " "
    ++ signed answer.angle
    ++ text " "
    ++ (letter answer.judged ∷ [])
    ++ text "\n"

regroup : (a b c d e f g h i j k l m n o p : List ℕ)
    → a ++ b ++ c ++ d ++ e ++ f ++ g ++ h ++ i ++ j ++ k ++ l ++ m ++ n ++ o ++ p
    ≡ a ++ (b ++ (c ++ (d ++ e ++ f ++ g ++ h ++ i ++ j ++ k ++ l ++ m ++ n ++ o ++ p)))
regroup a b c d e f g h i j k l m n o p = simp append_assoc

module _ (answer : Answer) where
  around_name : line answer ≡ digits 16 1 answer.number ++ (text " " ++ (name answer.state ++ behind answer))
  unfolding line
  around_name =
      regroup (digits 16 1 answer.number) (text " ") (name answer.state) (text " ") (digits 10 1 answer.gate) (text " ")
      (digits 16 4 answer.live) (text " ") (signed answer.reference) (text " ") (digits 16 8 answer.position) (text " ")
      (signed answer.angle) (text " ") (letter answer.judged ∷ []) (text "\n")

  -- a place behind the name, of the line and of what stands there
  from : (k : ℕ) → drop (suc (suc (12 + k))) (line answer) ≡ drop k (behind answer)
  unfolding digits
  from k = ap (drop (suc (suc (12 + k)))) around_name ∙ drop-name answer.state k (behind answer)

  pub number_at : part 0 1 (line answer) ≡ digits 16 1 answer.number
  unfolding digits
  number_at = ap (part 0 1) around_name

  pub state_at : answer.state ≤ 9 → state_of (byte 2 (line answer)) (byte 3 (line answer)) ≡ answer.state
  unfolding digits
  state_at known =
      ap (λ (bytes : List ℕ). state_of (byte 2 bytes) (byte 3 bytes)) around_name
      ∙ rw (byte_of_name answer.state 0 (behind answer) (omega arith), byte_of_name answer.state 1 (behind answer) (omega arith))
      (name_back answer.state known)

  pub name_at : part 2 12 (line answer) ≡ name answer.state
  unfolding digits
  name_at = ap (part 2 12) around_name ∙ take_at (name answer.state) (behind answer) 12 (length-name answer.state)

  pub gate_at : part 15 1 (line answer) ≡ digits 10 1 answer.gate
  unfolding digits
  gate_at = ap (take 1) (from 1)

  pub live_at : part 17 4 (line answer) ≡ digits 16 4 answer.live
  unfolding digits
  live_at = ap (take 4) (from 3)

  pub reference_sign : byte 22 (line answer) ≡ sign answer.reference
  unfolding digits signed
  reference_sign = ap (byte 22) around_name ∙ byte_behind answer.state 8 (behind answer)

  pub reference_at : part 23 5 (line answer) ≡ digits 10 5 (nat_abs answer.reference)
  unfolding digits signed
  reference_at = ap (take 5) (from 9)

  pub position_at : part 29 8 (line answer) ≡ digits 16 8 answer.position
  unfolding digits signed
  position_at = ap (take 8) (from 15)

  pub angle_sign : byte 38 (line answer) ≡ sign answer.angle
  unfolding digits signed
  angle_sign = ap (byte 38) around_name ∙ byte_behind answer.state 24 (behind answer)

  pub angle_at : part 39 5 (line answer) ≡ digits 10 5 (nat_abs answer.angle)
  unfolding digits signed
  angle_at = ap (take 5) (from 25)

  pub letter_at : byte 45 (line answer) ≡ letter answer.judged
  unfolding digits signed
  letter_at = ap (byte 45) around_name ∙ byte_behind answer.state 31 (behind answer)

  -- the last three bytes
  pub end_of_line : part 44 3 (line answer) ≡ code " " ∷ letter answer.judged ∷ code "\n" ∷ []
  unfolding digits signed
  end_of_line = ap (take 3) (from 30)
