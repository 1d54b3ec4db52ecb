-- Numbers of a line one after the other: one more behind them, how long they are at most, and that a chain of writers which has room leaves
-- all of its line.
use mathlib.Core.Path.{◌≡◌, refl, sym, ap, ◌∙◌}
use mathlib.Core.List.{List, [], ◌∷◌, ◌++◌, append_assoc, append-nil}
use Prim.Native.Nat.{ℕ, ◌+◌, ◌*◌, ◌/◌, ◌≤◌, ◌<◌}
use native.Mathlib.Omega.{arith}
use lib.ListN.{length, get_or, take, drop, length-append}
use lib.Seq.{take-suc, take_all}
use Rattle.std.specs.Prelude.{Result, Ok, Err}
use Rattle.std.specs.Result.{result_err, result_unwrap_or}
use Rattle.verdicts.specs.declared.Refusal.{Refusal}
use Rattle.verdicts.specs.Table.{verdict_of}
use Rattle.text.specs.Decimal.{decimal}
use native.Mathlib.Nat.{zero-add}
use native.Mathlib.Numerals.{add-one}
use Rattle.numbers.specs.Bytes.{number}
use Rattle.numbers.proofs.Bytes.{length-numbers, number_at}
use Rattle.images.specs.Table.{numbers_in}
use Rattle.images.proofs.Puts.{within, behind_nothing, written_nothing}
use Rattle.text.proofs.Chains.{chained, nothing_put, Puts, behind_front, written_front}
use Rattle.text.proofs.Decimals.{at_most_twenty}
use Rattle.images.specs.Told.{told_by, value_of}
use Rattle.blocks.specs.Line.{told, field, fields}

fields_more : (list : List ℕ) (n : ℕ) → fields (list ++ (n ∷ [])) ≡ fields list ++ field n
unfolding fields
fields_more [] n = rw append-nil
fields_more (m ∷ list) n = rw (fields_more list n, append_assoc (field m) (fields list) (field n))

-- those of no number
pub no_fields : fields [] ≡ []
unfolding fields
no_fields = refl

-- those of the first numbers, and of one more
pub fields_next : (list : List ℕ) (i : ℕ) → i < length list
    → fields (take (i + 1) list) ≡ fields (take i list) ++ field (get_or list i 0)
fields_next list i inside = rw (add-one, take-suc list i 0 inside) (fields_more (take i list) (get_or list i 0))

-- and of a body
pub body_next : (body : List ℕ) (i : ℕ) → i < length body / 2
    → fields (take (i + 1) (numbers_in body)) ≡ fields (take i (numbers_in body)) ++ field (number (2 * i) body)
body_next body i inside =
    let is : number (2 * i) body ≡ get_or (numbers_in body) i 0 =
    ap (λ (at : ℕ). number at body) (sym (zero-add (2 * i))) ∙ number_at (length body / 2) 0 body i inside in
    rw is (fields_next (numbers_in body) i (omega (arith, length-numbers (length body / 2) 0 body)))

pub body_all : (body : List ℕ) (i : ℕ) → length body / 2 ≤ i → take i (numbers_in body) ≡ numbers_in body
body_all body i past = take_all i (numbers_in body) (omega (arith, length-numbers (length body / 2) 0 body))

pub length_fields : (list : List ℕ) → length (fields list) ≤ 21 * length list
unfolding fields
length_fields [] = omega arith
length_fields (n ∷ list) = rw length-append (omega (arith, at_most_twenty n, length_fields list))

-- the numbers of a line as the code puts them
pub two_first : (n p : ℕ) (more : List ℕ) → decimal n ++ field p ++ fields more ≡ decimal n ++ fields (p ∷ more)
unfolding fields
two_first n p more = append_assoc (decimal n) (field p) (fields more)

pub three_first : (n p s : ℕ) (more : List ℕ)
    → decimal n ++ field p ++ field s ++ fields more ≡ decimal n ++ fields (p ∷ s ∷ more)
unfolding fields
three_first n p s more = simp append_assoc

pub three_only : (n p s : ℕ) → decimal n ++ field p ++ field s ≡ decimal n ++ fields (p ∷ s ∷ [])
unfolding fields
three_only n p s = simp (append_assoc, append-nil)

-- from the first byte on, where there is room
pub all_put : {line lent : List ℕ} {next : ℕ} {after : List ℕ} → Puts 0 line lent next after → length line ≤ length lent
    → (next ≡ length line) × (after ≡ line ++ drop (length line) lent)
all_put {line} {lent} put room = (put.place ∙ behind_front line lent room, put.out ∙ written_front line lent room)

-- what a line shows of a result: number and place, and its value
pub head_of : {A : Type 0} (r : Result A Refusal) → told (result_err r) ≡ told_by r
head_of (Ok value) = refl
head_of (Err refusal) = refl

pub head_of_verdict : (r : Result (Unit {0}) Refusal) → told (result_err r) ≡ verdict_of r
head_of_verdict (Ok value) = refl
head_of_verdict (Err refusal) = refl

pub value_shown : (r : Result ℕ Refusal) → result_unwrap_or r 0 ≡ value_of r
value_shown (Ok value) = refl
value_shown (Err refusal) = refl

pub ruleset chain = (
  chained,
  within,
  behind_nothing,
  written_nothing,
  no_fields,
  fields_next,
  body_next,
  body_all,
  two_first,
  three_first,
  three_only,
  head_of,
  head_of_verdict,
  value_shown,
)
