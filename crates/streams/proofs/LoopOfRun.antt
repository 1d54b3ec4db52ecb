-- What holds from turn to turn of the run's loop: the lines written so far stand before the rest of the output as it was, and the whole
-- run is these lines and then the run over the bytes that are left.
use mathlib.Core.Path.{◌≡◌, refl, ap, ◌∙◌}
use mathlib.Core.Bool.{Bool}
use mathlib.Core.List.{List, [], ◌++◌, append-nil, append_assoc}
use Prim.Native.Nat.{ℕ, ◌+◌, ◌-◌, ◌≤◌}
use native.Mathlib.Omega.{arith}
use lib.ListN.{length, drop, length-append, length-drop, drop_of_length-le}
use lib.Seq.{take_at, drop_at, drop-drop}
use Rattle.streams.specs.Run.{Program, Outcome, onto, runs, run, output_after, ran_of}
use Rattle.streams.specs.declared.Ran.{Ran}
use Rattle.streams.specs.Stream.{Lawful}
use Rattle.streams.proofs.Parts.{tail, part, back}
use Rattle.streams.proofs.FirstRecord.{FirstRecord, first_record}

-- nothing before an outcome, and two parts before it
pub onto_none : {S : Type 0} (o : Outcome S) → onto [] 0 o ≡ o
onto_none o = let none : 0 + o.taken ≡ o.taken = omega arith in rw none

pub onto_onto : {S : Type 0} (front back : List ℕ) (m n : ℕ) (o : Outcome S)
    → onto front m (onto back n o) ≡ onto (front ++ back) (m + n) o
onto_onto front back m n o = let sum : m + (n + o.taken) ≡ m + n + o.taken = omega arith in rw (append_assoc, sum)

module _ {S R : Type 0} (p : Program S R) (input : List ℕ) (closed : Bool) (lent : List ℕ) (first : S) where
  -- the run over everything
  abbrev pub everything : Outcome S
  everything = run p closed (length lent) input first

  pub record Ongoing (output : List ℕ) (taken written : ℕ) (state : S) : Type 0 where
    pub lines : List ℕ
    pub within : taken ≤ length input
    pub room : written ≤ length lent
    pub count : length lines ≡ written
    pub out : output ≡ lines ++ drop written lent
    pub same : everything ≡ onto lines taken (run p closed (length lent - written) (drop taken input) state)

  pub at_start : Ongoing lent 0 0 first
  at_start =
      let all : length lent - 0 ≡ length lent = omega arith in
      record {
        lines = [];
        within = omega arith;
        room = omega arith;
        count = refl;
        out = refl;
        same = rw (all, onto_none everything);
      }

module _
    {S R : Type 0} {p : Program S R} (law : Lawful p)
    {input : List ℕ} {closed : Bool} {lent : List ℕ} {first : S} {output : List ℕ} {taken written : ℕ} {state : S}
    (g : Ongoing p input closed lent first output taken written state)
  where
    pub length-output : length output ≡ length lent
    length-output = rw (g.out, length-append, g.count, length-drop) (omega (arith, g.room))

    -- the part of the output that a step is lent
    part_is : part written output ≡ drop written lent
    part_is = tail output written ∙ rw g.out (drop_at g.lines (drop written lent) written g.count)

    -- the first record of what is left
    abbrev next : Outcome S
    next = runs p 1 closed (length lent - written) (drop taken input) state

    its_first : FirstRecord law closed (length lent - written) (drop taken input) state
    its_first = first_record law closed (length lent - written) (drop taken input) state

    -- what the output holds after a step that was lent that part
    next_output : {left : List ℕ} → left ≡ output_after next (drop written lent)
        → back written output left ≡ (g.lines ++ next.lines) ++ drop (written + length next.lines) lent
    next_output wrote =
        let rest = drop written output in
        rw (
          wrote,
          drop_of_length-le rest {i = length output - written} (omega (arith, length-drop written output)),
          append-nil,
          drop-drop (length next.lines) written lent,
          g.out,
          take_at g.lines (drop written lent) written g.count,
          append_assoc,
        )

    counted : length (g.lines ++ next.lines) ≡ written + length next.lines
    counted = rw (length-append, g.count)

    -- a step that took nothing ends the run
    ends : next.taken ≡ 0 → everything p input closed lent first ≡ onto g.lines taken next
    ends none = g.same ∙ ap (onto g.lines taken) (its_first.stops none)

    -- any other leaves the run to the bytes after its record
    goes_on : (next.taken ≡ 0 → ⊥) → {after_it : List ℕ}
        → after_it ≡ (g.lines ++ next.lines) ++ drop (written + length next.lines) lent
        → Ongoing p input closed lent first after_it (taken + next.taken) (written + length next.lines) next.state
    goes_on some out =
        let n = length next.lines in
        let less : length lent - written - n ≡ length lent - (written + n) = omega arith in
        record {
          lines = g.lines ++ next.lines;
          within = omega (arith, its_first.within, length-drop taken input, g.within);
          room = omega (arith, its_first.fits, g.room);
          count = counted;
          out = out;
          same = g.same
              ∙ ap (onto g.lines taken) (its_first.goes some)
              ∙ onto_onto g.lines next.lines taken next.taken _
              ∙ rw (less, drop-drop next.taken taken input);
        }

    -- What a turn of the loop comes to, where the step tells `one` and leaves `left` in the part that it was lent.
    abbrev after : Ran S → Ran S
    after one = record one { taken = taken + one.taken; written = written + one.written }

    pub record Stepped (one : Ran S) (left : List ℕ) : Type 0 where
      pub filled_within : written + one.written ≤ length lent
      pub taken_within : taken + one.taken ≤ length input
      pub length-kept : length (back written output left) ≡ length lent
      pub again : (one.taken ≡ 0 → ⊥)
          → Ongoing p input closed lent first (back written output left) (taken + one.taken) (written + one.written) one.state
      pub answer : one.taken ≡ 0 → after one ≡ ran_of (everything p input closed lent first)
      pub leaves : one.taken ≡ 0 → back written output left ≡ output_after (everything p input closed lent first) lent

    abbrev next_in : List ℕ → Outcome S
    next_in lent-part = runs p 1 closed (length lent-part) (part taken input) state

    pub stepped : {one : Ran S} {left : List ℕ}
        → one ≡ ran_of (next_in (part written output))
        → left ≡ output_after (next_in (part written output)) (part written output)
        → Stepped one left
    stepped {one} {left} told left_is =
        let sized = length-drop written lent in
        let said : one ≡ ran_of next = rw (part_is, sized, tail input taken) at told in
        let out = next_output {left = left} (left_is ∙ rw (part_is, sized, tail input taken)) in
        rw said
        (record {
          filled_within = omega (arith, its_first.fits, g.room);
          taken_within = omega (arith, its_first.within, length-drop taken input, g.within);
          length-kept = rw (out, length-append, counted, length-drop) (omega (arith, its_first.fits, g.room));
          again = λ some. goes_on some out;
          answer = λ none. rw (ends none, counted);
          leaves = λ none. out ∙ rw (ends none, counted);
        })
