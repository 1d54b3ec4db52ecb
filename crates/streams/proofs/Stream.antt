-- A stream is the same in pieces as in one: what a run leaves of its bytes is the front of a record, and more bytes change nothing
-- before it.
use mathlib.Core.Path.{◌≡◌, refl, ap, sym, subst, ◌∙◌}
use mathlib.Core.Bool.{Bool, true, false, cond}
use mathlib.Core.List.{List, [], ◌∷◌, ◌++◌, append_assoc, append-nil, flatten}
use Prim.Native.Nat.{ℕ, zero, suc, ◌+◌, ◌-◌, ◌*◌, ◌≤◌}
use native.Mathlib.Nat.{mul-add, mul_assoc, mul_comm, mul-le-mul_left, mul-le-mul_right, le_of_mul-le-mul_left}
use native.Mathlib.Omega.{arith}
use lib.Dec.{T}
use lib.ListN.{length, drop, length-append, length-drop}
use lib.Seq.{drop-append-le, drop-drop}
use borrow.Author.Tests.{le-ltb}
use Rattle.streams.specs.Run.{Front, end, unknown, short, whole, Program, Outcome, onto, follow, runs, run}
use Rattle.streams.specs.Stream.{Lawful, Held, open_run, left, stream, answers, in_one, Fit, Each, Roomy}
use Rattle.streams.proofs.AnyFuel.{follow_same, same_run}
use Rattle.streams.proofs.ByFront.{by_front}
use Rattle.streams.proofs.LoopOfRun.{onto_none, onto_onto}

-- room for so many bytes and `size` more is, behind a record of that size and its line, room for so many
one_line_less : (most per line count size room wrote : ℕ) → most * (count + size) + per * line ≤ per * (room + wrote)
    → per * wrote ≤ most * size
    → most * count + per * line ≤ per * room
one_line_less most per line count size room wrote roomy rate = omega (arith, mul-add most count size, mul-add per room wrote)

-- a line for each byte, and one more, is room enough
a_line_each : (most per line count : ℕ) → most ≤ per * line → most * count + per * line ≤ per * (line * (count + 1))
a_line_each most per line count fit =
    omega (arith, mul-le-mul_right count fit, mul_assoc per line (count + 1), mul-add (per * line) count 1)

-- where no record is shorter than `shortest` and no line longer than `line`, a line has `line` bytes at most for each `shortest` bytes
pub by_the_shortest : (shortest line : ℕ) {size wrote : ℕ} → shortest ≤ size → wrote ≤ line → shortest * wrote ≤ line * size
by_the_shortest shortest line {size} {wrote} long fits =
    omega (arith, mul-le-mul_left shortest fits, mul-le-mul_left line long, mul_comm shortest line)

module _ {S R : Type 0} {p : Program S R} (law : Lawful p) where
  -- what is shown of any bytes from the bytes behind their first record holds of all
  module _
      (P : List ℕ → S → Type 0)
      (behind : (bytes : List ℕ) (s : S)
      → ((r : R) → p.size_of r ≤ length bytes → P (drop (p.size_of r) bytes) (p.next s r))
      → P bytes s)
    where
      in_fuel : (fuel : ℕ) (bytes : List ℕ) (s : S) → length bytes ≤ fuel → P bytes s
      in_fuel zero bytes s few = behind bytes s (λ r all. absurd (omega (arith, law.a_byte r, all)))
      in_fuel (suc fuel) bytes s few =
          behind bytes s
          (λ r all. in_fuel fuel (drop (p.size_of r) bytes) (p.next s r)
          (omega (arith, law.a_byte r, length-drop (p.size_of r) bytes)))

      by_records : (bytes : List ℕ) (s : S) → P bytes s
      by_records bytes s = in_fuel (length bytes) bytes s (omega arith)

  -- room for the bytes is room for the line of the first record, and behind it for the others
  wide : (room count : ℕ) → Roomy p law room count → p.line_room ≤ room
  wide room count roomy = le_of_mul-le-mul_left (omega (arith, roomy)) law.some

  roomy_behind : (room : ℕ) (bytes : List ℕ) (s : S) (r : R) → Roomy p law room (length bytes) → p.front bytes ≡ whole r
      → Roomy p law (room - length (p.line s r)) (length (drop (p.size_of r) bytes))
  roomy_behind room bytes s r roomy is =
      let wrote = length (p.line s r) in
      let count : length bytes ≡ length (drop (p.size_of r) bytes) + p.size_of r =
      omega (arith, law.within bytes r is, length-drop (p.size_of r) bytes) in
      let lines : room ≡ room - wrote + wrote = omega (arith, wide room (length bytes) roomy, law.fits s bytes r is) in
      one_line_less law.most law.per p.line_room (length (drop (p.size_of r) bytes)) (p.size_of r) (room - wrote) wrote
      (subst (λ (room : ℕ). Roomy p law room (length (drop (p.size_of r) bytes) + p.size_of r)) lines
      (subst (λ (count : ℕ). Roomy p law room count) count roomy))
      (law.at_rate s bytes r is)

  roomy_for : (count : ℕ) → Roomy p law (p.line_room * (count + 1)) count
  roomy_for count = a_line_each law.most law.per p.line_room count law.most_fit

  -- how much room there is changes nothing where there is enough
  enough_room : (fuel : ℕ) (closed : Bool) (bytes : List ℕ) (s : S) (room : ℕ) → length bytes ≤ fuel
      → Roomy p law room (length bytes)
      → runs p fuel closed room bytes s ≡ answers p closed bytes s
  enough_room fuel closed bytes s room fueled roomy =
      same_run law closed (λ room other bytes. Roomy p law room (length bytes) × Roomy p law other (length bytes))
      (λ room other bytes both.
      let here = wide room (length bytes) both.0 in
      let there = wide other (length bytes) both.1 in
      rw (le-ltb room p.line_room here, le-ltb other p.line_room there))
      (λ room other bytes s r both is. (roomy_behind room bytes s r both.0 is, roomy_behind other bytes s r both.1 is))
      fuel (length bytes) s (roomy, roomy_for (length bytes)) (fueled, omega arith)

  -- the answer to all the bytes, by what stands at their front
  answers_at : (closed : Bool) (bytes : List ℕ) (s : S) {f : Front R} → p.front bytes ≡ f
      → answers p closed bytes s ≡ follow p closed s f (λ (r : R). answers p closed (drop (p.size_of r) bytes) (p.next s r))
  answers_at closed bytes s {f} is =
      let room = p.line_room * (length bytes + 1) in
      let roomy = roomy_for (length bytes) in
      sym (enough_room (suc (length bytes)) closed bytes s room (omega arith) roomy)
      ∙ by_front p (length bytes) closed room bytes s (wide room (length bytes) roomy) is
      ∙ follow_same p closed s f
      (λ r same. enough_room (length bytes) closed (drop (p.size_of r) bytes) (p.next s r) (room - length (p.line s r))
      (omega (arith, length-drop (p.size_of r) bytes)) (roomy_behind room bytes s r roomy (is ∙ same)))

  -- the bytes `b` come after an open run over `a`
  module _ (closed : Bool) (b : List ℕ) where
    abbrev joined : List ℕ → Outcome S → Outcome S
    joined a o = cond o.ended o (onto o.lines o.taken (answers p closed (drop o.taken a ++ b) o.state))

    -- a record before an open run
    joined_onto :
        (a : List ℕ) (lines : List ℕ) (size : ℕ) (o : Outcome S)
        → onto lines size (joined (drop size a) o) ≡ joined a (onto lines size o)
    joined_onto a lines size o = go o.ended refl
      where
        go : (ended : Bool) → o.ended ≡ ended → onto lines size (joined (drop size a) o) ≡ joined a (onto lines size o)
        go true e = rw e
        go false e = rw (e, drop-drop o.taken size a) (onto_onto lines o.lines size o.taken _)

    -- all the bytes at once, and those that come first
    abbrev InParts : List ℕ → S → Type 0
    InParts a s = answers p closed (a ++ b) s ≡ joined a (answers p false a s)

    in_parts : (a : List ℕ) (s : S) → InParts a s
    in_parts = by_records InParts (λ a s again. first a s again (p.front a) refl)
      where
        first : (a : List ℕ) (s : S)
            → ((r : R) → p.size_of r ≤ length a → InParts (drop (p.size_of r) a) (p.next s r))
            → (f : Front R) → p.front a ≡ f → InParts a s
        first a s again end is = rw (answers_at false a s is) (sym (onto_none (answers p closed (a ++ b) s)))
        first a s again short is = rw (answers_at false a s is) (sym (onto_none (answers p closed (a ++ b) s)))
        first a s again unknown is = rw (answers_at false a s is) (answers_at closed (a ++ b) s (law.still_unknown a b is))
        first a s again (whole r) is =
            let all = law.within a r is in
            answers_at closed (a ++ b) s (law.still_whole a b r is)
            ∙ rw (drop-append-le (p.size_of r) a b all, again r all)
            (joined_onto a (p.line s r) (p.size_of r) (answers p false (drop (p.size_of r) a) (p.next s r)))
            ∙ ap (joined a) (sym (answers_at false a s is))

  -- where no refusal ended an open run, what it leaves is a part of a record
  module _ {most_held : ℕ} (few : Held p most_held) where
    abbrev FewLeft : List ℕ → S → Type 0
    FewLeft a s = few.Sound a → (answers p false a s).ended ≡ false → length (drop (answers p false a s).taken a) ≤ most_held

    few_left : (a : List ℕ) (s : S) → FewLeft a s
    few_left = by_records FewLeft (λ a s again. first a s again (p.front a) refl)
      where
        first : (a : List ℕ) (s : S)
            → ((r : R) → p.size_of r ≤ length a → FewLeft (drop (p.size_of r) a) (p.next s r))
            → (f : Front R) → p.front a ≡ f → FewLeft a s
        first a s again end is sound goes = rw (answers_at false a s is) (omega (arith, law.none a is))
        first a s again short is sound goes = rw (answers_at false a s is) (few.part a sound is)
        first a s again unknown is sound goes =
            absurd (subst T (sym (ap (λ (o : Outcome S). o.ended) (answers_at false a s is)) ∙ goes) tt)
        first a s again (whole r) is sound goes =
            rw (answers_at false a s is, ← drop-drop (answers p false (drop (p.size_of r) a) (p.next s r)).taken (p.size_of r) a)
            (again r (law.within a r is) (few.sound_drop (p.size_of r) a sound)
            (sym (ap (λ (o : Outcome S). o.ended) (answers_at false a s is)) ∙ goes))

  -- the buffers have room for what they may hold
  module _ (input_size output_size : ℕ) (room : Roomy p law output_size input_size) where
    -- the lines have room enough
    roomy_run : (bytes : List ℕ) (s : S) (closed : Bool) → length bytes ≤ input_size
        → run p closed output_size bytes s ≡ answers p closed bytes s
    roomy_run bytes s closed fits =
        enough_room (length bytes) closed bytes s output_size (omega arith) (omega (arith, room, mul-le-mul_left law.most fits))

    module _ {most_held : ℕ} (few : Held p most_held) where
      -- while the run goes on, no more is held than a part of a record, so that there is always room to read more
      pub left_few : (bytes : List ℕ) (s : S) → few.Sound bytes → length bytes ≤ input_size
          → (open_run p input_size output_size bytes s).ended ≡ false
          → length (left p input_size output_size bytes s) ≤ most_held
      left_few bytes s sound fits =
          subst (λ (o : Outcome S). o.ended ≡ false → length (drop o.taken bytes) ≤ most_held)
          (sym (roomy_run bytes s false fits))
          (few_left few bytes s sound)

      -- reads of so many bytes and fewer always fit
      pub always_fit :
          (pieces : List (List ℕ)) (held : List ℕ) (s : S)
          → most_held ≤ input_size
          → Each (λ piece. few.Sound piece × (length piece ≤ input_size - most_held)) pieces
          → few.Sound held
          → length held ≤ most_held
          → Fit p input_size output_size pieces held s
      unfolding Fit Each
      always_fit [] held s large small sound least = omega arith
      always_fit (piece ∷ later) held s large small sound least =
          let bytes : List ℕ = held ++ piece in
          let sounds = few.sound_append held piece sound small.0.0 in
          let fits : length bytes ≤ input_size = omega (arith, small.0.1, length-append held piece) in (
            fits,
            λ goes. always_fit later (left p input_size output_size bytes s) (open_run p input_size output_size bytes s).state large small.1
                (few.sound_drop (open_run p input_size output_size bytes s).taken bytes sounds)
                (left_few bytes s sounds fits goes),
          )

    -- a piece, and the pieces after it
    module _
        (later : List (List ℕ)) (bytes : List ℕ) (s : S)
        (again : (open_run p input_size output_size bytes s).ended ≡ false
        → stream p input_size output_size later (left p input_size output_size bytes s) (open_run p input_size output_size bytes s).state
        ≡ (answers p true (left p input_size output_size bytes s ++ flatten later) (open_run p input_size output_size bytes s).state).lines)
      where
        abbrev opened : Outcome S
        opened = open_run p input_size output_size bytes s

        piece_then : (ended : Bool) → opened.ended ≡ ended
            → cond opened.ended opened.lines
            (opened.lines ++ stream p input_size output_size later (left p input_size output_size bytes s) opened.state)
            ≡ (joined true (flatten later) bytes opened).lines
        piece_then true e = rw e
        piece_then false e = rw e (ap (λ (lines : List ℕ). opened.lines ++ lines) (again e))

    -- The lines of a stream do not depend on how it is cut: they are those of one run over all of it.
    pub one_stream : (pieces : List (List ℕ)) (held : List ℕ) (s : S) → Fit p input_size output_size pieces held s
        → stream p input_size output_size pieces held s ≡ in_one p (held ++ flatten pieces) s
    unfolding stream Fit flatten
    one_stream [] held s fits = rw (append-nil held) (ap (λ (o : Outcome S). o.lines) (roomy_run held s true fits))
    one_stream (piece ∷ later) held s fits =
        let bytes : List ℕ = held ++ piece in
        piece_then later bytes s
        (λ goes. one_stream later (left p input_size output_size bytes s) (open_run p input_size output_size bytes s).state (fits.1 goes))
        (open_run p input_size output_size bytes s).ended refl
        ∙ ap (λ (o : Outcome S). (joined true (flatten later) bytes o).lines) (roomy_run bytes s false fits.0)
        ∙ ap (λ (o : Outcome S). o.lines) (sym (in_parts true (flatten later) bytes s))
        ∙ ap (λ (l : List ℕ). (answers p true l s).lines) (append_assoc held piece (flatten later))
