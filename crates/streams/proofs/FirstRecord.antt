-- A run is its first record and then the run over what is left: what a turn of the loop takes from the definition.
use mathlib.Core.Path.{◌≡◌, refl, ap, sym, ◌∙◌}
use mathlib.Core.Bool.{Bool, cond}
use mathlib.Core.List.{List}
use Prim.Native.Nat.{ℕ, suc, ◌-◌, ◌≤◌}
use native.Mathlib.Omega.{arith}
use lib.Dec.{ltb, ltb→lt, nltb→le}
use lib.ListN.{length, drop, length-drop}
use Rattle.numbers.proofs.Tests.{decide, by_test}
use Rattle.streams.specs.Run.{Front, end, unknown, short, whole, Program, Outcome, rest, refused, onto, runs, run}
use Rattle.streams.specs.Stream.{Lawful}
use Rattle.streams.proofs.AnyFuel.{any_fuel}
use Rattle.streams.proofs.ByFront.{at_tight, by_front, one_whole}

module _ {S R : Type 0} {p : Program S R} (law : Lawful p)
    (closed : Bool) (room : ℕ) (bytes : List ℕ) (s : S)
  where
    -- the run with fuel for one record
    abbrev pub one : Outcome S
    one = runs p 1 closed room bytes s

    -- It stays within the room and within the bytes; where it takes nothing it is the whole run, and else the run goes on after it.
    pub record FirstRecord : Type 0 where
      pub fits : length one.lines ≤ room
      pub within : one.taken ≤ length bytes
      pub stops : one.taken ≡ 0 → run p closed room bytes s ≡ one
      pub goes : (one.taken ≡ 0 → ⊥)
          → run p closed room bytes s
          ≡ onto one.lines one.taken (run p closed (room - length one.lines) (drop one.taken bytes) one.state)

    spare : run p closed room bytes s ≡ runs p (suc (length bytes)) closed room bytes s
    spare = sym (any_fuel law (suc (length bytes)) closed room bytes s (omega arith))

    -- it takes nothing
    still : (o : Outcome S) → ((fuel : ℕ) → runs p (suc fuel) closed room bytes s ≡ o) → o.taken ≡ 0
        → length o.lines ≤ room → FirstRecord
    still o is none fits =
        record {
          fits = rw (is 0) fits;
          within = rw (is 0, none) (omega arith);
          stops = λ _. spare ∙ is (length bytes) ∙ sym (is 0);
          goes = λ some. absurd (some (ap (λ (x : Outcome S). x.taken) (is 0) ∙ none));
        }

    module _ (wide : p.line_room ≤ room) where
      -- it takes a record
      moves : (r : R) → p.front bytes ≡ whole r → FirstRecord
      moves r is =
          let first = one_whole p closed room bytes s wide r is in
          record {
            fits = rw first (omega (arith, law.fits s bytes r is));
            within = rw first (law.within bytes r is);
            stops = λ none. absurd (omega (arith, law.a_byte r, rw first at none));
            goes = λ _.
                rw first
                (spare ∙ by_front p (length bytes) closed room bytes s wide is
                ∙ ap (onto (p.line s r) (p.size_of r))
                (any_fuel law (length bytes) closed (room - length (p.line s r)) (drop (p.size_of r) bytes) (p.next s r)
                (omega (arith, length-drop (p.size_of r) bytes))));
          }

      by_its_front : (f : Front R) → p.front bytes ≡ f → FirstRecord
      by_its_front end is = still (rest s) (λ fuel. by_front p fuel closed room bytes s wide is) refl (omega arith)
      by_its_front unknown is =
          still (refused p s) (λ fuel. by_front p fuel closed room bytes s wide is) refl (omega (arith, law.refusal_fits s))
      by_its_front short is =
          still (cond closed (refused p s) (rest s)) (λ fuel. by_front p fuel closed room bytes s wide is)
          (by_test (λ (o : Outcome S). o.taken ≡ 0) closed (λ _. refl) (λ _. refl))
          (by_test (λ (o : Outcome S). length o.lines ≤ room) closed (λ _. omega (arith, law.refusal_fits s)) (λ _. omega arith))
      by_its_front (whole r) is = moves r is

    pub first_record : FirstRecord
    first_record =
        decide (ltb room p.line_room)
        (λ tight. still (rest s) (λ fuel. at_tight p fuel closed room bytes s (ltb→lt room p.line_room tight)) refl (omega arith))
        (λ wide. by_its_front (nltb→le room p.line_room wide) (p.front bytes) refl)
