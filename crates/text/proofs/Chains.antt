-- Texts put one after the other are one text put at once, so that a chain of writers is one run of bytes.
use Prim.Native.Nat.{ℕ, ◌+◌, ◌-◌, ◌≤◌, ◌<◌, min}
use native.Mathlib.Nat.{zero-add}
use native.Mathlib.Omega.{arith}
use mathlib.Core.Path.{◌≡◌, sym, ap, ◌∙◌}
use mathlib.Core.List.{List, [], ◌++◌, append_assoc, append-nil}
use lib.ListN.{length, take, drop, length-append, length-take, length-drop, drop_of_length-le, take-append-drop}
use lib.Seq.{take-append-le, take-append-add, take_at, drop_at, drop-drop, length-take-le}
use Rattle.std.proofs.Common.{⊎_elim}
use Rattle.std.proofs.lemmas.Bool.{cases_lt}
use Rattle.std.proofs.lemmas.Grind.{common_steps}
use Rattle.text.specs.Put.{behind, written}

pub length-written : (at : ℕ) (bytes lent : List ℕ) → length (written at bytes lent) ≡ length lent
unfolding written
length-written at bytes lent = simp (length-take, length-append, length-drop) (omega arith)

-- where the place lies behind the last byte nothing is written
pub written_past : (at : ℕ) (bytes lent : List ℕ) → length lent ≤ at → written at bytes lent ≡ lent
unfolding written
written_past at bytes lent past = grind (arith, common_steps)

-- where all of it fits nothing is cut off
pub written_whole : (at : ℕ) (bytes lent : List ℕ) → at + length bytes ≤ length lent
    → written at bytes lent ≡ take at lent ++ bytes ++ drop (at + length bytes) lent
unfolding written
written_whole at bytes lent fits = grind (arith, common_steps)

-- where it does not, the front of it
pub written_cut : (at : ℕ) (bytes lent : List ℕ) → at ≤ length lent → length lent ≤ at + length bytes
    → written at bytes lent ≡ take at lent ++ take (length lent - at) bytes
unfolding written
written_cut at bytes lent inside cut =
    let long : length (take at lent) ≡ at = length-take-le at lent inside in
    let size : length lent ≡ length (take at lent) + (length lent - at) = omega arith in
    rw (drop_of_length-le lent cut, append-nil)
    (ap (λ (n : ℕ). take n (take at lent ++ bytes)) size ∙ take-append-add (take at lent) bytes (length lent - at))

-- what the code leaves: as many bytes as there is room for, from a place on that is no further than the end
pub written_clipped :
    (at : ℕ) (bytes lent : List ℕ) (a n : ℕ)
    → a ≡ min at (length lent)
    → n ≡ min (length bytes) (length lent - a)
    → take a lent ++ (take n bytes ++ drop (a + n) lent) ≡ written at bytes lent
written_clipped at bytes lent a n place count =
    grind (arith, common_steps, written_past at bytes lent, written_whole at bytes lent, written_cut at bytes lent)

-- from the first byte on
pub written_front : (bytes lent : List ℕ) → length bytes ≤ length lent → written 0 bytes lent ≡ bytes ++ drop (length bytes) lent
written_front bytes lent fits =
    written_whole 0 bytes lent (omega arith) ∙ ap (λ (n : ℕ). bytes ++ drop n lent) (zero-add (length bytes))

pub behind_front : (bytes lent : List ℕ) → length bytes ≤ length lent → behind 0 bytes lent ≡ length bytes
unfolding behind
behind_front bytes lent fits = omega arith

-- the second text follows the first
pub behind_behind : (at : ℕ) (a b lent : List ℕ) → behind (behind at a lent) b (written at a lent) ≡ behind at (a ++ b) lent
unfolding behind
behind_behind at a b lent = rw (length-written at a lent, length-append a b) (omega arith)

module _ (at : ℕ) (a b lent : List ℕ) where
  abbrev Joined : Type 0
  Joined = written (behind at a lent) b (written at a lent) ≡ written at (a ++ b) lent

  past : length lent < at → Joined
  unfolding behind
  past far = grind (arith, written_past, length-written)

  -- the first reaches the end: the second writes nothing
  cut : at ≤ length lent → length lent < at + length a → Joined
  unfolding behind
  cut inside full = grind (arith, written_past, written_cut, length-written, length-append {A = ℕ}, take-append-le {A = ℕ})

  -- all of the first fits
  whole : at + length a ≤ length lent → Joined
  unfolding written behind
  whole fits =
      let place : min (at + length a) (length lent) ≡ at + length a = omega arith in
      let long : length (take at lent ++ a) ≡ at + length a =
      simp length-append (omega (arith, length-take-le at lent (omega arith))) in
      let rest = drop (at + length a) lent in
      let again : drop (at + length a + length b) (take at lent ++ a ++ rest) ≡ drop (at + length a + length b) lent =
      sym (drop-drop (length b) (at + length a) (take at lent ++ a ++ rest))
      ∙ ap (drop (length b)) (drop_at (take at lent ++ a) rest (at + length a) long)
      ∙ drop-drop (length b) (at + length a) lent in
      let places : at + length a + length b ≡ at + length (a ++ b) = simp length-append (omega arith) in
      rw (
        place,
        length-written at a lent,
        written_whole at a lent fits,
        take_at (take at lent ++ a) rest (at + length a) long,
        again,
        places,
        append_assoc (take at lent) a b,
      )

  pub written_written : written (behind at a lent) b (written at a lent) ≡ written at (a ++ b) lent
  written_written =
      ⊎_elim past (λ inside. ⊎_elim (cut inside) whole (cases_lt (length lent) (at + length a))) (cases_lt (length lent) at)

-- for a chain of writers that is proved by the search: `#[tactic(auto, using(text::proofs::Chains::chained))]`
pub ruleset chained = (behind_behind, written_written)

-- what a writer promises of a text: the place behind it, and what stands in the lent bytes
pub record Puts (at : ℕ) (bytes lent : List ℕ) (next : ℕ) (after : List ℕ) : Type 0 where
  pub place : next ≡ behind at bytes lent
  pub out : after ≡ written at bytes lent

-- the first writer of a chain, and one more that begins where those before it end
pub first : {at : ℕ} {lent : List ℕ} {next : ℕ} {after : List ℕ} (bytes : List ℕ)
    → (next ≡ behind at bytes lent) × (after ≡ written at bytes lent)
    → Puts at bytes lent next after
first bytes put = record { place = put.0; out = put.1 }

-- before the first writer of a loop
pub nothing_put : {at : ℕ} {lent : List ℕ} → at ≤ length lent → Puts at [] lent at lent
unfolding behind
nothing_put {at} {lent} inside =
    let same : at + 0 ≡ at = omega arith in
    record {
      place = omega arith;
      out = sym (written_whole at [] lent (omega arith) ∙ rw (append-nil, same) (take-append-drop at lent));
    }

pub and_then : {at : ℕ} {bytes lent : List ℕ} {next : ℕ} {middle : List ℕ} {last : ℕ} {after : List ℕ} (more : List ℕ)
    → Puts at bytes lent next middle
    → (last ≡ behind next more middle) × (after ≡ written next more middle)
    → Puts at (bytes ++ more) lent last after
and_then {at} {bytes} {lent} more before put =
    record {
      place = put.0 ∙ rw (before.place, before.out) (behind_behind at bytes more lent);
      out = put.1 ∙ rw (before.place, before.out) (written_written at bytes more lent);
    }
