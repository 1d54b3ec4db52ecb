-- The length of the bytes is fuel enough, and room in which no line is refused is room enough: more of either changes nothing, since
-- each record takes a byte at least.
use mathlib.Core.Path.{◌≡◌, refl, ap, sym}
use mathlib.Core.Bool.{Bool, cond}
use mathlib.Core.List.{List}
use Prim.Native.Nat.{ℕ, zero, suc, ◌-◌, ◌≤◌}
use native.Mathlib.Omega.{arith}
use lib.Dec.{ltb, ltb→lt, nltb→le}
use lib.ListN.{length, drop, length-drop}
use Rattle.numbers.proofs.Tests.{decide}
use Rattle.streams.specs.Run.{Front, end, unknown, short, whole, Program, Outcome, rest, onto, follow, runs, run}
use Rattle.streams.specs.Stream.{Lawful}
use Rattle.streams.proofs.ByFront.{at_tight, by_front}

pub follow_same :
    {S R : Type 0} (p : Program S R) (closed : Bool) (s : S) (f : Front R) {one other : R → Outcome S}
    → ((r : R) → f ≡ whole r → one r ≡ other r)
    → follow p closed s f one ≡ follow p closed s f other
follow_same p closed s end same = refl
follow_same p closed s unknown same = refl
follow_same p closed s short same = refl
follow_same p closed s (whole r) same = ap (onto (p.line s r) (p.size_of r)) (same r refl)

module _ {S R : Type 0} {p : Program S R} (law : Lawful p) where
  -- without bytes a run rests
  rests : (fuel : ℕ) (closed : Bool) (room : ℕ) (bytes : List ℕ) (s : S) → length bytes ≤ 0
      → runs p (suc fuel) closed room bytes s ≡ rest s
  rests fuel closed room bytes s none =
      decide (ltb room p.line_room) (λ tight. at_tight p fuel closed room bytes s (ltb→lt room p.line_room tight))
      (λ wide. by_front p fuel closed room bytes s (nltb→le room p.line_room wide) (law.empty bytes (omega arith)))

  -- two rooms of which either both have room for a line or none, here and behind each record
  module _
      (closed : Bool) (Alike : ℕ → ℕ → List ℕ → Type 0)
      (here : (room other : ℕ) (bytes : List ℕ) → Alike room other bytes → ltb room p.line_room ≡ ltb other p.line_room)
      (behind : (room other : ℕ) (bytes : List ℕ) (s : S) (r : R)
      → Alike room other bytes
      → p.front bytes ≡ whole r
      → Alike (room - length (p.line s r)) (other - length (p.line s r)) (drop (p.size_of r) bytes))
    where
      pub same_run : (fuel more : ℕ) {room other : ℕ} {bytes : List ℕ} (s : S)
          → Alike room other bytes → (length bytes ≤ fuel) × (length bytes ≤ more)
          → runs p fuel closed room bytes s ≡ runs p more closed other bytes s
      unfolding runs
      same_run zero zero s alike enough = refl
      same_run zero (suc more) {room} {other} {bytes} s alike enough = sym (rests more closed other bytes s enough.0)
      same_run (suc fuel) zero {room} {other} {bytes} s alike enough = rests fuel closed room bytes s enough.1
      same_run (suc fuel) (suc more) {room} {other} {bytes} s alike enough =
          rw (here room other bytes alike)
          (ap (cond (ltb other p.line_room) (rest s))
          (follow_same p closed s (p.front bytes)
          (λ r is.
          let less = length-drop (p.size_of r) bytes in
          same_run fuel more (p.next s r) (behind room other bytes s r alike is)
          (omega (arith, law.a_byte r, less, enough.0), omega (arith, law.a_byte r, less, enough.1)))))

  -- in one room
  pub any_fuel : (fuel : ℕ) (closed : Bool) (room : ℕ) (bytes : List ℕ) (s : S) → length bytes ≤ fuel
      → runs p fuel closed room bytes s ≡ run p closed room bytes s
  any_fuel fuel closed room bytes s enough =
      same_run closed (λ room other bytes. room ≡ other) (λ room other bytes same. ap (λ (room : ℕ). ltb room p.line_room) same)
      (λ room other bytes s r same is. ap (λ (room : ℕ). room - length (p.line s r)) same)
      fuel (length bytes) s refl (enough, omega arith)
