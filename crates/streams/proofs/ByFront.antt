-- A run with room for a line does what stands at the front of its bytes, and the run with fuel for one record does no more.
use mathlib.Core.Path.{◌≡◌, ◌∙◌}
use mathlib.Core.Bool.{Bool, false}
use mathlib.Core.List.{List, append-nil}
use Prim.Native.Nat.{ℕ, suc, ◌+◌, ◌-◌, ◌≤◌, ◌<◌}
use native.Mathlib.Omega.{arith}
use lib.ListN.{length, drop}
use borrow.Author.Tests.{lt-ltb, le-ltb}
use Rattle.streams.specs.Run.{Front, whole, Program, rest, lined, follow, runs}

module _ {S R : Type 0} (p : Program S R) where
  module _ (fuel : ℕ) (closed : Bool) (room : ℕ) (bytes : List ℕ) (s : S) where
    pub at_tight : room < p.line_room → runs p (suc fuel) closed room bytes s ≡ rest s
    unfolding runs
    at_tight tight = rw (lt-ltb room p.line_room tight)

    pub by_front : p.line_room ≤ room → {f : Front R} → p.front bytes ≡ f
        → runs p (suc fuel) closed room bytes s
        ≡ follow p closed s f (λ (r : R). runs p fuel closed (room - length (p.line s r)) (drop (p.size_of r) bytes) (p.next s r))
    unfolding runs
    by_front wide is = rw (le-ltb room p.line_room wide, is)

  module _ (closed : Bool) (room : ℕ) (bytes : List ℕ) (s : S) (wide : p.line_room ≤ room) where
    pub one_front : {f : Front R} → p.front bytes ≡ f
        → runs p 1 closed room bytes s ≡ follow p closed s f (λ (r : R). rest (p.next s r))
    unfolding runs
    one_front is = by_front 0 closed room bytes s wide is

    pub one_whole : (r : R) → p.front bytes ≡ whole r
        → runs p 1 closed room bytes s ≡ lined (p.line s r) (p.next s r) (p.size_of r) false
    one_whole r is = one_front is ∙ (let size : p.size_of r + 0 ≡ p.size_of r = omega arith in rw (append-nil, size))
