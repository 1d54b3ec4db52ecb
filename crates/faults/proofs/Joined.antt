-- Words of flags as wholes: flags are joined in any order, and of one flag that flag is live or nothing.
use mathlib.Core.Path.{◌≡◌, refl, ap, ◌∙◌}
use mathlib.Core.Bool.{Bool, true, false, ◌&&◌, cond}
use mathlib.Core.List.{List, [], ◌∷◌, ◌++◌}
use Prim.Native.Nat.{ℕ, zero, suc, ◌*◌, ◌^◌, ◌<◌}
use native.Mathlib.Omega.{arith}
use lib.Bits.{and_comm, and_zero_l}
use lib.Dec.{eqb}
use Rattle.std.specs.Int.{bit_at}
use Rattle.std.proofs.lemmas.Nat.Bits.{bit_at_and, bit_at_or, bit_at-lt, and_pow, same_from_bits}
use Rattle.faults.specs.Word.{bit, flag, ◌or◌, with, together, live}

-- ---- in any order

pub or_swap : (f g h : ℕ) → (f or g or h) ≡ (f or h or g)
or_swap f g h = same_from_bits (f or g or h) (f or h or g) (λ k. simp bit_at_or (omega arith))

pub or_assoc : (f g h : ℕ) → (f or (g or h)) ≡ (f or g or h)
or_assoc f g h = same_from_bits (f or (g or h)) (f or g or h) (λ k. simp bit_at_or (omega arith))

-- the first of several flags may as well be the last
first_last :
    (word : ℕ) (f : ℕ × Bool) (flags : List (ℕ × Bool))
    → with word (f ∷ flags) ≡ (with word flags or flag f.0 f.1)
first_last word f [] = refl
first_last word f (g ∷ flags) =
    ap (λ (w : ℕ). with w flags) (or_swap word (flag f.0 f.1) (flag g.0 g.1))
    ∙ first_last (word or flag g.0 g.1) f flags

taken_out_of :
    (word : ℕ) (before : List (ℕ × Bool)) (f : ℕ × Bool) (behind : List (ℕ × Bool))
    → with word (before ++ (f ∷ behind)) ≡ (with word (before ++ behind) or flag f.0 f.1)
taken_out_of word [] f behind = first_last word f behind
taken_out_of word (g ∷ before) f behind = taken_out_of (word or flag g.0 g.1) before f behind

-- one of several flags, and the others
pub taken_out :
    (before : List (ℕ × Bool)) (f : ℕ × Bool) (behind : List (ℕ × Bool))
    → together (before ++ (f ∷ behind)) ≡ (together (before ++ behind) or flag f.0 f.1)
taken_out = taken_out_of 0

-- ---- what is live

-- ---- what is live

-- a last bit is 0 or 1
last : (P : ℕ → Type 0) (n : ℕ) → n < 2 → P 0 → P 1 → P n
last P zero small p0 p1 = p0
last P (suc zero) small p0 p1 = p1
last P (suc (suc n)) small p0 p1 = absurd (omega arith)

module _ (always mask : ℕ) where
  -- what is live of two words is live of each
  pub live_each : (f g : ℕ) → live always mask (f or g) ≡ (live always mask f or live always mask g)
  live_each f g =
      same_from_bits (live always mask (f or g)) (live always mask f or live always mask g)
      (λ k. simp (bit_at_and, bit_at_or) (omega arith))

  -- of one flag that flag or nothing
  pub live_flag : (k : ℕ) (set : Bool) → live always mask (flag k set) ≡ flag k (set && bit k (always or mask))
  live_flag k true =
      rw (and_comm (2 ^ k) (always or mask), and_pow (always or mask) k)
      (last (λ (n : ℕ). n * 2 ^ k ≡ cond (eqb n 1) (2 ^ k) 0) (bit_at (always or mask) k)
      (bit_at-lt (always or mask) k) (omega arith) (omega arith))
  live_flag k false = and_zero_l (always or mask)
