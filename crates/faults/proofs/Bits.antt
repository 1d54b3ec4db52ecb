-- The fault word bit by bit: a bit of two words together, of the live ones and of one flag; and a word is not 0 just where a bit is 1.
use mathlib.Core.Path.{◌≡◌, sym, subst}
use mathlib.Core.Bool.{Bool, true, false, ◌&&◌, ◌||◌}
use mathlib.Core.List.{List, [], ◌∷◌}
use Prim.Native.Nat.{ℕ, zero, suc, ◌+◌, ◌/◌, ◌%◌, ◌^◌}
use native.Mathlib.Nat.{zero-div, div-one, div_self}
use native.Mathlib.Omega.{arith}
use lib.Bits.{bit_and}
use lib.Arith.{bin_ind}
use lib.Dec.{T, eqb}
use lib.Pow.{pow_pos, shr-shr}
use mir.Facts.{and_yes, yes_and, eqb_yes, eqb_no, no_eqb}
use Rattle.std.proofs.lemmas.Nat.Bits.{bit_at_and, bit_at_or, bit_at-lt}
use Rattle.std.proofs.lemmas.Bool.Decides.{nat_tests}
use Rattle.numbers.proofs.Tests.{or_left, or_right, or_cases, decide}
use Rattle.faults.specs.Word.{bit, flag, ◌or◌, with, together, live, any}

pub bit_or_lem : (k f g : ℕ) → bit k (f or g) ≡ (bit k f || bit k g)
bit_or_lem k f g = rw (bit_at_or f g k) (grind (arith, nat_tests, bit_at-lt f k, bit_at-lt g k))

-- so a bit of either is one of both
pub old_bit : (k f g : ℕ) → T (bit k f) → T (bit k (f or g))
old_bit k f g t = subst T (sym (bit_or_lem k f g)) (or_left (bit k f) (bit k g) t)

pub new_bit : (k f g : ℕ) → T (bit k g) → T (bit k (f or g))
new_bit k f g t = subst T (sym (bit_or_lem k f g)) (or_right (bit k f) (bit k g) t)

pub bit_and_lem : (k f g : ℕ) → bit k (bit_and f g) ≡ (bit k f && bit k g)
bit_and_lem k f g = rw (bit_at_and f g k) (grind (arith, nat_tests, bit_at-lt f k, bit_at-lt g k))

pub bit_flag : (k : ℕ) (set : Bool) → T set → T (bit k (flag k set))
bit_flag k true t = rw (div_self (pow_pos k)) tt
bit_flag k false t = absurd t

-- a word with a bit is not 0 ..
pub from_bit : (k word : ℕ) → T (bit k word) → T (any word)
from_bit k zero t = absurd (subst (λ (n : ℕ). T (eqb (n % 2) 1)) (zero-div (2 ^ k)) t)
from_bit k (suc word) t = no_eqb {a = suc word} {b = 0} (λ none. omega (arith, none))

-- .. and one that is not 0 has a bit: its last one, or one of its half
pub some_bit : {C : Type 0} (word : ℕ) → T (any word) → ((k : ℕ) → T (bit k word) → C) → C
some_bit {C} =
    bin_ind (λ (word : ℕ). T (any word) → ((k : ℕ) → T (bit k word) → C) → C) (λ t found. absurd t)
    (λ word half t found.
    decide (eqb (word % 2) 1) (λ odd. found 0 (rw (div-one word) odd))
    (λ even.
    half (no_eqb {a = word / 2} {b = 0} (λ none. omega (arith, none, eqb_no)))
    (λ k at. found (1 + k) (subst (λ (n : ℕ). T (eqb (n % 2) 1)) (shr-shr word 1 k) at))))

-- ---- what is live

module _ (always mask : ℕ) where
  live_bit : (k f : ℕ) → bit k (live always mask f) ≡ (bit k f && bit k (always or mask))
  live_bit k f = bit_and_lem k f (always or mask)

  -- flags that only grow: what was live stays live
  pub stays_live :
      (f g : ℕ)
      → ((k : ℕ) → T (bit k f) → T (bit k g))
      → T (any (live always mask f))
      → T (any (live always mask g))
  stays_live f g grows t =
      some_bit (live always mask f) t
      (λ k at.
      let (set, enabled) = and_yes (bit k f) (bit k (always or mask)) (subst T (live_bit k f) at) in
      from_bit k (live always mask g)
      (subst T (sym (live_bit k g)) (yes_and (bit k g) (bit k (always or mask)) (grows k set) enabled)))

  -- "flags, which stay until cleared": flags are added, and both the old and the new are live
  pub old_stays : (f g : ℕ) → T (any (live always mask f)) → T (any (live always mask (f or g)))
  old_stays f g = stays_live f (f or g) (λ k. old_bit k f g)

  pub new_shows : (f g : ℕ) → T (any (live always mask g)) → T (any (live always mask (f or g)))
  new_shows f g = stays_live g (f or g) (λ k. new_bit k f g)

  -- a flag that is set and enabled is live
  pub is_live : (k f : ℕ) → T (bit k f) → T (bit k (always or mask)) → T (any (live always mask f))
  is_live k f set enabled =
      from_bit k (live always mask f)
      (subst T (sym (live_bit k f)) (yes_and (bit k f) (bit k (always or mask)) set enabled))

-- ---- the word of several flags

-- one of these flags has this bit and is set
abbrev pub sets : ℕ → List (ℕ × Bool) → Bool
sets k [] = false
sets k (f ∷ flags) = eqb f.0 k && f.1 || sets k flags

kept_with : (k word : ℕ) (flags : List (ℕ × Bool)) → T (bit k word) → T (bit k (with word flags))
kept_with k word [] t = t
kept_with k word (f ∷ flags) t = kept_with k (word or flag f.0 f.1) flags (old_bit k word (flag f.0 f.1) t)

set_with : (k word : ℕ) (flags : List (ℕ × Bool)) → T (sets k flags) → T (bit k (with word flags))
set_with k word [] t = absurd t
set_with k word (f ∷ flags) t =
    or_cases (eqb f.0 k && f.1) (sets k flags) t
    (λ u.
    let (same, set) = and_yes (eqb f.0 k) f.1 u in
    kept_with k (word or flag f.0 f.1) flags
    (new_bit k word (flag f.0 f.1)
    (subst (λ (j : ℕ). T (bit k (flag j f.1))) (sym (eqb_yes same)) (bit_flag k f.1 set))))
    (set_with k (word or flag f.0 f.1) flags)

pub set_bit : (k : ℕ) (flags : List (ℕ × Bool)) → T (sets k flags) → T (bit k (together flags))
set_bit k flags = set_with k 0 flags

-- no bit but these
module _ (bits : ℕ) where
  abbrev pub Within : ℕ → Type 0
  Within word = (k : ℕ) → T (bit k word) → T (bit k bits)

  pub none_within : Within 0
  none_within k t = absurd (from_bit k 0 t)

  pub both_within : (f g : ℕ) → Within f → Within g → Within (f or g)
  both_within f g f-within g_within k t =
      or_cases (bit k f) (bit k g) (subst T (bit_or_lem k f g) t) (f-within k) (g_within k)

  -- each flag's bit is one of these: antt computes it of a list
  abbrev pub inside : List (ℕ × Bool) → Bool
  inside [] = true
  inside (f ∷ flags) = eqb (flag f.0 true or bits) bits && inside flags

  pub flag_within : (j : ℕ) (set : Bool) → T (eqb (flag j true or bits) bits) → Within (flag j set)
  flag_within j true among k t = subst (λ (word : ℕ). T (bit k word)) (eqb_yes among) (old_bit k (flag j true) bits t)
  flag_within j false among k t = none_within k t

  with_within : (word : ℕ) (flags : List (ℕ × Bool)) → Within word → T (inside flags) → Within (with word flags)
  with_within word [] within t = within
  with_within word (f ∷ flags) within t =
      let (first, rest) = and_yes (eqb (flag f.0 true or bits) bits) (inside flags) t in
      with_within (word or flag f.0 f.1) flags
      (both_within word (flag f.0 f.1) within (flag_within f.0 f.1 first))
      rest

  pub together_within : (flags : List (ℕ × Bool)) → T (inside flags) → Within (together flags)
  together_within flags = with_within 0 flags none_within
