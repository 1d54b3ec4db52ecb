-- Document 01, "Causes": the fault word. Its bit k is 1 where the flag of cause k is set.
use Rattle.std.specs.Prelude.{ℕ, ◌/◌, ◌%◌, ◌^◌, Bool, not, cond, List, [], ◌∷◌, eqb}
use Rattle.std.specs.Int.Bits.{bit_and, bit_or}

infixl 30 ◌or◌
-- the bit is 1
abbrev pub bit : ℕ → ℕ → Bool
bit k word = eqb (word / 2 ^ k % 2) 1

-- the word of one flag, where it is set
abbrev pub flag : ℕ → Bool → ℕ
flag k set = cond set (2 ^ k) 0

-- the flags of both
abbrev pub ◌or◌ : ℕ → ℕ → ℕ
f or g = bit_or f g

-- these flags besides, each given by its bit and whether it is set
abbrev pub with : ℕ → List (ℕ × Bool) → ℕ
with word [] = word
with word (f ∷ flags) = with (word or flag f.0 f.1) flags

-- the word of all these flags
abbrev pub together : List (ℕ × Bool) → ℕ
together flags = with 0 flags

-- "A flag is live if its FaultEnable bit is 1; 0 and 1 are always live.": which ones always are stands in a word of its own
abbrev pub live : ℕ → ℕ → ℕ → ℕ
live always mask flags = bit_and flags (always or mask)

-- one flag at least
abbrev pub any : ℕ → Bool
any word = not (eqb word 0)
