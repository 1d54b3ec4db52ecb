-- Numbers in bytes: document 01, "Numbers are two bytes, high first"; document 02, M-102: "two bytes each, high first", "high byte first".
use Rattle.std.specs.Prelude.{ℕ, zero, suc, ◌+◌, ◌*◌, ◌/◌, ◌%◌, List, [], ◌∷◌, ◌++◌, get_or}

-- the byte at a place, and 0 past the end
abbrev pub byte : ℕ → List ℕ → ℕ
byte at bytes = get_or bytes at 0

-- the number whose first byte stands at a place
abbrev pub number : ℕ → List ℕ → ℕ
number at bytes = byte at bytes * 256 + byte (at + 1) bytes

-- so many numbers, one after the other
unfoldable pub numbers : ℕ → ℕ → List ℕ → List ℕ
numbers zero at bytes = []
numbers (suc count) at bytes = number at bytes ∷ numbers count (at + 2) bytes

-- the two bytes of a number
abbrev pub word : ℕ → List ℕ
word n = n / 256 ∷ n % 256 ∷ []

-- the bytes of numbers, one after the other
unfoldable pub words : List ℕ → List ℕ
words [] = []
words (n ∷ more) = word n ++ words more
