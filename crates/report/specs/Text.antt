-- Numbers and names as texts of one width.
use Rattle.std.specs.Prelude.{cond, ℕ, zero, suc, ◌/◌, ◌%◌, List, [], ◌∷◌, ◌++◌, ℤ, pos, nat_abs, get_or, take, replicate}
use Prim.Native.Char.{code}
use Rattle.std.specs.Int.Signed.{lt_z}
use Rattle.text.specs.Text.{text}

-- "padded with full stops to twelve": full stops follow, up to the width
abbrev pub padded : ℕ → List ℕ → List ℕ
padded width bytes = take width (bytes ++ replicate width (code "."))

-- "Hex is upper case"; below ten a digit is the same in both bases
abbrev pub digit : ℕ → ℕ
digit value = get_or (text "0123456789ABCDEF") value 0

-- the last `width` digits of n in a base, the most significant first: the last is the remainder, those before it the quotient's
unfoldable pub digits : ℕ → ℕ → ℕ → List ℕ
digits base zero n = []
digits base (suc width) n = digits base width (n / base) ++ (digit (n % base) ∷ [])

-- "zero has a plus"
abbrev pub sign : ℤ → ℕ
sign z = cond (lt_z z (pos 0)) (code "-") (code "+")

-- "sign and 5 digits"
unfoldable pub signed : ℤ → List ℕ
signed z = sign z ∷ digits 10 5 (nat_abs z)
