-- The page of the bench programs: "decimal numbers (a minus before a negative one ..)".
use Rattle.std.specs.Prelude.{ℕ, zero, suc, ◌+◌, ◌-◌, ◌/◌, ◌%◌, min, cond, List, [], ◌∷◌, ◌++◌, ltb, ℤ, pos, negsuc, length, replicate}
use Prim.Native.Char.{code}

-- the decimal digits of a number that has `most` at most: the last is the remainder, those before it the quotient's, if there is any
unfoldable pub decimals : ℕ → ℕ → List ℕ
decimals zero n = []
decimals (suc most) n = cond (ltb n 10) [] (decimals most (n / 10)) ++ ((code "0" + n % 10) ∷ [])

-- no number of 64 bits has more than twenty
unfoldable pub decimal : ℕ → List ℕ
decimal n = decimals 20 n

-- "a minus before a negative one"
unfoldable pub signed_decimal : ℤ → List ℕ
signed_decimal (pos n) = decimal n
signed_decimal (negsuc n) = code "-" ∷ decimal (suc n)

-- a number at the left of a column: behind its digits blanks up to the width. No column is wider than twenty, as no number is.
unfoldable pub column : ℕ → ℕ → List ℕ
column width n = decimal n ++ replicate (min width 20 - length (decimal n)) (code " ")
