-- A number held to plus or minus 32767.
use Rattle.std.specs.Prelude.{min, ℤ, pos, negsuc}

-- the nearest number from -32767 to 32767
abbrev pub limit : ℤ → ℤ
limit (pos n) = pos (min n 32767)
limit (negsuc n) = negsuc (min n 32766)
