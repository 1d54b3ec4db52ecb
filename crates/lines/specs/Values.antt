-- The value of a text: the other way round than `report`'s Text.antt. A text that shows no value is given some value: whether the
-- line has its form is asked of the whole line (Shown.antt).
use Rattle.std.specs.Prelude.{cond, ℕ, ◌+◌, ◌*◌, ◌-◌, ◌%◌, List, [], ◌∷◌, eqb, ltb, ℤ, Option, Some, None}
use Prim.Native.Char.{code}
use Rattle.std.specs.Int.{w16}
use Rattle.std.proofs.Common.{to_z}
use Rattle.hall.specs.declared.fate.Fate.TheVariants.{Dead, First, Same, Forward, Back, Stray}
use Rattle.hall.specs.declared.fate.Fate.{Fate}

-- a digit has its value in the low four bits of its byte, the letters A to F nine less
abbrev pub value_of : ℕ → ℕ
value_of byte = cond (ltb byte (code "A")) (byte % 16) ((byte + 9) % 16)

-- the digits from the left, behind those that made `before`: each makes what stands before it so many times as much
unfoldable pub onward : ℕ → ℕ → List ℕ → ℕ
onward base before [] = before
onward base before (byte ∷ bytes) = onward base (before * base + value_of byte) bytes

abbrev pub value : ℕ → List ℕ → ℕ
value base bytes = onward base 0 bytes

-- the signed 16-bit number of a sign and an absolute value: "-" has its two's complement
abbrev pub signed_of : ℕ → ℕ → ℤ
signed_of sign absolute = to_z w16 (cond (eqb sign (code "-")) ((65536 - absolute % 65536) % 65536) (absolute % 65536))

-- two letters tell the ten names apart
abbrev pub state_of : ℕ → ℕ → ℕ
state_of first second =
    cond (eqb first (code "I")) 0
    (cond (eqb first (code "S")) 1
    (cond (eqb first (code "O")) (cond (eqb second (code "F")) 2 8)
    (cond (eqb first (code "B")) 3
    (cond (eqb first (code "M")) 4
    (cond (eqb first (code "F")) 5 (cond (eqb first (code "C")) 6 (cond (eqb first (code "P")) 7 9)))))))

-- 02, M-105: "one letter (F, S, W, B, D, X, or a full stop otherwise)": any byte that is none of the six tells of no sample
abbrev pub judged_of : ℕ → Option Fate
judged_of letter =
    cond (eqb letter (code "F")) (Some First)
    (cond (eqb letter (code "S")) (Some Same)
    (cond (eqb letter (code "W")) (Some Forward)
    (cond (eqb letter (code "B")) (Some Back)
    (cond (eqb letter (code "D")) (Some Dead) (cond (eqb letter (code "X")) (Some Stray) None)))))
