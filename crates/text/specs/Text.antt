-- Texts as bytes.
use Rattle.std.specs.Prelude.{ℕ, List, [], ◌∷◌}
use Prim.Native.Char.{code}
use Prim.Native.String.{String}
use Prim.Native.String.{[] as none, ◌∷◌ as then}

-- the bytes of a text, in ASCII
abbrev pub text : String → List ℕ
text none = []
text (then c s) = code c ∷ text s
