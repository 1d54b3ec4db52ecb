-- The line at the front of some bytes.
use Rattle.std.specs.Prelude.{ℕ, ◌+◌, ◌==◌, Option, List, length, take, position, option_map, unwrap_or}
use Prim.Native.Char.{code}

-- how many bytes it has, its line feed included, if there is a line feed
unfoldable pub line_size : List ℕ → Option ℕ
line_size bytes = option_map (λ at. at + 1) (position (λ byte. byte == code "\n") bytes)

-- a line ends with its line feed; without one, all bytes are a part of it
abbrev pub line_of : List ℕ → List ℕ
line_of bytes = take (unwrap_or (line_size bytes) (length bytes)) bytes
