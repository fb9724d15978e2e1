-- Characters as bytes, for what is printed.
use Rattle.std.specs.Prelude.{ℕ, List, [], ◌∷◌}
use Prim.Native.Char.{code}
use Prim.Native.String.{String}
use Prim.Native.String.{[] as no_text, ◌∷◌ as ◌before◌}

abbrev pub newline : ℕ
newline = 10

abbrev pub space : ℕ
space = 32

abbrev pub minus : ℕ
minus = 45

abbrev pub digit_zero : ℕ
digit_zero = 48

-- A text as bytes: the number of each character, which is its byte in ASCII.
unfoldable pub ascii : String → List ℕ
ascii no_text = []
ascii (c before s) = code c ∷ ascii s
