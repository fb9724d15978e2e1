-- Numbers as bytes and as 32-bit words.
use Rattle.std.specs.Prelude.{ℕ, zero, suc, ◌+◌, ◌-◌, ◌*◌, ◌/◌, ◌%◌, ◌^◌, ◌<◌, true, false, List, [], ◌∷◌, length, get_or, take, drop, leb, ltb, ℤ, pos, negsuc}

-- Each element is a byte. (Past the end `get_or` gives 0.)
abbrev pub Bytes : List ℕ → Type 0
Bytes s = (i : ℕ) → get_or s i 0 < 256

-- 01, Notation: "Numbers of several bytes stand low byte first." The bytes of n, as many as the
-- width says.
unfoldable pub bytes_of : ℕ → ℕ → List ℕ
bytes_of zero n = []
bytes_of (suc width) n = n % 256 ∷ bytes_of width (n / 256)

-- The number that bytes stand for, low byte first.
unfoldable pub number_of : List ℕ → ℕ
number_of [] = 0
number_of (b ∷ s) = b + 256 * number_of s

-- The number of that width at offset p of s, or 0 where s does not hold it whole.
unfoldable pub number_at : ℕ → List ℕ → ℕ → ℕ
number_at width s p = elim (leb (p + width) (length s)) [ true ↦ number_of (take width (drop p s)) | false ↦ 0 ]

-- 01, Notation: "Labels, i and instruction numbers are two's complement." The number that a 32-bit
-- word stands for.
unfoldable pub signed32 : ℕ → ℤ
signed32 w = elim (ltb w (2 ^ 31)) [ true ↦ pos w | false ↦ negsuc (2 ^ 32 - suc w) ]
