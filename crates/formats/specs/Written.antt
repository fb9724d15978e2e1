-- Writing into a lent buffer: bytes at an offset, the rest untouched.
use Rattle.std.specs.Prelude.{ℕ, ◌+◌, ◌≤◌, ◌<◌, true, false, List, ◌++◌, ◌⊎◌, ◌≡◌, length, get_or, take, drop, leb}

-- The buffer s with the bytes vs written at offset p, the rest untouched. Where vs does not fit,
-- all of s is untouched. (01, Notation: "Four bytes are read or written together or none.")
unfoldable pub written : List ℕ → ℕ → List ℕ → List ℕ
written s p vs = elim (leb (p + length vs) (length s)) [ true ↦ take p s ++ (vs ++ drop (p + length vs) s) | false ↦ s ]

-- What that says, byte by byte.
pub record Wrote (s : List ℕ) (p : ℕ) (vs : List ℕ) : Type 0 where
  -- the buffer keeps its length
  pub same_length : length (written s p vs) ≡ length s
  -- where vs fits, it stands there
  pub there : (i : ℕ) → p + length vs ≤ length s → i < length vs → get_or (written s p vs) (p + i) 0 ≡ get_or vs i 0
  -- every byte before the offset and from the end of vs on is as it was
  pub untouched : (i : ℕ) → (i < p) ⊎ (p + length vs ≤ i) → get_or (written s p vs) i 0 ≡ get_or s i 0
  -- where vs does not fit, every byte is as it was
  pub or_none : length s < p + length vs → written s p vs ≡ s
