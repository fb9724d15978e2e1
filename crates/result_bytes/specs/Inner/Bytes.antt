-- Bytes written one after the other, as far as they fit; and their count.
use Rattle.std.specs.Prelude.{ℕ, ◌+◌, ◌^◌, true, false, List, ◌≡◌, ltb, length}
use Rattle.formats.specs.Written.{written}

-- No buffer is so long, so bytes are not counted from there on.
abbrev pub count_limit : ℕ
count_limit = 2 ^ 63

-- The count after n bytes more.
unfoldable pub counted : ℕ → ℕ → ℕ
counted at n = elim (ltb at count_limit) [ true ↦ at + n | false ↦ at ]

-- These bytes are written at an offset, where they fit, and counted.
pub record Says (bytes output output' : List ℕ) (at r : ℕ) : Type 0 where
  pub wrote : output' ≡ written output at bytes
  pub count : r ≡ counted at (length bytes)
