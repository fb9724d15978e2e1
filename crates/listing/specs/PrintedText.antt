-- What the functions of the listing program answer: the longest text, and text put into a lent
-- buffer.
use Rattle.std.specs.Prelude.{ℕ, ◌+◌, ◌*◌, ◌≤◌, List, ◌≡◌, length}
use Rattle.formats.specs.Written.{written}
use Rattle.meaning.specs.Instructions.{most_instructions}

-- The longest line: an address of 4 digits, two bytes of 3, an operand of 5, a sign and 10 digits,
-- and a character after each.
abbrev pub longest_line : ℕ
longest_line = 31

-- Room for every listing: the longest heading has 10 bytes, and there are at most as many lines as
-- instructions. (A refusal is shorter.)
abbrev pub most_text : ℕ
most_text = 10 + longest_line * most_instructions

-- These bytes are put into a buffer from offset p on, the rest is untouched, and r is the offset
-- after them, which is within the buffer.
pub record Puts (before after : List ℕ) (p : ℕ) (bytes : List ℕ) (r : ℕ) : Type 0 where
  pub buffer : after ≡ written before p bytes
  pub end : r ≡ p + length bytes
  pub inside : r ≤ length after
