-- What a stream run answers: a number, and the slots of a lent answer array.
use Rattle.std.specs.Prelude.{ℕ, suc, ◌+◌, ◌-◌, ◌^◌, ◌<◌, true, false, List, [], ◌∷◌, ◌≡◌, ltb, ℤ, pos, negsuc}
use Rattle.formats.specs.Numbers.{signed32}
use Rattle.meaning.specs.Running.{Answer}

-- How many slots the answer takes.
abbrev pub run_slots : ℕ
run_slots = 5

-- 01, Notation: "Labels, i and instruction numbers are two's complement." The number sign-extended:
-- a 32-bit word as the 64-bit word that stands for the same number.
unfoldable pub sign_extended : ℕ → ℕ
sign_extended w = elim (ltb w (2 ^ 31)) [ true ↦ w | false ↦ w + (2 ^ 64 - 2 ^ 32) ]

-- The number that a 64-bit word stands for: `signed32`, at 64 bits.
unfoldable pub signed64 : ℕ → ℤ
signed64 w = elim (ltb w (2 ^ 63)) [ true ↦ pos w | false ↦ negsuc (2 ^ 64 - suc w) ]

-- That `sign_extended` keeps the number. It holds of every 32-bit word (proofs/Extended: extends).
pub record Extends (w : ℕ) : Type 0 where
  -- a 64-bit word
  pub fits : sign_extended w < 2 ^ 64
  -- that stands for the same number
  pub same_number : signed64 (sign_extended w) ≡ signed32 w

-- Slot 0: the refusal's position, 0 where the run ended. Then units, bytes read, bytes written and
-- the number, sign-extended to 64 bits.
abbrev pub run_slots_of : ℕ → Answer → List ℕ
run_slots_of position a = position ∷ a.units ∷ a.bytes_read ∷ a.bytes_written ∷ sign_extended a.number ∷ []
