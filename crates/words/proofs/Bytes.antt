-- The laws of a byte read past the end, and of the numbers that bytes stand for.
use Prim.Native.Nat.{ℕ, ◌+◌, ◌≤◌}
use mathlib.Core.List.{List, [], ◌∷◌}
use mathlib.Core.Path.{◌≡◌, sym, ap, ◌∙◌}
use native.Mathlib.Omega.{arith}
use lib.ListN.{length, length-take, length-drop, take, drop, get_or, get_or-eq_default}
use Rattle.std.specs.Int.{w16, w32, from_le_bytes}
use Rattle.formats.specs.Numbers.{number_of, number_at}
use Rattle.formats.proofs.Numbers.{number_at_whole, number_cut}

-- past the end a byte reads as 0
pub byte_cut : (s : List ℕ) (p : ℕ) → length s ≤ p → 0 ≡ get_or s p 0
byte_cut s p cut = sym (get_or-eq_default s 0 cut)

-- what the library reads off two bytes, and off four, is their number
pub two_bytes : (bs : List ℕ) (r : ℕ) → length bs ≡ 2 → r ≡ from_le_bytes w16 bs → r ≡ number_of bs
unfolding number_of
two_bytes (b0 ∷ b1 ∷ []) r size is = omega arith
two_bytes [] r size is = absurd (omega arith)
two_bytes (b0 ∷ []) r size is = absurd (omega arith)
two_bytes (b0 ∷ b1 ∷ b2 ∷ s) r size is = absurd (omega arith)

pub four_bytes : (bs : List ℕ) (r : ℕ) → length bs ≡ 4 → r ≡ from_le_bytes w32 bs → r ≡ number_of bs
unfolding number_of
four_bytes (b0 ∷ b1 ∷ b2 ∷ b3 ∷ []) r size is = omega arith
four_bytes [] r size is = absurd (omega arith)
four_bytes (b0 ∷ []) r size is = absurd (omega arith)
four_bytes (b0 ∷ b1 ∷ []) r size is = absurd (omega arith)
four_bytes (b0 ∷ b1 ∷ b2 ∷ []) r size is = absurd (omega arith)
four_bytes (b0 ∷ b1 ∷ b2 ∷ b3 ∷ b4 ∷ s) r size is = absurd (omega arith)

-- so where they stand at an offset it is the number there
number_there : (width : ℕ) (s bs : List ℕ) (p r : ℕ) → p + width ≤ length s → bs ≡ take width (drop p s) → (length bs ≡ width → r ≡ number_of bs) → r ≡ number_at width s p
number_there width s bs p r whole there is =
    let size : length bs ≡ width = ap length there ∙ simp (length-take, length-drop) (omega arith) in
    is size ∙ ap number_of there ∙ sym (number_at_whole width s p whole)

pub two_read : (s bs : List ℕ) (p r : ℕ) → p + 2 ≤ length s → bs ≡ take 2 (drop p s) → r ≡ from_le_bytes w16 bs → r ≡ number_at 2 s p
two_read s bs p r whole there is = number_there 2 s bs p r whole there (λ size. two_bytes bs r size is)

pub four_read : (s bs : List ℕ) (p r : ℕ) → p + 4 ≤ length s → bs ≡ take 4 (drop p s) → r ≡ from_le_bytes w32 bs → r ≡ number_at 4 s p
four_read s bs p r whole there is = number_there 4 s bs p r whole there (λ size. four_bytes bs r size is)

pub ruleset numbers_read = (two_bytes, four_bytes, two_read, four_read, number_cut)
