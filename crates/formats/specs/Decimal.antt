-- Numbers in decimal, as the bytes of their digits.
use Rattle.std.specs.Prelude.{ℕ, zero, suc, ◌+◌, ◌/◌, ◌%◌, true, false, List, [], ◌∷◌, ◌++◌, ltb}
use Rattle.formats.specs.Characters.{digit_zero}

-- The last decimal digits of n, at most as many as the first argument says.
unfoldable pub digits : ℕ → ℕ → List ℕ
digits zero n = []
digits (suc most) n = elim (ltb n 10) [ true ↦ (digit_zero + n) ∷ [] | false ↦ digits most (n / 10) ++ ((digit_zero + n % 10) ∷ []) ]

-- All decimal digits of n: there are at most n + 1.
unfoldable pub decimal : ℕ → List ℕ
decimal n = digits (suc n) n
