-- What the functions that store an answer promise.
use Rattle.std.specs.Prelude.{ℕ, true, false, List, [], ◌∷◌, ◌≡◌, ltb, length}
use Rattle.formats.specs.Refusals.{space_too_short}
use Rattle.formats.specs.Written.{written}

-- A row is stored and a number given: 13 where there are too few slots, which are then untouched.
pub record Stored (row : List ℕ) (number : ℕ) (before after : List ℕ) (r : ℕ) : Type 0 where
  pub given : r ≡ elim (ltb (length before) (length row)) [ true ↦ space_too_short | false ↦ number ]
  pub slots : after ≡ written before 0 row

-- Slot 0: the refusal's position, 0 where all is done. Slot 1: the bytes.
abbrev pub Stores : (number position bytes : ℕ) (before after : List ℕ) (r : ℕ) → Type 0
Stores number position bytes before after r = Stored (position ∷ bytes ∷ []) number before after r
