-- What every call answers: a number, and numbers in the first slots of a lent answer array.
use Rattle.std.specs.Prelude.{ℕ, true, false, List, ◌≡◌, ltb, length}
use Rattle.formats.specs.Refusals.{space_too_short}
use Rattle.formats.specs.Results.{Result, done, refusal}
use Rattle.formats.specs.Written.{written}

-- 0 where all is done, else the number of the refusal.
unfoldable pub refusal_of : Result (Unit {0}) → ℕ
refusal_of (done u) = 0
refusal_of (refusal number position) = number

-- 0 where all is done, else the position of the refusal.
unfoldable pub position_of : Result (Unit {0}) → ℕ
position_of (done u) = 0
position_of (refusal number position) = position

-- An answer of `count` slots: `row` gives them from the position of a refusal. The call gives `r`:
-- 13 where the array has too few slots, else 0 or the number of the refusal. The array is `before`
-- at entry and `after` at exit; with too few slots it is untouched.
pub record Answered (count : ℕ) (row : ℕ → List ℕ) (outcome : Result (Unit {0})) (before after : List ℕ) (r : ℕ) : Type 0 where
  pub number : r ≡ elim (ltb (length before) count) [ true ↦ space_too_short | false ↦ refusal_of outcome ]
  pub slots : after ≡ written before 0 (row (position_of outcome))
