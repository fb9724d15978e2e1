-- 01, Work words: "Work words after a run are unspecified." What holds of them all the same: their
-- number, and that a call which is refused before its run leaves them as they were. (A run without
-- fuel is a run: 14 is its own refusal.)
use Rattle.std.specs.Prelude.{ℕ, Bool, true, ◌||◌, List, ◌≡◌, eqb, leb, length}
use Rattle.formats.specs.Refusals.{space_too_short, input_ended, not_a_tag, too_deep}
use Rattle.formats.specs.Results.{Result, refusal}

-- The numbers that a call is refused with before its stream run: 1 to 13.
unfoldable pub before_stream : ℕ → Bool
before_stream number = leb number space_too_short

-- The numbers that a call is refused with before its source run: 1 to 13, and those of the tree
-- reader, 15, 16 and 20.
unfoldable pub before_source : ℕ → Bool
before_source number = leb number space_too_short || (eqb number input_ended || (eqb number not_a_tag || eqb number too_deep))

-- The work words of a call with this outcome: unprimed at entry, primed at exit. `before` says
-- which refusals come before the run.
pub record WorkWords (early : ℕ → Bool) (outcome : Result (Unit {0})) (values values' returns returns' : List ℕ) : Type 0 where
  -- as many as were lent
  pub values_length : length values' ≡ length values
  pub returns_length : length returns' ≡ length returns
  -- refused before the run: untouched
  pub values_kept : (number position : ℕ) → outcome ≡ refusal number position → early number ≡ true → values' ≡ values
  pub returns_kept : (number position : ℕ) → outcome ≡ refusal number position → early number ≡ true → returns' ≡ returns
