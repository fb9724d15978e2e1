-- The next stage in numbers after a record begins, whatever the table, the input and the words
-- hold.
use Rattle.std.specs.Prelude.{ℕ, List}
use Rattle.stages.specs.declared.StageInNumbers.{StageInNumbers}
use Rattle.stages.specs.Inner.InNumbers.{state_of, Reaches}
use Rattle.begin_record.specs.Inner.Begins.{begun_turn}

-- The step from a stage whose record is to begin. It does not look at the return words.
pub record Begins (T input values values' : List ℕ) (s r : StageInNumbers) : Type 0 where
  pub is : (returns : List ℕ) → Reaches (begun_turn T input s.node (state_of values returns s)) values values' returns returns s r
