-- The next stage in numbers after a record is finished, whatever the table, the input and the words
-- hold.
use Rattle.std.specs.Prelude.{ℕ, List}
use Rattle.stepwise.specs.Inner.Steps.{rising}
use Rattle.stages.specs.declared.StageInNumbers.{StageInNumbers}
use Rattle.stages.specs.Inner.InNumbers.{state_of, Reaches}

-- The step from a stage whose record is finished.
pub record Rises (T input values values' returns : List ℕ) (s r : StageInNumbers) : Type 0 where
  pub is : Reaches (rising T input s.node s.number (state_of values returns s)) values values' returns returns s r
