-- The next stage in numbers after a call opens, whatever the table, the input and the words hold.
use Rattle.std.specs.Prelude.{ℕ, List}
use Rattle.stages.specs.declared.StageInNumbers.{StageInNumbers}
use Rattle.stages.specs.Inner.InNumbers.{state_of, Reaches}
use Rattle.open_call.specs.Inner.Opens.{opened_turn}

-- The step from a stage whose call is to open.
pub record Opens (T input values values' returns returns' : List ℕ) (s r : StageInNumbers) : Type 0 where
  pub is : Reaches (opened_turn T input s.node (state_of values returns s)) values values' returns returns' s r
