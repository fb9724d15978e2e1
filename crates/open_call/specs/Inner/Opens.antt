-- The next stage after a call opens, whatever the table, the input and the words hold.
use Rattle.std.specs.Prelude.{ℕ, true, false, List, ltb}
use Rattle.stepwise.specs.Inner.Steps.{State, Turn, stuck, record_limit, opening}
use Rattle.stages.specs.declared.Stage.{Stage}
use Rattle.stages.specs.declared.Next.TheVariants.{Open}
use Rattle.stages.specs.Inner.Stages.{state_of, staged, Reaches}
use Rattle.named_trees.specs.Inner.Offsets.{named_by}

-- The turn after a call opens: `opening`, with the offset of the tree that the call is on.
unfoldable pub opened_turn : (T input : List ℕ) → ℕ → State → Turn
opened_turn T input r s = elim (ltb r record_limit) [ true ↦ opening T (named_by T input r s) r s | false ↦ stuck ]

-- The step from a stage whose call at record r is to open.
pub record Opens (T input values values' returns returns' : List ℕ) (r : ℕ) (s t : Stage) : Type 0 where
  pub is : Reaches (opened_turn T input r (state_of values returns s)) values values' returns returns' (staged s (Open r)) t
