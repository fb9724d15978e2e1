-- The next stage after a record begins, whatever the table, the input and the words hold.
use Rattle.std.specs.Prelude.{ℕ, true, false, List, ltb}
use Rattle.stepwise.specs.Inner.Steps.{State, Turn, stuck, record_limit, looking, beginning}
use Rattle.stages.specs.declared.Stage.{Stage}
use Rattle.stages.specs.declared.Next.TheVariants.{Begin}
use Rattle.stages.specs.Inner.Stages.{state_of, staged, Reaches}
use Rattle.named_trees.specs.Inner.Offsets.{named_by}

-- The turn after record r begins: `beginning`, with the offset of the tree that the record names.
unfoldable pub begun_turn : (T input : List ℕ) → ℕ → State → Turn
begun_turn T input r s = elim (ltb r record_limit) [ true ↦ beginning T input (named_by T input r s) r s | false ↦ stuck ]

-- The step from a stage whose record r is to begin. It does not look at the return words.
pub record Begins (T input values values' : List ℕ) (r : ℕ) (s t : Stage) : Type 0 where
  pub is : (returns : List ℕ) → Reaches (begun_turn T input r (state_of values returns s)) values values' returns returns (staged s (Begin r)) t

-- .. and from one whose record looks at a tree.
pub record Looks (T input values values' : List ℕ) (r : ℕ) (s t : Stage) : Type 0 where
  pub is : (returns : List ℕ)
      → Reaches (looking T input (named_by T input r (state_of values returns s)) r (state_of values returns s)) values values' returns returns (staged s (Begin r)) t
