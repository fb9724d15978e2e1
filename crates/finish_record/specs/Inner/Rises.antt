-- The next stage after a record is finished, whatever the table, the input and the words hold.
use Rattle.std.specs.Prelude.{ℕ, List, ◌≢◌, ◌≡◌}
use Rattle.formats.specs.Arithmetic.{plus}
use Rattle.stepwise.specs.Inner.Steps.{slot_at, parent_at, after_at, word_at, known_after, closing, computing, rising}
use Rattle.stages.specs.declared.Stage.{Stage}
use Rattle.stages.specs.Inner.Stages.{state_of, Reaches}

-- The step from a stage whose record r is finished with the number x.
pub record Rises (T input values values' returns : List ℕ) (r x : ℕ) (s t : Stage) : Type 0 where
  pub is : Reaches (rising T input r x (state_of values returns s)) values values' returns returns s t

-- ---- the functions that `rise` is made of

-- The offset of the tree whose end is known after a call closes.
pub record Knows (T input : List ℕ) (r own : ℕ) (s : Stage) (k : ℕ) : Type 0 where
  pub is : (values returns : List ℕ) → k ≡ known_after T input r own (state_of values returns s)

-- A call closes, and the one that waits goes on.
pub record Closes (T input returns : List ℕ) (x : ℕ) (s t : Stage) : Type 0 where
  pub is : (values : List ℕ) → Reaches (closing T input x (state_of values returns s)) values values returns returns s t

-- The operation on the number kept and the record's number.
pub record Adds (T values : List ℕ) (r x : ℕ) (s t : Stage) : Type 0 where
  pub is : (returns : List ℕ)
      → Reaches (computing plus (word_at (state_of values returns s) (slot_at T r)) x (parent_at T r) (state_of values returns s))
      values values returns returns s t

-- The record of the part that IfZero takes.
pub record Picks (T : List ℕ) (r x k : ℕ) : Type 0 where
  pub zero_part : x ≡ 0 → k ≡ after_at T r
  pub other_part : x ≢ 0 → k ≡ after_at T (after_at T r)
