-- Entries counted from the oldest: names along a path, words above a frame's base.
use Rattle.std.specs.Prelude.{ℕ, true, false, List, [], ◌∷◌, length, eqb}
use Rattle.std.proofs.Math.Option.{Option, none, some}

-- Entry k of a list with its newest entry first, counted from 0 at the oldest, if there is one.
unfoldable pub at_level : {A : Type 0} → List A → ℕ → Option A
at_level [] k = none
at_level (x ∷ xs) k = elim (eqb k (length xs)) [ true ↦ some x | false ↦ at_level xs k ]
