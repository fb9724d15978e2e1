-- What the tree reader called from C or Rust answers: a number, and the slots of a lent answer
-- array.
use Rattle.std.specs.Prelude.{ℕ, List, [], ◌∷◌}
use Rattle.formats.specs.Results.{Result, verdict}
use Rattle.formats.specs.Measures.{Measures, measures_or0}
use Rattle.answers.specs.Slots.{Answered}

-- How many slots the answer takes.
abbrev pub tree_slots : ℕ
tree_slots = 4

-- Slot 0: the refusal's position, 0 where there is a tree. Then the tree's length in bytes, its
-- tips and its depth, all 0 on a refusal.
abbrev pub tree_slots_of : ℕ → Measures → List ℕ
tree_slots_of position m = position ∷ m.bytes ∷ m.tips ∷ m.depth ∷ []

-- The call gives `r`, and the answer array is `before` at entry and `after` at exit.
abbrev pub TreeCall : (due : Result Measures) (before after : List ℕ) (r : ℕ) → Type 0
TreeCall due before after r = Answered tree_slots (λ position. tree_slots_of position (measures_or0 due)) (verdict due) before after r
