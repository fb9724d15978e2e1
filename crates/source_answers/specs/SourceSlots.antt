-- What a source run answers: a number, and the slots of a lent answer array.
use Rattle.std.specs.Prelude.{ℕ, List, [], ◌∷◌}
use Rattle.formats.specs.Measures.{Measures}
use Rattle.meaning.specs.SourceRun.{SourceAnswer}
use Rattle.run_answers.specs.RunSlots.{sign_extended}

-- How many slots the answer takes.
abbrev pub source_slots : ℕ
source_slots = 6

-- Slot 0: the refusal's position, 0 where the run ended. Then expressions begun, bytes written and
-- the number, sign-extended to 64 bits; and of the tree that was evaluated its tips and its depth,
-- both 0 where the run is refused, also where the tree was accepted.
abbrev pub source_slots_of : ℕ → SourceAnswer → Measures → List ℕ
source_slots_of position a m = position ∷ a.begun ∷ a.bytes_written ∷ sign_extended a.number ∷ m.tips ∷ m.depth ∷ []
