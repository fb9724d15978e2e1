-- The answer of a call that gives a number of bytes or a refusal: a number, and two slots of a lent
-- answer array.
use Rattle.std.specs.Prelude.{ℕ, List, [], ◌∷◌}
use Rattle.formats.specs.Results.{Result, done, refusal, verdict}
use Rattle.answers.specs.Slots.{Answered}

-- How many slots the answer takes.
abbrev pub answer_slots : ℕ
answer_slots = 2

-- How many bytes were written; 0 on a refusal.
unfoldable pub byte_count : Result ℕ → ℕ
byte_count (done bytes) = bytes
byte_count (refusal number position) = 0

-- The call gives `r`, and the answer array is `before` at entry and `after` at exit: the refusal's
-- position is in slot 0, the number of bytes in slot 1.
abbrev pub Answers : (due : Result ℕ) (before after : List ℕ) (r : ℕ) → Type 0
Answers due before after r = Answered answer_slots (λ position. position ∷ byte_count due ∷ []) (verdict due) before after r
