-- The answer of a source run: the laws of the functions that report it.
use Prim.Native.Nat.{ℕ}
use mathlib.Core.List.{List, [], ◌∷◌}
use mathlib.Core.Path.{◌≡◌, refl, subst}
use Rattle.refusal.specs.Inner.Answered.{answered}
use Rattle.answers.specs.Slots.{refusal_of, position_of}
use Rattle.answers.specs.Inner.Stores.{Stored}
use Rattle.answers.proofs.Slots.{stored_reported}
use Rattle.tree.specs.Inner.TreeResults.{measured}
use Rattle.source.specs.Inner.SourceAnswers.{measures_in, source_answer}
use Rattle.source.specs.declared.SourceAnswer.{SourceAnswer}
use Rattle.run_answers.specs.RunSlots.{sign_extended}
use Rattle.source_answers.specs.SourceSlots.{source_slots, source_slots_of}
use Rattle.source_answers.specs.declared.SourceAnswerInNumbers.{SourceAnswerInNumbers}
use Rattle.source_answers.specs.Inner.Stores.{answer_in_numbers, AnswersSource}

-- the row, with the number sign-extended
pub numbers_reported :
    (ran : SourceAnswerInNumbers) (n position word : ℕ) (before after : List ℕ) (r : ℕ)
    → n ≡ refusal_of (answered (λ x. tt) ran.verdict)
    → position ≡ position_of (answered (λ x. tt) ran.verdict)
    → word ≡ sign_extended ran.number
    → Stored (position ∷ ran.begun ∷ ran.written ∷ word ∷ ran.measures.tips ∷ ran.measures.depth ∷ []) n before after r
    → AnswersSource (answer_in_numbers ran) (measured ran.measures) before after r
numbers_reported ran n position word before after r is there extended s =
    stored_reported source_slots (λ p. source_slots_of p (answer_in_numbers ran) (measured ran.measures)) (λ p. refl) before after r (answered (λ x. tt) ran.verdict) n position is there
    (rw extended at s)

-- an answer is reported as the same in numbers
pub source_reported :
    (ran : SourceAnswer) (numbers : SourceAnswerInNumbers) (before after : List ℕ) (r : ℕ)
    → answer_in_numbers numbers ≡ source_answer ran
    → measured numbers.measures ≡ measures_in ran.outcome
    → AnswersSource (answer_in_numbers numbers) (measured numbers.measures) before after r
    → AnswersSource (source_answer ran) (measures_in ran.outcome) before after r
source_reported ran numbers before after r same measures reported =
    subst (λ m. AnswersSource (source_answer ran) m before after r) measures
    (subst (λ a. AnswersSource a (measured numbers.measures) before after r) same reported)
