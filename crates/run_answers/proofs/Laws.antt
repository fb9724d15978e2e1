-- The answer of a stream run: the laws of the functions that report it.
use Prim.Native.Nat.{ℕ}
use mathlib.Core.List.{List, [], ◌∷◌}
use mathlib.Core.Path.{◌≡◌, refl, subst}
use Rattle.refusal.specs.Inner.Answered.{answered}
use Rattle.answers.specs.Slots.{refusal_of, position_of}
use Rattle.answers.specs.Inner.Stores.{Stored}
use Rattle.answers.proofs.Slots.{stored_reported}
use Rattle.machine_state.specs.Inner.Answers.{run_answer}
use Rattle.machine_state.specs.declared.Answer.{Answer}
use Rattle.run_answers.specs.declared.AnswerInNumbers.{AnswerInNumbers}
use Rattle.run_answers.specs.RunSlots.{run_slots, sign_extended, run_slots_of}
use Rattle.run_answers.specs.Inner.Stores.{answer_in_numbers, AnswersRun}

-- the row, with its last number sign-extended
pub numbers_reported :
    (ran : AnswerInNumbers) (n position word : ℕ) (before after : List ℕ) (r : ℕ)
    → n ≡ refusal_of (answered (λ x. tt) ran.verdict)
    → position ≡ position_of (answered (λ x. tt) ran.verdict)
    → word ≡ sign_extended ran.number
    → Stored (position ∷ ran.units ∷ ran.read ∷ ran.written ∷ word ∷ []) n before after r
    → AnswersRun (answer_in_numbers ran) before after r
numbers_reported ran n position word before after r is there extended s =
    stored_reported run_slots (λ p. run_slots_of p (answer_in_numbers ran)) (λ p. refl) before after r (answered (λ x. tt) ran.verdict) n position is there
    (rw extended at s)

-- an answer is reported as the same in numbers
pub run_reported :
    (ran : Answer) (numbers : AnswerInNumbers) (before after : List ℕ) (r : ℕ)
    → answer_in_numbers numbers ≡ run_answer ran
    → AnswersRun (answer_in_numbers numbers) before after r
    → AnswersRun (run_answer ran) before after r
run_reported ran numbers before after r same reported = subst (λ a. AnswersRun a before after r) same reported
