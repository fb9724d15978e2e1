-- What the functions that report a stream run's answer promise.
use Rattle.std.specs.Prelude.{ℕ, List}
use Rattle.meaning.specs.Running.{Answer}
use Rattle.answers.specs.Slots.{Answered}
use Rattle.refusal.specs.Inner.Verdicts.{verdict_result}
use Rattle.run_answers.specs.declared.AnswerInNumbers.{AnswerInNumbers}
use Rattle.run_answers.specs.RunSlots.{run_slots_of, run_slots}

-- The answer in numbers, as 01, The answer of a stream run, has it.
abbrev pub answer_in_numbers : AnswerInNumbers → Answer
answer_in_numbers a =
    record { outcome = verdict_result a.verdict; units = a.units; bytes_read = a.read; bytes_written = a.written; number = a.number }

-- What is reported, with the slots of a stream run.
abbrev pub AnswersRun : Answer → List ℕ → List ℕ → ℕ → Type 0
AnswersRun a before after r = Answered run_slots (λ position. run_slots_of position a) a.outcome before after r
