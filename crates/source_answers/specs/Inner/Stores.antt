-- What the functions that report a source run's answer promise.
use Rattle.std.specs.Prelude.{ℕ, List}
use Rattle.formats.specs.Measures.{Measures}
use Rattle.meaning.specs.SourceRun.{SourceAnswer}
use Rattle.answers.specs.Slots.{Answered}
use Rattle.refusal.specs.Inner.Verdicts.{verdict_result}
use Rattle.source_answers.specs.declared.SourceAnswerInNumbers.{SourceAnswerInNumbers}
use Rattle.source_answers.specs.SourceSlots.{source_slots_of, source_slots}

-- The answer in numbers, as 01, The source run, has it.
abbrev pub answer_in_numbers : SourceAnswerInNumbers → SourceAnswer
answer_in_numbers a = record { outcome = verdict_result a.verdict; begun = a.begun; bytes_written = a.written; number = a.number }

-- What is reported, with the slots of a source run.
abbrev pub AnswersSource : SourceAnswer → Measures → List ℕ → List ℕ → ℕ → Type 0
AnswersSource a m before after r = Answered source_slots (λ position. source_slots_of position a m) a.outcome before after r
