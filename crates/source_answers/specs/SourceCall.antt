-- What a source run called from C or Rust answers, and what its buffers then hold: as of a stream
-- run, with its own slots and its own early refusals.
use Rattle.std.specs.Prelude.{ℕ, List}
use Rattle.meaning.specs.SourceRun.{SourceRan, passed_on}
use Rattle.meaning.specs.WorkWords.{before_source}
use Rattle.run_answers.specs.RunCall.{RunCall}
use Rattle.source_answers.specs.SourceSlots.{source_slots, source_slots_of}

abbrev pub SourceCall : (due : SourceRan) (input output output' values values' returns returns' before after : List ℕ) (r : ℕ) → Type 0
SourceCall due input output output' values values' returns returns' before after r =
    RunCall source_slots (λ position. source_slots_of position due.answer (passed_on due.answer.outcome input)) before_source due.answer.outcome due.output output output' values values' returns returns' before after r
