-- What a run called from C or Rust answers, stream or source, and what its buffers then hold.
use Rattle.std.specs.Prelude.{ℕ, ◌<◌, Bool, true, false, List, ◌≡◌, ltb, length}
use Rattle.formats.specs.Results.{Result}
use Rattle.meaning.specs.Running.{Ran}
use Rattle.meaning.specs.WorkWords.{WorkWords, before_stream}
use Rattle.answers.specs.Slots.{Answered}
use Rattle.run_answers.specs.RunSlots.{run_slots, run_slots_of}

-- A run whose outcome is `outcome` and whose output is `due`. Its answer is `row`, stored in the
-- first `count` slots of the answer array, which is `before` at entry and `after` at exit; the
-- other buffers are unprimed at entry, primed at exit. Where the array has too few slots there is
-- no run, and all buffers are untouched. `early` says which refusals come before the run.
pub record RunCall (count : ℕ) (row : ℕ → List ℕ) (early : ℕ → Bool) (outcome : Result (Unit {0})) (due output output' values values' returns returns' before after : List ℕ) (r : ℕ) : Type 0 where
  pub answers : Answered count row outcome before after r
  pub output_is : output' ≡ elim (ltb (length before) count) [ true ↦ output | false ↦ due ]
  pub not_run : length before < count → (values' ≡ values) × (returns' ≡ returns)
  pub words : WorkWords early outcome values values' returns returns'

-- A stream run: `due` is what it gives.
abbrev pub StreamCall : (due : Ran) (output output' values values' returns returns' before after : List ℕ) (r : ℕ) → Type 0
StreamCall due output output' values values' returns returns' before after r =
    RunCall run_slots (λ position. run_slots_of position due.answer) before_stream due.answer.outcome due.output output output' values values' returns returns' before after r
