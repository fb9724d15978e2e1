-- What a run of a program file called from C or Rust answers, what its buffers then hold, and all
-- that is promised of a run of a program file.
use Rattle.std.specs.Prelude.{ℕ, ◌≤◌, true, false, List, ◌≡◌, ltb, length}
use Rattle.translation.specs.TranslateAndRun.{run_file}
use Rattle.translation.specs.ThisCall.{ran_with, ProgramRun}
use Rattle.run_answers.specs.RunSlots.{run_slots}
use Rattle.run_answers.specs.RunCall.{StreamCall}

-- A call of the runner. Its buffers are unprimed at entry, primed at exit; the answer array is
-- `before` at entry and `after` at exit. Where it has too few slots there is no run, and all
-- buffers are untouched.
pub record ProgramCall (file input output output' code code' values values' returns returns' before after : List ℕ) (fuel r : ℕ) : Type 0 where
  -- the answer's slots, every byte of the output, and the work words
  pub run :
      StreamCall (ran_with (run_file file input output code fuel (length values) (length returns)).answer (run_file file input output code fuel (length values) (length returns)).output)
      output output' values values' returns returns' before after r
  -- every byte of the code buffer
  pub code_is :
      code' ≡ elim (ltb (length before) run_slots) [
        | true ↦ code
        | false ↦ (run_file file input output code fuel (length values) (length returns)).code
      ]
  -- demand 3, and what holds on any input, about what the slots say (`run.answers`) and the output
  -- at exit
  pub program_run :
      run_slots ≤ length before
      → ProgramRun file input output code fuel (length values) (length returns)
      (run_file file input output code fuel (length values) (length returns)).answer
      output'
