-- What a call of the runner gives, and all that is promised of a run of a program file.
use Rattle.std.specs.Prelude.{ℕ, List, ◌≡◌, length}
use Rattle.meaning.specs.WorkWords.{WorkWords, before_stream}
use Rattle.machine_state.specs.Inner.Answers.{run_answer}
use Rattle.machine_state.specs.declared.Answer.{Answer}
use Rattle.translation.specs.TranslateAndRun.{run_file}
use Rattle.translation.specs.ThisCall.{ProgramRun}

-- The call's answer `r`, and its buffers: unprimed at entry, primed at exit. The first three fields
-- say the whole answer, every byte of the output and every byte of the code buffer, by the one
-- definition `run_file` (`translation/specs/TranslateAndRun`).
pub record RunnerCall (file input output output' code code' values values' returns returns' : List ℕ) (fuel : ℕ) (r : Answer) : Type 0 where
  pub answer : run_answer r ≡ (run_file file input output code fuel (length values) (length returns)).answer
  pub output_is : output' ≡ (run_file file input output code fuel (length values) (length returns)).output
  pub code_is : code' ≡ (run_file file input output code fuel (length values) (length returns)).code
  pub words : WorkWords before_stream (run_file file input output code fuel (length values) (length returns)).answer.outcome values values' returns returns'
  -- demand 3 about this very call, and what holds of it on any input
  pub program_run : ProgramRun file input output code fuel (length values) (length returns) (run_answer r) output'
