-- A law for each way out of `run`.
use Prim.Native.Nat.{ℕ}
use mathlib.Core.Bool.{Bool, true, false, not}
use mathlib.Core.List.{List}
use mathlib.Core.Path.{◌≡◌, refl}
use native.Mathlib.Omega.{arith}
use borrow.Author.Tests.{lt-ltb, le-ltb}
use lib.Dec.{leb}
use lib.ListN.{length}
use Rattle.formats.specs.Refusals.{space_too_short}
use Rattle.machine_state.specs.Inner.Answers.{run_answer}
use Rattle.machine_state.specs.declared.Answer.{Answer}
use Rattle.runner.specs.Inner.RunnerCall.{RunnerCall}
use Rattle.run_answers.specs.RunSlots.{run_slots}
use Rattle.run_answers.specs.Inner.Stores.{AnswersRun}
use Rattle.run_answers.proofs.RunCall.{too_few, enough, not_called, called}
use Rattle.run_calls.specs.ProgramCall.{ProgramCall}

module _ (file input output code values returns before : List ℕ) (fuel r : ℕ) (room : Bool) (test : room ≡ leb run_slots (length before)) where
  -- too few slots: nothing is run
  pub not_run : not room ≡ true → r ≡ space_too_short → ProgramCall file input output output code code values values returns returns before before fuel r
  not_run u e =
      let few = too_few run_slots before room test u in
      record {
        run = not_called _ _ _ _ _ output values returns before r refl few e;
        code_is = rw (lt-ltb _ _ few) refl;
        program_run = λ many. absurd (omega arith);
      }

  -- what was run is answered
  pub run_answered :
      (output' code' values' returns' after : List ℕ) (ran : Answer)
      → not room ≡ false
      → RunnerCall file input output output' code code' values values' returns returns' fuel ran
      → AnswersRun (run_answer ran) before after r
      → ProgramCall file input output output' code code' values values' returns returns' before after fuel r
  run_answered output' code' values' returns' after ran u p a =
      let many = enough run_slots before room test u in
      record {
        run = called _ _ _ _ _ output values returns before r output' values' returns' after many (rw (← p.answer) a) p.output_is p.words;
        code_is = rw (le-ltb _ _ many) p.code_is;
        program_run = λ h. rw (← p.answer) p.program_run;
      }

pub ruleset ways = (not_run, run_answered)
