-- A law for each way out of `perform`.
use Prim.Native.Nat.{ℕ}
use mathlib.Core.Bool.{Bool, true, false, not}
use mathlib.Core.List.{List}
use mathlib.Core.Path.{◌≡◌, refl}
use lib.Dec.{leb}
use lib.ListN.{length}
use Rattle.formats.specs.Refusals.{space_too_short}
use Rattle.meaning.specs.Running.{Ran}
use Rattle.machine_state.specs.Inner.Answers.{run_answer, Performed}
use Rattle.machine_state.specs.declared.Answer.{Answer}
use Rattle.run_answers.specs.RunSlots.{run_slots}
use Rattle.run_answers.specs.Inner.Stores.{AnswersRun}
use Rattle.run_answers.specs.RunCall.{StreamCall}
use Rattle.run_answers.proofs.RunCall.{too_few, enough, not_called, called}

module _ (due : Ran) (output values returns before : List ℕ) (r : ℕ) (room : Bool) (test : room ≡ leb run_slots (length before)) where
  -- too few slots: nothing is run
  pub not_run : not room ≡ true → r ≡ space_too_short → StreamCall due output output values values returns returns before before r
  not_run u e = not_called _ _ _ _ _ output values returns before r refl (too_few run_slots before room test u) e

  -- what was run is answered
  pub run_answered :
      (output' values' returns' after : List ℕ) (ran : Answer)
      → not room ≡ false
      → Performed due output' values values' returns returns' ran
      → AnswersRun (run_answer ran) before after r
      → StreamCall due output output' values values' returns returns' before after r
  run_answered output' values' returns' after ran u p a =
      called _ _ _ _ _ output values returns before r output' values' returns' after (enough run_slots before room test u) (rw (← p.answer) a) p.output p.words

pub ruleset ways = (not_run, run_answered)
