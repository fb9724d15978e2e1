-- A law for each way out of `source`.
use Prim.Native.Nat.{ℕ}
use mathlib.Core.Bool.{Bool, true, false, not}
use mathlib.Core.List.{List}
use mathlib.Core.Path.{◌≡◌, refl}
use lib.Dec.{leb}
use lib.ListN.{length}
use Rattle.formats.specs.Refusals.{space_too_short}
use Rattle.meaning.specs.SourceRun.{SourceRan}
use Rattle.source.specs.Inner.SourceAnswers.{source_answer, measures_in, Sourced}
use Rattle.source.specs.declared.SourceAnswer.{SourceAnswer}
use Rattle.run_answers.proofs.RunCall.{too_few, enough, not_called, called}
use Rattle.source_answers.specs.SourceSlots.{source_slots}
use Rattle.source_answers.specs.Inner.Stores.{AnswersSource}
use Rattle.source_answers.specs.SourceCall.{SourceCall}

module _ (due : SourceRan) (input output values returns before : List ℕ) (r : ℕ) (room : Bool) (test : room ≡ leb source_slots (length before)) where
  -- too few slots: nothing is run
  pub not_run : not room ≡ true → r ≡ space_too_short → SourceCall due input output output values values returns returns before before r
  not_run u e = not_called _ _ _ _ _ output values returns before r refl (too_few source_slots before room test u) e

  -- what was run is answered
  pub run_answered :
      (output' values' returns' after : List ℕ) (ran : SourceAnswer)
      → not room ≡ false
      → Sourced due input output' values values' returns returns' ran
      → AnswersSource (source_answer ran) (measures_in ran.outcome) before after r
      → SourceCall due input output output' values values' returns returns' before after r
  run_answered output' values' returns' after ran u p a =
      called _ _ _ _ _ output values returns before r output' values' returns' after (enough source_slots before room test u) (rw (← p.measures, ← p.answer) a) p.output p.words
