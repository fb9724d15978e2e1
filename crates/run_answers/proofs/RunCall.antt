-- Laws of runs called from C and Rust: there are too few slots, or what was run is answered.
use Prim.Native.Nat.{ℕ, ◌≤◌, ◌<◌}
use mathlib.Core.Bool.{Bool, true, false, not}
use mathlib.Core.List.{List}
use mathlib.Core.Path.{◌≡◌, refl, sym, ◌∙◌}
use native.Mathlib.Omega.{arith}
use borrow.Author.Tests.{not-true, not-false, leb-true, leb-false, lt-ltb, le-ltb}
use lib.Dec.{leb}
use lib.ListN.{length}
use Rattle.formats.specs.Refusals.{space_too_short}
use Rattle.formats.specs.Results.{Result}
use Rattle.meaning.specs.WorkWords.{WorkWords}
use Rattle.meaning.proofs.WorkWords.{untouched}
use Rattle.answers.specs.Slots.{Answered, position_of}
use Rattle.answers.proofs.Slots.{reported_short}
use Rattle.run_answers.specs.RunCall.{RunCall}

-- the test for the slots
module _ (count : ℕ) (before : List ℕ) (room : Bool) (test : room ≡ leb count (length before)) where
  pub too_few : not room ≡ true → length before < count
  too_few u = leb-false count (length before) (sym test ∙ not-true room u)

  pub enough : not room ≡ false → count ≤ length before
  enough u = leb-true count (length before) (sym test ∙ not-false room u)

module _ (count : ℕ) (row : ℕ → List ℕ) (early : ℕ → Bool) (outcome : Result (Unit {0})) (due output values returns before : List ℕ) (r : ℕ) where
  pub not_called : length (row (position_of outcome)) ≡ count → length before < count → r ≡ space_too_short
      → RunCall count row early outcome due output output values values returns returns before before r
  not_called long few e =
      record {
        answers = reported_short count row outcome before r long few e;
        output_is = rw (lt-ltb _ _ few) refl;
        not_run = λ h. (refl, refl);
        words = untouched early outcome values returns;
      }

  pub called : (output' values' returns' after : List ℕ) → count ≤ length before → Answered count row outcome before after r → output' ≡ due
      → WorkWords early outcome values values' returns returns'
      → RunCall count row early outcome due output output' values values' returns returns' before after r
  called output' values' returns' after many answers out words =
      record { answers = answers; output_is = rw (le-ltb _ _ many) out; not_run = λ few. absurd (omega arith); words = words }
