-- Calls from C and Rust: a law for each way out of them. What was found is answered.
use Prim.Native.Nat.{ℕ}
use mathlib.Core.Bool.{Bool, true, false, not}
use mathlib.Core.List.{List}
use mathlib.Core.Path.{◌≡◌, refl, sym, ◌∙◌}
use borrow.Author.Tests.{not-true, not-false, leb-true, leb-false, lt-ltb, le-ltb}
use lib.Dec.{leb}
use lib.ListN.{length}
use Rattle.std.specs.Prelude.{Result as Answer}
use Rattle.formats.specs.Refusals.{space_too_short}
use Rattle.formats.specs.Results.{Result, on_value}
use Rattle.refusal.specs.Inner.FilledBuffer.{filled_result, FilledBuffer}
use Rattle.refusal.specs.Inner.Verdicts.{verdict_result}
use Rattle.refusal.specs.declared.Refused.{Refused}
use Rattle.answers.specs.Answer.{answer_slots, Answers}
use Rattle.answers.specs.Fills.{Fills}
use Rattle.answers.proofs.Laws.{too_few}

-- ---- checks

pub verdict_reported : (due : Result (Unit {0})) (before after : List ℕ) (r : ℕ) (verdict : Answer (Unit {0}) Refused) → verdict_result verdict ≡ due
    → Answers (on_value (λ u. 0) (verdict_result verdict)) before after r → Answers (on_value (λ u. 0) due) before after r
verdict_reported due before after r verdict says a = rw (← says) a

-- ---- calls that fill a buffer

module _ (due : Result (List ℕ)) (buffer before : List ℕ) (r : ℕ) (room : Bool) (test : room ≡ leb answer_slots (length before)) where
  -- too few slots: nothing is filled
  pub not_filled : not room ≡ true → r ≡ space_too_short → Fills due buffer buffer before before r
  not_filled u e =
      let h = leb-false answer_slots (length before) (sym test ∙ not-true room u) in
      record { answers = too_few (on_value length due) before r h e; buffer_is = rw (lt-ltb _ _ h) refl }

  -- what was put is reported
  pub put_reported : (after reported : List ℕ) (filled : Answer ℕ Refused) → not room ≡ false → FilledBuffer due buffer after filled → Answers (filled_result filled) before reported r → Fills due buffer after before reported r
  put_reported after reported filled u put a =
      let h = leb-true answer_slots (length before) (sym test ∙ not-false room u) in
      record { answers = rw (← put.answer) a; buffer_is = rw (le-ltb _ _ h) put.buffer }

pub ruleset call_ways = (not_filled, put_reported)
