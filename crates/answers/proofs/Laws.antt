-- Answers of two slots: a law for each way out of the functions that report them.
use Prim.Native.Nat.{ℕ, ◌<◌}
use mathlib.Core.List.{List, [], ◌∷◌}
use mathlib.Core.Path.{◌≡◌, refl, sym, subst}
use lib.ListN.{length}
use Rattle.std.specs.Prelude.{Result as Answer, Ok, Err}
use Rattle.std.specs.Result.{result_unwrap_or}
use Rattle.formats.specs.Refusals.{space_too_short}
use Rattle.formats.specs.Results.{Result, done, refusal, verdict as outcome_of}
use Rattle.refusal.specs.Inner.Answered.{answered}
use Rattle.refusal.specs.Inner.FilledBuffer.{filled_result}
use Rattle.refusal.specs.Inner.Numbers.{number}
use Rattle.refusal.specs.declared.Refused.{Refused}
use Rattle.answers.specs.Slots.{refusal_of, position_of}
use Rattle.answers.specs.Answer.{answer_slots, byte_count, Answers}
use Rattle.answers.specs.Inner.Stores.{Stores}
use Rattle.answers.proofs.Slots.{reported_short, stored_reported}

-- too few slots
pub too_few : (due : Result ℕ) (before : List ℕ) (r : ℕ) → length before < answer_slots → r ≡ space_too_short → Answers due before before r
too_few due before r h e = reported_short answer_slots (λ position. position ∷ byte_count due ∷ []) (outcome_of due) before r refl h e

-- all is done, or a refusal
module _ (before after : List ℕ) (r : ℕ) where
  pub all_done : (due : Result ℕ) (bytes : ℕ) → due ≡ done bytes → Stores 0 0 bytes before after r → Answers due before after r
  unfolding refusal_of position_of byte_count
  all_done due bytes e s = subst (λ (d : Result ℕ). Answers d before after r) (sym e) (record { number = s.given; slots = s.slots })

  pub a_refusal : (due : Result ℕ) (n position : ℕ) → due ≡ refusal n position → Stores n position 0 before after r → Answers due before after r
  unfolding refusal_of position_of byte_count
  a_refusal due n position e s = subst (λ (d : Result ℕ). Answers d before after r) (sym e) (record { number = s.given; slots = s.slots })

-- what was filled, or why not
pub filled_reported : (filled : Answer ℕ Refused) (n position bytes : ℕ) (before after : List ℕ) (r : ℕ)
    → n ≡ refusal_of (answered (λ x. tt) filled)
    → position ≡ position_of (answered (λ x. tt) filled)
    → bytes ≡ result_unwrap_or filled 0
    → Stores n position bytes before after r
    → Answers (filled_result filled) before after r
unfolding refusal_of position_of byte_count
filled_reported (Ok b) n position bytes before after r en ep eb s = stored_reported answer_slots (λ p. p ∷ b ∷ []) (λ p. refl) before after r (done tt) n position en ep (rw eb at s)
filled_reported (Err e) n position bytes before after r en ep eb s =
    stored_reported answer_slots (λ p. p ∷ 0 ∷ []) (λ p. refl) before after r (refusal (number e.why) e.position) n position en ep (rw eb at s)
