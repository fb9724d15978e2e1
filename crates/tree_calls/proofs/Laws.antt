-- The law of `tree`.
use Prim.Native.Nat.{ℕ}
use mathlib.Core.List.{List}
use mathlib.Core.Path.{◌≡◌, refl, subst}
use Rattle.std.specs.Prelude.{Result as Answer, Ok, Err}
use Rattle.std.specs.Result.{ResultUnwrapsOrElse}
use Rattle.formats.specs.Measures.{Measures, no_measures, measures_or0}
use Rattle.formats.specs.Results.{Result, done, refusal}
use Rattle.refusal.specs.Inner.Answered.{answered}
use Rattle.refusal.specs.Inner.Numbers.{number}
use Rattle.refusal.specs.declared.Refused.{Refused}
use Rattle.tree.specs.Inner.TreeResults.{measured, tree_result}
use Rattle.tree.specs.declared.Measures.{Measures as Found}
use Rattle.answers.specs.Slots.{refusal_of, position_of}
use Rattle.answers.specs.Inner.Stores.{Stored}
use Rattle.answers.proofs.Slots.{stored_reported}
use Rattle.tree_calls.specs.TreeCall.{tree_slots, tree_slots_of, TreeCall}

-- what was found is answered, where `nothing` says what is measured of no tree
module _ (nothing : Found → Type 0) (is_nothing : (m : Found) → nothing m → measured m ≡ no_measures) (before after : List ℕ) (r n position : ℕ) (m : Found) where
  answers_found : (found : Answer Found Refused)
      → n ≡ refusal_of (answered (λ x. tt) found)
      → position ≡ position_of (answered (λ x. tt) found)
      → ResultUnwrapsOrElse found nothing m
      → Stored (tree_slots_of position (measured m)) n before after r
      → TreeCall (tree_result found) before after r
  unfolding refusal_of position_of measures_or0
  answers_found (Ok f) is there same s = stored_reported tree_slots (λ p. tree_slots_of p (measured f)) (λ p. refl) before after r (done tt) n position is there (rw same at s)
  answers_found (Err e) is there none s =
      stored_reported tree_slots (λ p. tree_slots_of p no_measures) (λ p. refl) before after r (refusal (number e.why) e.position) n position is there
      (subst (λ (x : Measures). Stored (tree_slots_of position x) n before after r) (is_nothing m none) s)

  pub tree_answered : (due : Result Measures) (found : Answer Found Refused)
      → tree_result found ≡ due
      → n ≡ refusal_of (answered (λ x. tt) found)
      → position ≡ position_of (answered (λ x. tt) found)
      → ResultUnwrapsOrElse found nothing m
      → Stored (tree_slots_of position (measured m)) n before after r
      → TreeCall due before after r
  tree_answered due found reported is there same s = subst (λ (d : Result Measures). TreeCall d before after r) reported (answers_found found is there same s)
