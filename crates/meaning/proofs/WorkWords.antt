-- Laws of the work words: a call that touches none of them, and a call that comes to its run. And
-- which refusals come before a run, number by number.
use Prim.Native.Nat.{ℕ}
use mathlib.Core.Bool.{Bool, true, false, false≢true}
use mathlib.Core.List.{List, [], ◌∷◌, map}
use mathlib.Core.Path.{◌≡◌, refl, sym, ap, ◌∙◌}
use lib.ListN.{length}
use Rattle.formats.specs.Results.{Result, done, refusal}
use Rattle.formats.proofs.Results.{done_not, refusal_injective}
use Rattle.meaning.specs.WorkWords.{WorkWords, before_stream, before_source}

module _ (before : ℕ → Bool) (outcome : Result (Unit {0})) where
  pub untouched : (values returns : List ℕ) → WorkWords before outcome values values returns returns
  untouched values returns =
      record { values_length = refl; returns_length = refl; values_kept = λ n p e b. refl; returns_kept = λ n p e b. refl }

  module _ (values values' returns returns' : List ℕ) (lv : length values' ≡ length values) (lr : length returns' ≡ length returns) where
    pub ended : outcome ≡ done tt → WorkWords before outcome values values' returns returns'
    ended e = record { values_length = lv; returns_length = lr; values_kept = λ n p f b. done_not e f; returns_kept = λ n p f b. done_not e f }

    -- refused by the run itself
    pub run_refused : (number position : ℕ) → outcome ≡ refusal number position → before number ≡ false → WorkWords before outcome values values' returns returns'
    run_refused number position e late =
        record {
          values_length = lv;
          returns_length = lr;
          values_kept = λ n p f b. absurd (false≢true (sym late ∙ ap before (refusal_injective (sym e ∙ f)).0 ∙ b));
          returns_kept = λ n p f b. absurd (false≢true (sym late ∙ ap before (refusal_injective (sym e ∙ f)).0 ∙ b));
        }

-- ---- which refusals come before a run

-- 1, then 12 on, to the last number
abbrev numbers : List ℕ
numbers = 1 ∷ 12 ∷ 13 ∷ 14 ∷ 15 ∷ 16 ∷ 17 ∷ 18 ∷ 19 ∷ 20 ∷ 21 ∷ []

pub early :
    (map before_stream numbers ≡ true ∷ true ∷ true ∷ false ∷ false ∷ false ∷ false ∷ false ∷ false ∷ false ∷ false ∷ [])
    × (map before_source numbers ≡ true ∷ true ∷ true ∷ false ∷ true ∷ true ∷ false ∷ false ∷ false ∷ true ∷ false ∷ [])
unfolding before_stream before_source
early = (refl, refl)
