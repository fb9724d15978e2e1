-- Laws of entries counted from the oldest.
use Prim.Native.Nat.{ℕ, ◌<◌}
use mathlib.Core.Bool.{Bool, true, false}
use mathlib.Core.List.{List, [], ◌∷◌}
use mathlib.Core.Logic.{◌≢◌}
use mathlib.Core.Option.{some, some-injective, none-ne-some}
use mathlib.Core.Path.{◌≡◌, refl, ◌∙◌}
use native.Mathlib.Omega.{arith}
use lib.ListN.{length}
use lib.Dec.{eqb}
use borrow.Author.Tests.{eq-eqb, ne_eqb, eqb-true, eqb-false}
use Rattle.formats.specs.Programs.{Every}
use Rattle.meaning.specs.Levels.{at_level}

-- the newest entry has the highest number
pub level_newest : {A : Type 0} (x : A) (k : ℕ) (xs : List A) → k ≡ length xs → at_level (x ∷ xs) k ≡ some x
unfolding at_level
level_newest x k xs e = rw (at_level, eq-eqb _ _ e)

-- the others keep theirs
pub level_older : {A : Type 0} (x : A) (k : ℕ) (xs : List A) → k ≢ length xs → at_level (x ∷ xs) k ≡ at_level xs k
unfolding at_level
level_older x k xs h = rw (at_level, ne_eqb _ _ h)

-- there is an entry of each number below their count
pub record Found {A : Type 0} (xs : List A) (k : ℕ) : Type 0 where
  pub entry : A
  pub is : at_level xs k ≡ some entry

pub level_found : {A : Type 0} (xs : List A) (k : ℕ) → k < length xs → Found xs k
level_found [] k h = absurd (omega arith)
level_found (x ∷ xs) k h = by_test (λ below. level_found xs k below) (eqb k (length xs)) refl
  where
    by_test : (k < length xs → Found xs k) → (b : Bool) → eqb k (length xs) ≡ b → Found (x ∷ xs) k
    by_test older true e = record { entry = x; is = level_newest x k xs (eqb-true k (length xs) e) }
    by_test older false e =
        let other : k ≢ length xs = eqb-false k (length xs) e in
        let found = older (omega arith) in
        record { entry = found.entry; is = level_older x k xs other ∙ found.is }

-- and of no other
pub level_below : {A : Type 0} (xs : List A) (k : ℕ) {x : A} → at_level xs k ≡ some x → k < length xs
unfolding at_level
level_below [] k {x} e = absurd (none-ne-some x e)
level_below (y ∷ xs) k {x} e = by_test (level_below xs k {x = x}) (eqb k (length xs)) refl e
  where
    by_test :
        (at_level xs k ≡ some x → k < length xs) → (b : Bool) → eqb k (length xs) ≡ b → elim b [ true ↦ some y | false ↦ at_level xs k ] ≡ some x
        → k < length (y ∷ xs)
    by_test older true t e = let newest = eqb-true k (length xs) t in omega arith
    by_test older false t e = let below = older e in omega arith

-- an entry that is found keeps its number when a newer one comes
pub level_kept : {A : Type 0} (y : A) (xs : List A) (k : ℕ) {x : A} → at_level xs k ≡ some x → at_level (y ∷ xs) k ≡ some x
level_kept y xs k e = let below = level_below xs k e in level_older y k xs (λ same. absurd (omega arith)) ∙ e

-- what holds of all entries holds of one that is found
pub level_every : {A : Type 0} (P : A → Type 0) (xs : List A) (k : ℕ) {x : A} → Every P xs → at_level xs k ≡ some x → P x
unfolding at_level
level_every P [] k {x} h e = absurd (none-ne-some x e)
level_every P (y ∷ xs) k {x} h e = by_test (level_every P xs k {x = x} h.1) (eqb k (length xs)) e
  where
    by_test : (at_level xs k ≡ some x → P x) → (b : Bool) → elim b [ true ↦ some y | false ↦ at_level xs k ] ≡ some x → P x
    by_test older true e = rw (some-injective y x e) at h.0
    by_test older false e = older e
