-- Items of any type written into a slice.
use Rattle.std.specs.Prelude.{ℕ, ◌+◌, true, false, List, ◌++◌, length, take, drop, leb}

-- The slice s with the items xs written at offset p, the rest untouched. Where xs does not fit, all
-- of s is untouched. Of bytes this is `formats/specs/Written: written`, which is about them alone.
unfoldable pub items_written : {A : Type 0} → List A → ℕ → List A → List A
items_written s p xs = elim (leb (p + length xs) (length s)) [ true ↦ take p s ++ (xs ++ drop (p + length xs) s) | false ↦ s ]
