-- The node counts of function records, as the row "functions" sums them.
use Rattle.std.specs.Prelude.{ℕ, zero, suc, ◌+◌, List}
use Rattle.formats.specs.Inner.Fields.{count_in}

-- The sum of the node counts of so many functions, from function j on.
unfoldable pub counts_from : ℕ → List ℕ → ℕ → ℕ
counts_from zero s j = 0
counts_from (suc n) s j = count_in s j + counts_from n s (suc j)
