-- The answer of a sum, as `result_of` has it.
use Rattle.std.specs.Prelude.{ℕ, Option, Some, None}
use Rattle.std.proofs.Math.Option.{Option as Word, none, some}

-- The word, if there is one.
abbrev pub word_in : Option ℕ → Word ℕ
word_in (Some w) = some w
word_in None = none
