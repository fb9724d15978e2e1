-- The refusal where work words are missing.
use Rattle.std.specs.Prelude.{ℕ, false, ◌&&◌, List, ◌≡◌, leb, length, Result as Answer}
use Rattle.refusal.specs.Inner.FilledBuffer.{FilledBuffer}
use Rattle.refusal.specs.declared.Refused.{Refused}
use Rattle.meaning.specs.Running.{value_words, return_words}
use Rattle.translation.specs.TranslateAndRun.{prepared}

-- The refusal of a call where work words are missing, however long its code buffer is.
pub record TooFewWords (file : List ℕ) (r : Answer ℕ Refused) : Type 0 where
  pub is : (code : List ℕ) (values returns : ℕ) → (leb value_words values && leb return_words returns) ≡ false → FilledBuffer (prepared (length code) values returns file) code code r
